-- Whether there are words, and what an input that was read is answered.
use Rattle.std.proofs.Common.{◌≡◌, ◌≢◌, Bool, true, false, List, [], ◌∷◌, length, inr, refl, sym, ◌∙◌, String, arith, ℕ}
use Rattle.std.specs.Global.{Vec}
use Rattle.std.specs.Prelude.{nat_eq, Result, Ok, Err}
use Rattle.std.specs.declared.alloc.Global.{Global}
use Rattle.std.proofs.lemmas.Bool.{eqb-true, false≢true}
use Rattle.willow_outside.specs.Facts.{SourceFacts}
use Rattle.peer_words.specs.Words.{texts}
use Rattle.peer_stage.specs.Stages.{IsReadWhole}
use Rattle.peer_stage.specs.declared.outcome.Stop.{Stop}
use Rattle.peer_stage.specs.declared.outcome.Stop.TheVariants as stop
use Rattle.mesh_answers.specs.Rules.{MeshRules}
use Rattle.mesh_command.specs.Runs.{AnswersBytes, AnswersInput}
use Rattle.mesh_command.specs.declared.run.TheConstants.{MESH_LIMIT}

pub no_words : (words : List (String Global)) (empty : Bool) → empty ≡ nat_eq (length words) 0 → empty ≡ true → texts words ≡ []
no_words [] empty is known = refl
no_words (w ∷ ws) empty is known = let zero : length (w ∷ ws) ≡ 0 = eqb-true _ _ (sym is ∙ known) in absurd (omega (arith, zero))

pub some_words : (words : List (String Global)) (empty : Bool) → empty ≡ nat_eq (length words) 0 → empty ≡ false → texts words ≢ []
some_words [] empty is known = λ none. false≢true (sym known ∙ is)
some_words (w ∷ ws) empty is known = λ none. absurd cc

-- bytes that are the whole input are answered as the input is
pub input_answered : (rules : MeshRules) (i i' : SourceFacts) (bytes : List ℕ) (end : Result (Vec ℕ) Stop) → IsReadWhole MESH_LIMIT i i' bytes → AnswersBytes rules bytes end → AnswersInput rules i i' end
input_answered rules i i' bytes (Ok text) read does = record { bytes = bytes; read = read; answered = does }
input_answered rules i i' bytes (Err (stop.BadInput origin at)) read does = ((bytes, inr (read, does.0)), does.1)
input_answered rules i i' bytes (Err stop.NoMemory) read does = (bytes, read.taken)
input_answered rules i i' bytes (Err e) read does = absurd does
