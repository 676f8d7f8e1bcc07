use Rattle.std.proofs.Common.{ℕ, List, ◌++◌, codes, ap, sym, ◌∙◌}
use Rattle.peer_words.specs.Signers.{IsSignerWord}
use Rattle.peer_words.specs.Values.{IsNameWord}
use Rattle.peer_words.proofs.Endings.{passed_on}
use Rattle.peer_words.proofs.SignerWords.{no_open, no_file}
use Rattle.peer_words.proofs.signer.SignerWordWord.of_word.Goals as goal

pub returns-in-None-clause-reads : goal.returns-in-None-clause-reads
returns-in-None-clause-reads c =
    let cut = c.in-Some.ensures.cases in
    no_open c.args.word.now c.in-Some.digits.now (cut.1.1 ∙ ap (λ (rest : List ℕ). codes "open:" ++ rest) (sym cut.2)) c.in-None.ensures

pub returns-in_err-of_word-clause-reads : goal.returns-in_err-of_word-clause-reads
returns-in_err-of_word-clause-reads c =
    let cut = c.in-Some-strip_prefix.ensures.cases in
    let file = c.in-Some-strip_prefix.file.now in
    passed_on (λ name. IsNameWord file name.0) (IsSignerWord c.args.word.now) c.in_err-of_word.field-0.0 c.from_residual.result c.from_residual.ensures.1 c.in_err-of_word.ensures.reads
    (λ none. no_file c.args.word.now file (cut.1.1 ∙ ap (λ (rest : List ℕ). codes "lms:" ++ rest) (sym cut.2)) (λ name is. none (record { 0 = name }) is))
