-- The words behind a verb, and what tells verbs apart.
use Rattle.std.proofs.Common.{◌≡◌, ◌≢◌, ℕ, Bool, true, false, List, ◌∷◌, ◌++◌, get_or, codes, sym, ap, subst, ◌∙◌, arith}
use Rattle.std.specs.Prelude.{not}
use Rattle.std.specs.Str.{bytes_eq}
use Rattle.std.proofs.lemmas.Bool.{false≢true}
use Rattle.std.proofs.lemmas.Slice.Eq.{bytes_eq-Decides}
use Rattle.mesh_lines.specs.Lines.{AreOffer, AreMeet, AreSame, IsLine}
use Rattle.mesh_lines.specs.declared.line.MeshLine.{MeshLine}
use Rattle.mesh_lines.specs.declared.line.MeshLine.TheVariants.{Offer, Meet, Same}

-- ---- words that differ

-- what `!=` and `==` tell of bytes
pub differs : (xs ys zs : List ℕ) (r : Bool) → r ≡ not (bytes_eq xs ys) → ys ≡ zs → r ≡ true → xs ≡ zs → ⊥
differs xs ys zs r is same other equal =
    let both : bytes_eq xs ys ≡ true = (bytes_eq-Decides xs ys).1 (equal ∙ sym same) in
    false≢true (sym (is ∙ ap not both) ∙ other)

pub unlike : (xs ys zs : List ℕ) (r : Bool) → r ≡ bytes_eq xs ys → ys ≡ zs → r ≡ false → xs ≡ zs → ⊥
unlike xs ys zs r is same other equal =
    let both : bytes_eq xs ys ≡ true = (bytes_eq-Decides xs ys).1 (equal ∙ sym same) in
    false≢true (sym other ∙ is ∙ both)

-- ---- behind a verb

behind_offer : (a b : List ℕ) → codes "offer " ++ a ≡ codes "offer " ++ b → a ≡ b
behind_offer a b same = cc

behind_meet : (a b : List ℕ) → codes "meet " ++ a ≡ codes "meet " ++ b → a ≡ b
behind_meet a b same = cc

behind_same : (a b : List ℕ) → codes "same " ++ a ≡ codes "same " ++ b → a ≡ b
behind_same a b same = cc

pub behind_nodes : (a b : List ℕ) → codes "nodes " ++ a ≡ codes "nodes " ++ b → a ≡ b
behind_nodes a b same = cc

-- ---- apart

first_of : List ℕ → ℕ
first_of word = get_or word 0 0

offer_meet : (a b : List ℕ) → codes "offer " ++ a ≡ codes "meet " ++ b → ⊥
unfolding first_of
offer_meet a b same = let first : ◌≡◌ {A = ℕ} 111 109 = ap first_of same in absurd (omega arith)

offer_same : (a b : List ℕ) → codes "offer " ++ a ≡ codes "same " ++ b → ⊥
unfolding first_of
offer_same a b same = let first : ◌≡◌ {A = ℕ} 111 115 = ap first_of same in absurd (omega arith)

meet_same : (a b : List ℕ) → codes "meet " ++ a ≡ codes "same " ++ b → ⊥
unfolding first_of
meet_same a b same = let first : ◌≡◌ {A = ℕ} 109 115 = ap first_of same in absurd (omega arith)

-- ---- a line by its verb

-- what a line says, where these are the words behind its verb
abbrev pub OffersLine : ℕ → List ℕ → MeshLine → Type 0
OffersLine nodes words (Offer node row) = AreOffer nodes words node row
OffersLine nodes words l = ⊥

abbrev pub MeetsLine : ℕ → List ℕ → MeshLine → Type 0
MeetsLine nodes words (Meet left right subspace from) = AreMeet nodes words left right subspace from
MeetsLine nodes words l = ⊥

abbrev pub SameLine : ℕ → List ℕ → MeshLine → Type 0
SameLine nodes words (Same left right) = AreSame nodes words left right
SameLine nodes words l = ⊥

pub offers : (nodes : ℕ) (words : List ℕ) (l : MeshLine) → IsLine nodes (codes "offer " ++ words) l → OffersLine nodes words l
offers nodes words (Offer node row) is = subst (λ (w : List ℕ). AreOffer nodes w node row) (sym (behind_offer words is.0 is.1)) is.2
offers nodes words (Meet left right subspace from) is = offer_meet words is.0 is.1
offers nodes words (Same left right) is = offer_same words is.0 is.1

pub meets : (nodes : ℕ) (words : List ℕ) (l : MeshLine) → IsLine nodes (codes "meet " ++ words) l → MeetsLine nodes words l
meets nodes words (Offer node row) is = offer_meet is.0 words (sym is.1)
meets nodes words (Meet left right subspace from) is = subst (λ (w : List ℕ). AreMeet nodes w left right subspace from) (sym (behind_meet words is.0 is.1)) is.2
meets nodes words (Same left right) is = meet_same words is.0 is.1

pub sames : (nodes : ℕ) (words : List ℕ) (l : MeshLine) → IsLine nodes (codes "same " ++ words) l → SameLine nodes words l
sames nodes words (Offer node row) is = offer_same is.0 words (sym is.1)
sames nodes words (Meet left right subspace from) is = meet_same is.0 words (sym is.1)
sames nodes words (Same left right) is = subst (λ (w : List ℕ). AreSame nodes w left right) (sym (behind_same words is.0 is.1)) is.2
