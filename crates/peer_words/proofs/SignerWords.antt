-- The front of a word tells which signer it can be.
use Rattle.std.proofs.Common.{◌≡◌, ℕ, List, ◌++◌, codes, String, get_or, ap, arith, sym, subst, ◌∙◌}
use Rattle.std.specs.declared.alloc.Global.{Global}
use Rattle.peer_words.specs.Signers.{IsSignerWord, IsOpenBody}
use Rattle.peer_words.specs.Values.{IsNameWord}
use Rattle.peer_words.specs.declared.command.SignerWord.{SignerWord}
use Rattle.peer_words.specs.declared.command.SignerWord.TheVariants.{OpenKey, LmsFile}

pub behind_open : (a b : List ℕ) → codes "open:" ++ a ≡ codes "open:" ++ b → a ≡ b
behind_open a b same = cc

pub behind_lms : (a b : List ℕ) → codes "lms:" ++ a ≡ codes "lms:" ++ b → a ≡ b
behind_lms a b same = cc

pub apart : (a b : List ℕ) → codes "open:" ++ a ≡ codes "lms:" ++ b → ⊥
apart a b same =
    let first : ◌≡◌ {A = ℕ} 111 108 = ap (λ (word : List ℕ). get_or word 0 0) same in
    absurd (omega arith)

pub no_open : (word rest : List ℕ) → word ≡ codes "open:" ++ rest → ((key : List ℕ) → IsOpenBody rest key → ⊥) → (signer : SignerWord) → IsSignerWord word signer → ⊥
no_open word rest front none (OpenKey key) is = none key (subst (λ (d : List ℕ). IsOpenBody d key) (behind_open is.spelled.digits rest (sym is.spelled.spelled ∙ front)) is.spelled.is_body)
no_open word rest front none (LmsFile name) is = apart rest is.spelled.file (sym front ∙ is.spelled.spelled)

pub no_file : (word rest : List ℕ) → word ≡ codes "lms:" ++ rest → ((name : String Global) → IsNameWord rest name → ⊥) → (signer : SignerWord) → IsSignerWord word signer → ⊥
no_file word rest lms none (OpenKey key) is = apart is.spelled.digits rest (sym is.spelled.spelled ∙ lms)
no_file word rest lms none (LmsFile name) is = none name (subst (λ (d : List ℕ). IsNameWord d name) (behind_lms is.spelled.file rest (sym is.spelled.spelled ∙ lms)) is.spelled.is_name)
