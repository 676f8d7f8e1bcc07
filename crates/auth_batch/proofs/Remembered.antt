-- What is kept by a hash of its bytes is valid, whatever is looked up or put.
use Rattle.std.proofs.Common.{◌≡◌, ℕ, Bool, List, Contains, Option, Some, None, refl, sym, ap, subst, inl, inr, ◌∙◌}
use Rattle.std.specs.Prelude.{nat_eq, Result, Ok, Err, OnOk, OnErr}
use Rattle.std.specs.Global.{Vec}
use Rattle.std.specs.Map.{lookup}
use Rattle.lru.specs.LruCache.{LruCache, lru_cache, promoted, put_entries}
use Rattle.lru.proofs.CallerLemmas.{Contains-lookup, Contains-promoted, Contains-put_entries}
use Rattle.scheme_core.specs.Rules.{Rules}
use Rattle.mc_cap.specs.Forms.{capability_spelling, IsCapability}
use Rattle.mc_cap.specs.declared.capability.Capability.{Capability}
use Rattle.auth_entry.specs.Authorised.{capability_refusal}
use Rattle.auth_entry.specs.Known.{IsKnown}
use Rattle.auth_entry.proofs.Remembered.{is_known}

-- all that is kept is valid
abbrev pub AllKnown : Rules → List (ℕ × Vec ℕ) → Type 0
AllKnown rules entries = (p : ℕ × Vec ℕ) → Contains entries p → IsKnown rules p.1

pub promoted_known : (rules : Rules) (entries : List (ℕ × Vec ℕ)) (hash : ℕ) → AllKnown rules entries → AllKnown rules (promoted (nat_eq hash) entries)
promoted_known rules entries hash all p has = all p (Contains-promoted (nat_eq hash) entries p has)

-- what a look-up finds is valid
pub found_known : (rules : Rules) (entries : List (ℕ × Vec ℕ)) (hash : ℕ) (kept : Vec ℕ) → AllKnown rules entries → Some kept ≡ lookup (nat_eq hash) entries → IsKnown rules kept
found_known rules entries hash kept all found =
    let at = Contains-lookup (nat_eq hash) entries kept (sym found) in
    all (at.0, kept) at.1

-- after a valid one is put all are valid
pub put_known : (rules : Rules) (cache : LruCache ℕ (Vec ℕ)) (hash : ℕ) (kept : Vec ℕ) (c : Capability) → AllKnown rules cache.entries → IsCapability c
    → kept.items ≡ capability_spelling c → capability_refusal rules c ≡ None → AllKnown rules (put_entries nat_eq cache hash kept)
put_known rules cache hash kept c all fits spelled valid p has = elim (Contains-put_entries nat_eq cache hash kept p has) [
  | inl was ↦ all p was
  | inr put ↦ subst (IsKnown rules) (sym put.0) (is_known rules kept c fits spelled valid)
]

-- the same where it was put, and where it was not
pub kept_known : {T E : Type 0} (rules : Rules) (old new : LruCache ℕ (Vec ℕ)) (hash : ℕ) (kept : Vec ℕ) (c : Capability) → AllKnown rules old.entries → IsCapability c
    → kept.items ≡ capability_spelling c → capability_refusal rules c ≡ None → (r : Result T E)
    → OnOk r (new ≡ lru_cache (put_entries nat_eq old hash kept) old.cap) → OnErr r (new ≡ old) → AllKnown rules new.entries
kept_known rules old new hash kept c all fits spelled valid (Ok x) put same =
    subst (λ (cache : LruCache ℕ (Vec ℕ)). AllKnown rules cache.entries) (sym put) (put_known rules old hash kept c all fits spelled valid)
kept_known rules old new hash kept c all fits spelled valid (Err e) put same =
    subst (λ (cache : LruCache ℕ (Vec ℕ)). AllKnown rules cache.entries) (sym same) all
