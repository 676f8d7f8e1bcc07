-- Paths of numbers at which no item stands yet.
use Rattle.std.proofs.Common.{◌≡◌, inl, inr, ℕ, ◌+◌, ◌<◌, ◌≤◌, ◌^◌, List, [], ◌∷◌, false, get_or, sym, ap, ◌∙◌, arith}
use Rattle.std.specs.Int.{w32, to_be_bytes, from_be_bytes}
use Rattle.std.specs.Cmp.{Equal-is}
use Rattle.std.proofs.lemmas.Bool.{false_from_ne_true}
use Rattle.std.proofs.lemmas.Nat.{from_be_bytes-to_be_bytes_4}
use Rattle.willow_entry.specs.Row.{subspace_path_cmp}
use Rattle.willow_entry.proofs.Members.{any_false, false_of_any}
use Rattle.willow_entry.proofs.Ranks.{subspace_path_tie}
use Rattle.recency_index.specs.declared.ranked.Ranked.{Ranked}
use Rattle.recency_index.specs.Recency.{newest, is_at, has_at}
use Rattle.recency_index.proofs.Newest.{member_from_newest}

abbrev pub path_of : ℕ → List (List ℕ)
path_of n = to_be_bytes w32 n ∷ []

-- from this number on, no item stands at the path of a number
abbrev pub AreFreeFrom : ℕ → List Ranked → Type 0
AreFreeFrom n items = (subspace : List ℕ) (m : ℕ) → n ≤ m → m < 2 ^ 32 → has_at subspace (path_of m) items ≡ false

one_number : (n m : ℕ) → n < 2 ^ 32 → m < 2 ^ 32 → path_of n ≡ path_of m → n ≡ m
one_number n m below above same =
    sym (from_be_bytes-to_be_bytes_4 n below) ∙ ap (λ path. from_be_bytes w32 (get_or path 0 [])) same ∙ from_be_bytes-to_be_bytes_4 m above

pub free_more : (n : ℕ) (item : Ranked) (items : List Ranked) → n < 2 ^ 32 → item.path ≡ path_of n → AreFreeFrom n items → AreFreeFrom (n + 1) (newest (item ∷ items))
free_more n item items below here free = λ subspace m le above. any_false (is_at subspace (path_of m)) (newest (item ∷ items)) (λ x member.
    elim (member_from_newest (item ∷ items) x member) [
      | inl same ↦ false_from_ne_true (is_at subspace (path_of m) x) (λ t.
          let tied = subspace_path_tie (x.subspace, x.path) (subspace, path_of m) ((Equal-is (subspace_path_cmp (x.subspace, x.path) (subspace, path_of m))).0 t) in
          let number = one_number n m below above (sym here ∙ ap (λ i. i.path) same ∙ ap (λ p. p.1) tied) in
          absurd (omega (arith, number)))
      | inr old ↦ false_of_any (is_at subspace (path_of m)) items (free subspace m (omega arith) above) x old
    ])
