-- Rows: what the tests of domination mean, and that pruning them is pruning as such.
use Rattle.std.proofs.Common.{◌≡◌, ◌⊎◌, inl, inr, true, false, ◌&&◌, List, sym, ap, ◌∙◌, subst, Decides, Equal, is_gt}
use Rattle.std.specs.Cmp.Lexicographic.{bytes_decides}
use Rattle.std.proofs.lemmas.Cmp.{nat_list_cmp_total, tied_back}
use Rattle.std.proofs.lemmas.Bool.{false≢true, both_ways, and_parts, and_from, or_cases, or_left, or_right, or_parts, and_cases, false_from_ne_true}
use Rattle.willow_path.specs.Path.{is_prefix, IsPrefix}
use Rattle.willow_entry.specs.declared.entry.Entry.{Entry}
use Rattle.willow_entry.specs.Rank.{RankValue}
use Rattle.willow_entry.specs.Entry.{bytes_cmp, same_bytes, rank_of, entry_rank_cmp, is_newer, same_entry, IsNewer, IsAbove}
use Rattle.willow_entry.specs.Pruning.{Covers, IsPruning}
use Rattle.willow_entry.specs.Row.{RowValue, same_row, is_stronger, is_dominating, is_covering, place_cmp, Dominates, HasCovering, IsUndominatedBy, IsLive, live}
use Rattle.willow_path.proofs.PathOrder.{is_prefix_decides}
use Rattle.willow_entry.proofs.Prefixes.{prefix_of_itself, prefix_chain}
use Rattle.willow_entry.proofs.Ranks.{newer_decides, rank_from_newer, newer_from_rank, entry_rank_total, rank_tie, greater_from_test, tie_from_tests, above_chain, not_above_itself, bytes_tie, entry_same, same_entry_decides, place_total, place_tie}
use Rattle.willow_entry.proofs.Members.{contains_from_member, member_from_contains}
use Rattle.willow_entry.proofs.Pruning.{IsUndominated, IsCovered, pruned_member, member_pruned, pruned-rises, pruned-only}

-- ---- stronger

-- a newer entry, or the same entry with a greater token
abbrev pub IsStronger : RowValue → RowValue → Type 0
IsStronger r s = IsNewer r.entry s.entry ⊎ ((r.entry ≡ s.entry) × IsAbove r.token s.token)

pub stronger_decides : (r s : RowValue) → Decides (is_stronger r s) (IsStronger r s)
unfolding is_stronger
stronger_decides r s = (there, back) where
  there : is_stronger r s ≡ true → IsStronger r s
  there e = elim (or_cases (is_newer r.entry s.entry) (same_entry r.entry s.entry && is_gt (bytes_cmp r.token s.token)) e) [
    | inl n ↦ inl ((newer_decides r.entry s.entry).0 n)
    | inr t ↦ (let b = and_parts (same_entry r.entry s.entry) (is_gt (bytes_cmp r.token s.token)) t in
        inr ((same_entry_decides r.entry s.entry).0 b.0, greater_from_test (bytes_cmp r.token s.token) b.1))
  ]

  back : IsStronger r s → is_stronger r s ≡ true
  back (inl n) = or_left (is_newer r.entry s.entry) (same_entry r.entry s.entry && is_gt (bytes_cmp r.token s.token)) ((newer_decides r.entry s.entry).1 n)
  back (inr t) = or_right (is_newer r.entry s.entry) (same_entry r.entry s.entry && is_gt (bytes_cmp r.token s.token))
      (and_from (same_entry r.entry s.entry) (is_gt (bytes_cmp r.token s.token)) ((same_entry_decides r.entry s.entry).1 t.0) (ap is_gt t.1))

stronger_chain : (r s t : RowValue) → IsStronger r s → IsStronger s t → IsStronger r t
stronger_chain r s t (inl a) (inl b) = inl (newer_from_rank r.entry t.entry (above_chain entry_rank_total r.entry s.entry t.entry (rank_from_newer r.entry s.entry a) (rank_from_newer s.entry t.entry b)))
stronger_chain r s t (inl a) (inr b) = inl (subst (λ e. IsNewer r.entry e) b.0 a)
stronger_chain r s t (inr a) (inl b) = inl (subst (λ e. IsNewer e t.entry) (sym a.0) b)
stronger_chain r s t (inr a) (inr b) = inr (a.0 ∙ b.0, above_chain nat_list_cmp_total r.token s.token t.token a.1 b.1)

not_stronger_itself : (r : RowValue) → IsStronger r r → ⊥
not_stronger_itself r (inl n) = false≢true (sym (not_above_itself entry_rank_total r.entry) ∙ ap is_gt (rank_from_newer r.entry r.entry n))
not_stronger_itself r (inr t) = false≢true (sym (not_above_itself nat_list_cmp_total r.token) ∙ ap is_gt t.1)

-- ---- domination

pub dominates_decides : (r s : RowValue) → Decides (is_dominating r s) (Dominates r s)
unfolding is_dominating
dominates_decides r s = (there, back) where
  there : is_dominating r s ≡ true → Dominates r s
  there e =
      let a = and_parts (same_bytes r.entry.namespace s.entry.namespace) _ e in
      let b = and_parts (same_bytes r.entry.subspace s.entry.subspace) _ a.1 in
      let c = and_parts (is_prefix r.entry.path s.entry.path) _ b.1 in
      record {
        namespace = (bytes_decides r.entry.namespace s.entry.namespace).0 a.0;
        subspace = (bytes_decides r.entry.subspace s.entry.subspace).0 b.0;
        path = (is_prefix_decides r.entry.path s.entry.path).0 c.0;
        stronger = (stronger_decides r s).0 c.1;
      }

  back : Dominates r s → is_dominating r s ≡ true
  back d =
      and_from (same_bytes r.entry.namespace s.entry.namespace) _ ((bytes_decides r.entry.namespace s.entry.namespace).1 d.namespace)
      (and_from (same_bytes r.entry.subspace s.entry.subspace) _ ((bytes_decides r.entry.subspace s.entry.subspace).1 d.subspace)
      (and_from (is_prefix r.entry.path s.entry.path) (is_stronger r s) ((is_prefix_decides r.entry.path s.entry.path).1 d.path) ((stronger_decides r s).1 d.stronger)))

pub dominates_not_itself : (r : RowValue) → Dominates r r → ⊥
dominates_not_itself r d = not_stronger_itself r d.stronger

pub dominates_chain : (r s t : RowValue) → Dominates r s → Dominates s t → Dominates r t
dominates_chain r s t a b = record {
  namespace = a.namespace ∙ b.namespace;
  subspace = a.subspace ∙ b.subspace;
  path = prefix_chain r.entry.path s.entry.path t.entry.path a.path b.path;
  stronger = stronger_chain r s t a.stronger b.stronger;
}

-- ---- equal rows

pub row_same : (r s : RowValue) → r.entry ≡ s.entry → r.token ≡ s.token → r ≡ s
row_same r s e t = λ i. record { entry = e i; token = t i }

pub same_row_decides : (r s : RowValue) → Decides (same_row r s) (r ≡ s)
unfolding same_row
same_row_decides r s = (there, back) where
  there : same_row r s ≡ true → r ≡ s
  there e = let b = and_parts (same_entry r.entry s.entry) (same_bytes r.token s.token) e in
      row_same r s ((same_entry_decides r.entry s.entry).0 b.0) ((bytes_decides r.token s.token).0 b.1)

  back : r ≡ s → same_row r s ≡ true
  back e = and_from (same_entry r.entry s.entry) (same_bytes r.token s.token)
      ((same_entry_decides r.entry s.entry).1 (ap (λ w. w.entry) e)) ((bytes_decides r.token s.token).1 (ap (λ w. w.token) e))

-- a row covers itself and what it dominates
pub covering_decides : (r s : RowValue) → Decides (is_covering r s) (Covers is_dominating r s)
unfolding is_covering
covering_decides r s = (there, back) where
  there : is_covering r s ≡ true → Covers is_dominating r s
  there e = elim (or_cases (same_row r s) (is_dominating r s) e) [ inl p ↦ inl ((same_row_decides r s).0 p) | inr d ↦ inr d ]

  back : Covers is_dominating r s → is_covering r s ≡ true
  back (inl e) = or_left (same_row r s) (is_dominating r s) ((same_row_decides r s).1 e)
  back (inr d) = or_right (same_row r s) (is_dominating r s) d

-- the same in the words of contracts
pub covering_means : (r s : RowValue) → Decides (is_covering r s) ((r ≡ s) ⊎ Dominates r s)
covering_means r s = (there, back) where
  there : is_covering r s ≡ true → (r ≡ s) ⊎ Dominates r s
  there e = elim ((covering_decides r s).0 e) [ inl p ↦ inl p | inr d ↦ inr ((dominates_decides r s).0 d) ]

  back : (r ≡ s) ⊎ Dominates r s → is_covering r s ≡ true
  back (inl p) = (covering_decides r s).1 (inl p)
  back (inr d) = (covering_decides r s).1 (inr ((dominates_decides r s).1 d))

-- ---- the premises of pruning

not_stronger_newer : (r s : RowValue) → is_stronger r s ≡ false → is_newer r.entry s.entry ≡ false
unfolding is_stronger
not_stronger_newer r s e = (or_parts (is_newer r.entry s.entry) (same_entry r.entry s.entry && is_gt (bytes_cmp r.token s.token)) e).0

not_stronger_token : (r s : RowValue) → is_stronger r s ≡ false → r.entry ≡ s.entry → is_gt (bytes_cmp r.token s.token) ≡ false
unfolding is_stronger
not_stronger_token r s e same =
    elim (and_cases (same_entry r.entry s.entry) (is_gt (bytes_cmp r.token s.token)) (or_parts (is_newer r.entry s.entry) (same_entry r.entry s.entry && is_gt (bytes_cmp r.token s.token)) e).1) [
      | inl f ↦ absurd (both_ways (same_entry r.entry s.entry) f ((same_entry_decides r.entry s.entry).1 same))
      | inr t ↦ t
    ]

-- at one place only strength decides
not_stronger_there : (r s : RowValue) → place_cmp r s ≡ Equal → is_dominating r s ≡ false → is_stronger r s ≡ false
not_stronger_there r s tie e =
    let at = place_tie r s tie in
    false_from_ne_true (is_stronger r s) (λ t. both_ways (is_dominating r s) e ((dominates_decides r s).1 (record {
      namespace = at.0;
      subspace = at.1;
      path = subst (λ p. IsPrefix r.entry.path p) at.2 (prefix_of_itself r.entry.path);
      stronger = (stronger_decides r s).0 t;
    })))

not_newer_either : (e f : Entry) → is_newer e f ≡ false → is_newer f e ≡ false → entry_rank_cmp e f ≡ Equal
unfolding is_newer
not_newer_either e f a b = tie_from_tests entry_rank_total e f a b

back_tie : (r s : RowValue) → place_cmp r s ≡ Equal → place_cmp s r ≡ Equal
back_tie r s tie = tied_back place_total r s tie

pub settled_rows : (r s : RowValue) → place_cmp r s ≡ Equal → is_dominating r s ≡ false → is_dominating s r ≡ false → r ≡ s
settled_rows r s tie a b =
    let at = place_tie r s tie in
    let x = not_stronger_there r s tie a in
    let y = not_stronger_there s r (back_tie r s tie) b in
    let rank = rank_tie (rank_of r.entry) (rank_of s.entry) (not_newer_either r.entry s.entry (not_stronger_newer r s x) (not_stronger_newer s r y)) in
    let entries = entry_same r.entry s.entry at.0 at.1 at.2 (ap (λ (v : RankValue). v.timestamp) rank) (ap (λ (v : RankValue). v.length) rank) (ap (λ (v : RankValue). v.digest) rank) in
    row_same r s entries (bytes_tie r.token s.token (tie_from_tests nat_list_cmp_total r.token s.token (not_stronger_token r s x entries) (not_stronger_token s r y (sym entries))))

pub rows_prune : IsPruning is_dominating place_cmp
rows_prune = record {
  irreflexive = λ r. false_from_ne_true (is_dominating r r) (λ e. dominates_not_itself r ((dominates_decides r r).0 e));
  transitive = λ r s t a b. (dominates_decides r t).1 (dominates_chain r s t ((dominates_decides r s).0 a) ((dominates_decides s t).0 b));
  total = place_total;
  settled = settled_rows;
}

-- ---- live rows

pub undominated_rows : (rows : List RowValue) (s : RowValue) → IsUndominatedBy rows s → IsUndominated is_dominating rows s
undominated_rows rows s u = λ r m. false_from_ne_true (is_dominating r s) (λ e. u r (contains_from_member rows r m) ((dominates_decides r s).0 e))

pub rows_undominated : (rows : List RowValue) (s : RowValue) → IsUndominated is_dominating rows s → IsUndominatedBy rows s
rows_undominated rows s u = λ r c d. both_ways (is_dominating r s) (u r (member_from_contains rows r c)) ((dominates_decides r s).1 d)

pub IsLive-live : (rows : List RowValue) → IsLive rows (live rows)
IsLive-live rows = record {
  is_rising = pruned-rises is_dominating place_cmp rows_prune rows;
  members = λ r. (
    (λ c. let k = pruned_member is_dominating place_cmp rows_prune rows r (member_from_contains (live rows) r c) in
        (contains_from_member rows r k.0, rows_undominated rows r k.1)),
    (λ k. contains_from_member (live rows) r (member_pruned is_dominating place_cmp rows_prune rows r (member_from_contains rows r k.0) (undominated_rows rows r k.1))),
  );
}

-- only the live rows are so
pub live-only : (rows kept : List RowValue) → IsLive rows kept → kept ≡ live rows
live-only rows kept l = pruned-only is_dominating place_cmp rows_prune rows kept l.is_rising
    (λ r m. let k = (l.members r).0 (contains_from_member kept r m) in (member_from_contains rows r k.0, undominated_rows rows r k.1))
    (λ r m u. member_from_contains kept r ((l.members r).1 (contains_from_member rows r m, rows_undominated rows r u)))

-- ---- covering, in the words of contracts

pub covering_from_covered : (rows : List RowValue) (s : RowValue) → IsCovered is_dominating rows s → HasCovering rows s
covering_from_covered rows s c = (c.0, contains_from_member rows c.0 c.1, elim c.2 [ inl e ↦ inl e | inr d ↦ inr ((dominates_decides c.0 s).0 d) ])

pub covered_from_covering : (rows : List RowValue) (s : RowValue) → HasCovering rows s → IsCovered is_dominating rows s
covered_from_covering rows s c = (c.0, member_from_contains rows c.0 c.1, elim c.2 [ inl e ↦ inl e | inr d ↦ inr ((dominates_decides c.0 s).1 d) ])
