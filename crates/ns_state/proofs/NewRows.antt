-- What one more row makes of what is new and what is live.
use Rattle.std.proofs.Common.{◌≡◌, inl, Bool, true, false, cond, List, [], ◌∷◌, ◌++◌, refl, sym, ap, ◌∙◌, subst, append_assoc, append-nil}
use Rattle.std.specs.List.{list_any}
use Rattle.std.proofs.lemmas.Bool.{false_from_ne_true}
use Rattle.willow_entry.specs.Pruning.{new_after}
use Rattle.willow_entry.specs.Row.{RowValue, is_dominating, is_covering, place_cmp, live, new, HasCovering}
use Rattle.willow_entry.proofs.Members.{contains_from_member, member_from_contains, member_append_right, any_false, true_of_any}
use Rattle.willow_entry.proofs.Pruning.{pruned_member}
use Rattle.willow_entry.proofs.RowLaws.{covering_means, rows_prune}
use Rattle.willow_entry.proofs.Live.{live-covered, live_covers, live-new}

-- what is new of two lists, one behind the other
new_after-append : {X : Type 0} (covers : X → X → Bool) (earlier xs ys : List X) → new_after covers earlier (xs ++ ys) ≡ new_after covers earlier xs ++ new_after covers (earlier ++ xs) ys
unfolding new_after
new_after-append covers earlier [] ys = ap (λ l. new_after covers l ys) (sym (append-nil earlier))
new_after-append {X} covers earlier (x ∷ xs) ys =
    let more : new_after covers (earlier ++ x ∷ []) (xs ++ ys) ≡ new_after covers (earlier ++ x ∷ []) xs ++ new_after covers (earlier ++ x ∷ xs) ys =
    new_after-append covers (earlier ++ x ∷ []) xs ys ∙ ap (λ l. new_after covers (earlier ++ x ∷ []) xs ++ new_after covers l ys) (append_assoc earlier (x ∷ []) xs) in
    let P : Bool → Type 0 = λ b. cond b (new_after covers (earlier ++ x ∷ []) (xs ++ ys)) (x ∷ new_after covers (earlier ++ x ∷ []) (xs ++ ys))
    ≡ cond b (new_after covers (earlier ++ x ∷ []) xs) (x ∷ new_after covers (earlier ++ x ∷ []) xs) ++ new_after covers (earlier ++ x ∷ xs) ys in
    let each : (b : Bool) → P b = elim [ true ↦ more | false ↦ ap (λ l. x ∷ l) more ] in
    each (list_any (λ y. covers y x) earlier)

pub covered_test : (rows : List RowValue) (r : RowValue) → HasCovering rows r → list_any (λ s. is_covering s r) rows ≡ true
covered_test rows r h = true_of_any (λ s. is_covering s r) rows h.0 (member_from_contains rows h.0 h.1) ((covering_means h.0 r).1 h.2)

pub uncovered_test : (rows : List RowValue) (r : RowValue) → (HasCovering rows r → ⊥) → list_any (λ s. is_covering s r) rows ≡ false
uncovered_test rows r none = any_false (λ s. is_covering s r) rows (λ s m. false_from_ne_true (is_covering s r) (λ t. none (s, contains_from_member rows s m, (covering_means s r).0 t)))

pub new-with_covered : (rows : List RowValue) (r : RowValue) → HasCovering rows r → new (rows ++ r ∷ []) ≡ new rows
unfolding new_after
new-with_covered rows r h = new_after-append is_covering [] rows (r ∷ []) ∙ ap (λ b. new rows ++ cond b [] (r ∷ [])) (covered_test rows r h) ∙ append-nil (new rows)

pub new-with_uncovered : (rows : List RowValue) (r : RowValue) → (HasCovering rows r → ⊥) → new (rows ++ r ∷ []) ≡ new rows ++ r ∷ []
unfolding new_after
new-with_uncovered rows r none = new_after-append is_covering [] rows (r ∷ []) ∙ ap (λ b. new rows ++ cond b [] (r ∷ [])) (uncovered_test rows r none)

-- ---- what is live, and what is new, cover what the list covers

pub live_covering : (rows : List RowValue) (r : RowValue) → HasCovering rows r → HasCovering (live rows) r
live_covering rows r h = subst (λ l. HasCovering l r) (live-covered rows r h) (live_covers (rows ++ r ∷ []) r (contains_from_member (rows ++ r ∷ []) r (member_append_right rows (r ∷ []) r (inl refl))))

pub covering_of_live : (rows : List RowValue) (r : RowValue) → HasCovering (live rows) r → HasCovering rows r
covering_of_live rows r h = (h.0, contains_from_member rows h.0 (pruned_member is_dominating place_cmp rows_prune rows h.0 (member_from_contains (live rows) h.0 h.1)).0, h.2)

-- lists of which the same is live cover the same
pub covering_alike : (xs ys : List RowValue) (r : RowValue) → live xs ≡ live ys → HasCovering xs r → HasCovering ys r
covering_alike xs ys r same h = covering_of_live ys r (subst (λ l. HasCovering l r) same (live_covering xs r h))

pub covering_of_new : (rows : List RowValue) (r : RowValue) → HasCovering (new rows) r → HasCovering rows r
covering_of_new rows r h = covering_alike (new rows) rows r (live-new rows) h

pub new_covering : (rows : List RowValue) (r : RowValue) → HasCovering rows r → HasCovering (new rows) r
new_covering rows r h = covering_alike rows (new rows) r (sym (live-new rows)) h
