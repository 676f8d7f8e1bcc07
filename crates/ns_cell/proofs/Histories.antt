-- What is live of the log of a closed cell is the join of all that its passes were told.
use Rattle.std.proofs.Common.{◌≡◌, ◌⊎◌, ℕ, zero, suc, ◌==◌, List, [], ◌∷◌, ◌++◌, map, All, Contains, Ok, Err, inl, inr, ⊎_elim, sym, refl, ap, ◌∙◌, subst, eq-eqb}
use Rattle.std.proofs.lemmas.List.{map-append}
use mathlib.Core.List.{IsPrefix}
use Rattle.willow_entry.specs.Row.{RowValue, live, join, HasCovering}
use Rattle.willow_entry.specs.declared.row.LogRow.{LogRow}
use Rattle.willow_entry.proofs.Between.{covering_from_at}
use Rattle.willow_entry.proofs.Live.{live_alike}
use Rattle.willow_entry.proofs.Members.{Member, contains_from_member, member_from_contains, member_append_left, member_append_right, member_append_cases, member_filter}
use Rattle.ns_state.specs.Log.{values}
use Rattle.ns_state.specs.declared.state.Told.TheVariants.{Stored, Kept}
use Rattle.log_rule.specs.Views.{rows_of_pass}
use Rattle.log_rule.proofs.Prefixes.{prefix_self, prefix_trans}
use Rattle.ns_cell.specs.Passes.{CellValue, PassValue, opening_rows, new_pass}
use Rattle.ns_cell.specs.Answers.{Call, Offers, Reads, Makes, offered, stored_by}
use Rattle.ns_cell.specs.Closed.{IsClosed}
use Rattle.ns_cell.specs.Histories.{CallMade, Leads, accepted_by, accepted_in, accepted_of, HaveDone, IsJoinOfAll}
use Rattle.ns_cell.proofs.Offers.{kept_is, call_later, own_grows}

module _ {X Y : Type 0} (f : X → Y) where
  member_map : (xs : List X) (x : X) → Member xs x → Member (map f xs) (f x)
  member_map [] x m = m
  member_map (y ∷ xs) x (inl e) = inl (ap f e)
  member_map (y ∷ xs) x (inr m) = inr (member_map xs x m)

  map_member : (xs : List X) (y : Y) → Member (map f xs) y → (x : X) × Member xs x × (f x ≡ y)
  map_member [] y m = absurd m
  map_member (x ∷ xs) y (inl e) = (x, inl refl, e)
  map_member (x ∷ xs) y (inr m) = let found = map_member xs y m in (found.0, inr found.1, found.2)

all_member : {X : Type 0} (P : X → Type 0) (xs : List X) (x : X) → All P xs → Member xs x → P x
all_member P xs x all m = let at = contains_from_member xs x m in subst P at.2 (all at.0 x at.1)

module _ {R : Type 0} (value : R → RowValue) where
  abbrev row_value : LogRow R → RowValue
  row_value l = value l.row

  -- what the front of a log covers the log does
  covering_front : (front log : List (LogRow R)) (r : RowValue) → IsPrefix front log → HasCovering (values value front) r → HasCovering (values value log) r
  covering_front front log r p h =
      let there : Member (values value front ++ values value p.0) h.0 = member_append_left (values value front) (values value p.0) h.0 (member_from_contains (values value front) h.0 h.1) in
      let is : values value front ++ values value p.0 ≡ values value log = sym (map-append row_value front p.0) ∙ ap (values value) p.1 in
      (h.0, contains_from_member (values value log) h.0 (subst (λ l. Member l h.0) is there), h.2)

  -- ---- one deed

  -- what is told Stored or Kept is covered by what is then seen
  told_covered : (before after : PassValue R) (call : Call R) → Makes value before call after → (row : R) → Member (accepted_by call) row → HasCovering (values value after.seen) (value row)
  told_covered before after (Offers offer (Ok (Stored at))) h row (inl e) =
      let new : LogRow R = offered before offer in
      let last : Member after.seen new = subst (λ (l : List (LogRow R)). Member l new) (sym h.1.answer.log_is) (member_append_right h.1.log (new ∷ []) new (inl refl)) in
      subst (λ r. HasCovering (values value after.seen) (value r)) e (value offer, contains_from_member (values value after.seen) (value offer) (member_map row_value after.seen new last), inl refl)
  told_covered before after (Offers offer (Ok (Stored at))) h row (inr m) = absurd m
  told_covered before after (Offers offer (Ok (Kept at))) h row (inl e) =
      subst (λ r. HasCovering (values value after.seen) (value r)) e (covering_from_at (values value after.seen) at (value offer) (kept_is value before after offer at h.1).0)
  told_covered before after (Offers offer (Ok (Kept at))) h row (inr m) = absurd m
  told_covered before after (Offers offer (Err e)) h row m = absurd m
  told_covered before after Reads h row m = absurd m

  stored_accepted : (before : PassValue R) (call : Call R) (l : LogRow R) → Member (stored_by before call) l → Member (accepted_by call) l.row
  stored_accepted before (Offers offer (Ok (Stored at))) l (inl e) = inl (ap (λ k. k.row) e)
  stored_accepted before (Offers offer (Ok (Stored at))) l (inr m) = absurd m
  stored_accepted before (Offers offer (Ok (Kept at))) l m = absurd m
  stored_accepted before (Offers offer (Err e)) l m = absurd m
  stored_accepted before Reads l m = absurd m

  -- ---- the deeds of a pass

  leads_seen : (first last : PassValue R) (deeds : List (CallMade R)) → Leads value first deeds last → IsPrefix first.seen last.seen
  leads_seen first last [] h = subst (λ (p : PassValue R). IsPrefix first.seen p.seen) (sym h) (prefix_self first.seen)
  leads_seen first last (d ∷ ds) h = prefix_trans first.seen d.after.seen last.seen (call_later value first d.after d.call h.0).seen (leads_seen d.after last ds h.1)

  pub leads_on : (first last after : PassValue R) (deeds : List (CallMade R)) (call : Call R) → Leads value first deeds last → Makes value last call after
      → Leads value first (deeds ++ record { call = call; after = after } ∷ []) after
  leads_on first last after [] call h made = (subst (λ p. Makes value p call after) h made, refl)
  leads_on first last after (d ∷ ds) call h made = (h.0, leads_on d.after last after ds call h.1 made)

  accepted_covered : (first last : PassValue R) (deeds : List (CallMade R)) → Leads value first deeds last → (row : R) → Member (accepted_in deeds) row → HasCovering (values value last.seen) (value row)
  accepted_covered first last [] h row m = absurd m
  accepted_covered first last (d ∷ ds) h row m = ⊎_elim
      (λ (k : Member (accepted_by d.call) row). covering_front d.after.seen last.seen (value row) (leads_seen d.after last ds h.1) (told_covered first d.after d.call h.0 row k))
      (λ (k : Member (accepted_in ds) row). accepted_covered d.after last ds h.1 row k)
      (member_append_cases (accepted_by d.call) (accepted_in ds) row m)

  -- the rows that a pass has for its own it had at first, or was told Stored
  own_from : (first last : PassValue R) (deeds : List (CallMade R)) → Leads value first deeds last → (l : LogRow R) → Member last.own l → Member first.own l ⊎ Member (accepted_in deeds) l.row
  own_from first last [] h l m = inl (subst (λ (p : PassValue R). Member p.own l) h m)
  own_from first last (d ∷ ds) h l m = ⊎_elim
      (λ (k : Member d.after.own l). ⊎_elim
      (λ (n : Member first.own l). inl n)
      (λ (n : Member (stored_by first d.call) l). inr (member_append_left (accepted_by d.call) (accepted_in ds) l.row (stored_accepted first d.call l n)))
      (member_append_cases first.own (stored_by first d.call) l (subst (λ (own : List (LogRow R)). Member own l) (own_grows value first d.after d.call h.0) k)))
      (λ (k : Member (accepted_in ds) l.row). inr (member_append_right (accepted_by d.call) (accepted_in ds) l.row k))
      (own_from d.after last ds h.1 l m)

  -- ---- all passes

  opening_member : (number : ℕ) (opening : List (LogRow R)) (l : LogRow R) → Member (opening_rows number opening) l → Member opening l
  opening_member zero opening l m = m
  opening_member (suc number) opening l m = absurd m

  module _ (deeds : ℕ → List (CallMade R)) where
    accepted_here : (passes : List (PassValue R)) (pass : PassValue R) (row : R) → Member passes pass → Member (accepted_in (deeds pass.number)) row → Member (accepted_of deeds passes) row
    accepted_here [] pass row at m = absurd at
    accepted_here (p ∷ ps) pass row (inl e) m =
        member_append_left (accepted_in (deeds p.number)) (accepted_of deeds ps) row (subst (λ (q : PassValue R). Member (accepted_in (deeds q.number)) row) (sym e) m)
    accepted_here (p ∷ ps) pass row (inr at) m = member_append_right (accepted_in (deeds p.number)) (accepted_of deeds ps) row (accepted_here ps pass row at m)

    whose : (passes : List (PassValue R)) (row : R) → Member (accepted_of deeds passes) row → (pass : PassValue R) × Member passes pass × Member (accepted_in (deeds pass.number)) row
    whose [] row m = absurd m
    whose (p ∷ ps) row m = ⊎_elim
        (λ (k : Member (accepted_in (deeds p.number)) row). (p, inl refl, k))
        (λ (k : Member (accepted_of deeds ps) row). let found = whose ps row k in (found.0, inr found.1, found.2))
        (member_append_cases (accepted_in (deeds p.number)) (accepted_of deeds ps) row m)

    module _ (cell : CellValue) (opening log : List (LogRow R)) (passes : List (PassValue R)) (did : HaveDone value cell opening deeds passes) (closed : IsClosed passes log) where
      abbrev told : List RowValue
      told = map value (accepted_of deeds passes)

      led : (pass : PassValue R) → Member passes pass → Leads value (new_pass cell opening pass.number) (deeds pass.number) pass
      led pass m = all_member (λ (p : PassValue R). Leads value (new_pass cell opening p.number) (deeds p.number) p) passes pass did m

      front : (pass : PassValue R) → Member passes pass → IsPrefix pass.seen log
      front pass m = all_member (λ (p : PassValue R). IsPrefix p.seen log) passes pass closed.prefixes m

      opened : IsPrefix opening log
      opened =
          let long = closed.longest in
          subst (IsPrefix opening) long.2 (leads_seen (new_pass cell opening long.0.number) long.0 (deeds long.0.number) (led long.0 (member_from_contains passes long.0 long.1)))

      -- the log covers the opening rows and what was told
      log_covers : (r : RowValue) → Contains (values value opening ++ told) r → HasCovering (values value log) r
      log_covers r c = ⊎_elim
          (λ (m : Member (values value opening) r). covering_front opening log r opened (r, contains_from_member (values value opening) r m, inl refl))
          (λ (m : Member told r).
          let found = map_member value (accepted_of deeds passes) r m in
          let by = whose passes found.0 found.1 in
          subst (HasCovering (values value log)) found.2
          (covering_front by.0.seen log (value found.0) (front by.0 by.1)
          (accepted_covered (new_pass cell opening by.0.number) by.0 (deeds by.0.number) (led by.0 by.1) found.0 by.2)))
          (member_append_cases (values value opening) told r (member_from_contains (values value opening ++ told) r c))

      -- a row of the log is one of the opening, or was told Stored
      row_from : (l : LogRow R) → Member log l → Member opening l ⊎ Member (accepted_of deeds passes) l.row
      row_from l m =
          let by = all_member (λ (row : LogRow R). (pass : PassValue R) × Contains passes pass × (pass.number ≡ row.pass)) log l closed.known m in
          let pass = by.0 in
          let here = member_from_contains passes pass by.1 in
          let own : rows_of_pass pass.number log ≡ pass.own = all_member (λ (p : PassValue R). rows_of_pass p.number log ≡ p.own) passes pass closed.own here in
          let mine : Member pass.own l = subst (λ (k : List (LogRow R)). Member k l) own (member_filter (λ (row : LogRow R). pass.number == row.pass) log l m (eq-eqb pass.number l.pass by.2)) in
          ⊎_elim
          (λ (k : Member (opening_rows pass.number opening) l). inl (opening_member pass.number opening l k))
          (λ (k : Member (accepted_in (deeds pass.number)) l.row). inr (accepted_here passes pass l.row here k))
          (own_from (new_pass cell opening pass.number) pass (deeds pass.number) (led pass here) l mine)

      covers_log : (r : RowValue) → Contains (values value log) r → HasCovering (values value opening ++ told) r
      covers_log r c =
          let found = map_member row_value log r (member_from_contains (values value log) r c) in
          let there : Member (values value opening ++ told) (value found.0.row) = ⊎_elim
          (λ (k : Member opening found.0). member_append_left (values value opening) told (value found.0.row) (member_map row_value opening found.0 k))
          (λ (k : Member (accepted_of deeds passes) found.0.row). member_append_right (values value opening) told (value found.0.row) (member_map value (accepted_of deeds passes) found.0.row k))
          (row_from found.0 found.1) in
          (value found.0.row, contains_from_member (values value opening ++ told) (value found.0.row) there, inl found.2)

      pub join_of_all : IsJoinOfAll value opening deeds passes log
      join_of_all = live_alike (values value log) (values value opening ++ told) log_covers covers_log
