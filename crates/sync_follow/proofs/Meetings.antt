-- What two sessions leave behind that were each the other end of the other.
use Rattle.std.proofs.Common.{◌≡◌, ◌⊎◌, inl, inr, ℕ, true, not, eqb, List, [], ◌∷◌, ◌++◌, map, All, Contains, Option, Some, None, is_some, refl, sym, ap, ◌∙◌, subst, append_assoc}
use Rattle.std.proofs.lemmas.List.{append_cancel_left}
use Rattle.std.proofs.lemmas.List.Elements.{All-contains, filter-append}
use mathlib.Core.List.{IsPrefix}
use Rattle.scheme_core.specs.Rules.{Rules}
use Rattle.willow_entry.specs.EntryForm.{entry_spelling}
use Rattle.willow_entry.specs.Row.{RowValue, HasCovering, live}
use Rattle.willow_entry.specs.declared.row.LogRow.{LogRow}
use Rattle.willow_entry.proofs.Live.{covers_live_front}
use Rattle.willow_entry.proofs.Members.{Member, contains_from_member, member_from_contains, member_append_right, member_filter, filter_member}
use Rattle.spelling.proofs.Joining.{one_spelling}
use Rattle.mc_cap.specs.declared.refusal.RowRefusal.{RowRefusal}
use Rattle.cap_codec.specs.Rows.{RawValue, IsRaw, raw_spelling, row_of}
use Rattle.cap_codec.proofs.RowReads.{raw-reads}
use Rattle.auth_entry.specs.Authorised.{AuthorisedValue, authorised, is_authorised, row_refusal}
use Rattle.auth_entry.specs.Rows.{entry_row, authorised_rows}
use Rattle.auth_entry.proofs.Meaning.{authorised_means}
use Rattle.log_rule.specs.Views.{rows_of_pass}
use Rattle.exchange_rules.specs.Rules.{box_rows}
use Rattle.exchange_rules.specs.Items.{to_left}
use Rattle.exchange_rules.specs.Exchange.{exchange}
use Rattle.exchange_rules.proofs.Converging.{left_gets, right_only}
use Rattle.session_rules.specs.Reading.{got}
use Rattle.session_rules.specs.Pairs.{calling, answering}
use Rattle.session_rules.specs.Turns.{AreExchanged}
use Rattle.session_rules.proofs.Settled.{exchanged_all}
use Rattle.row_intake.specs.Kept.{IsPart}
use Rattle.row_intake.proofs.CoveredRows.{rows_behind}
use Rattle.sync_follow.specs.BothEnds.{Session, HasRun}
use Rattle.sync_follow.specs.Feeds.{has_entry}
use Rattle.sync_follow.specs.Followed.{IsAuthorisedRow, Scene, HaveMet}
use Rattle.sync_follow.specs.Tallies.{log_rows}

-- ---- members

pub member_map : {A B : Type 0} (f : A → B) (xs : List A) (x : A) → Member xs x → Member (map f xs) (f x)
member_map f [] x m = absurd m
member_map f (y ∷ xs) x (inl e) = inl (ap f e)
member_map f (y ∷ xs) x (inr m) = inr (member_map f xs x m)

pub map_member : {A B : Type 0} (f : A → B) (xs : List A) (y : B) → Member (map f xs) y → (x : A) × Member xs x × (f x ≡ y)
map_member f [] y m = absurd m
map_member f (x ∷ xs) y (inl e) = (x, inl refl, e)
map_member f (x ∷ xs) y (inr m) = let found = map_member f xs y m in (found.0, inr found.1, found.2)

-- what stands in a part stands in the whole
part_member : {A : Type 0} (xs ys : List A) (x : A) → IsPart xs ys → Member xs x → Member ys x
part_member [] ys x h m = absurd m
part_member (z ∷ xs) [] x h m = absurd h
part_member (z ∷ xs) (y ∷ ys) x (inl h) (inl e) = inl (sym h.0 ∙ e)
part_member (z ∷ xs) (y ∷ ys) x (inl h) (inr m) = inr (part_member xs ys x h.1 m)
part_member (z ∷ xs) (y ∷ ys) x (inr h) m = inr (part_member (z ∷ xs) ys x h m)

-- ---- authorised rows

-- a row of a store has one reading
pub one_raw : (x y : RawValue) → IsRaw x → IsRaw y → row_of x ≡ row_of y → x ≡ y
one_raw x y fits fits' same =
    let spelled : raw_spelling x ≡ raw_spelling y = ap (λ (r : RowValue). entry_spelling r.entry ++ r.token) same in
    (one_spelling raw-reads x y [] [] fits fits' (ap (λ l. l ++ []) spelled)).0

none_against : (o : Option RowRefusal) → o ≡ None → not (is_some o) ≡ true
none_against None e = refl
none_against (Some cause) e = cc

module _ (rules : Rules) (namespace : List ℕ) where
  pub refusal_none : (row : RowValue) (f : IsAuthorisedRow rules namespace row) → row_refusal rules namespace f.raw ≡ None
  refusal_none row f = (authorised_means rules namespace f.raw).1 f.authorised

  is_one : (raw : RawValue) → row_refusal rules namespace raw ≡ None → is_authorised rules namespace raw ≡ true
  unfolding is_authorised
  is_one raw none = none_against (row_refusal rules namespace raw) none

  -- an authorised row among some is among those of them that are authorised
  kept : (rows : List RawValue) → All IsRaw rows → (r : RowValue) → IsAuthorisedRow rules namespace r → Member (map row_of rows) r → Member (authorised_rows rules namespace rows) r
  kept rows raws r one m =
      let found = map_member row_of rows r m in
      let fits = All-contains IsRaw rows found.0 raws (contains_from_member rows found.0 found.1) in
      let same : found.0 ≡ one.raw = one_raw found.0 one.raw fits one.fits (found.2 ∙ sym one.read_out) in
      let is : is_authorised rules namespace found.0 ≡ true = is_one found.0 (ap (row_refusal rules namespace) same ∙ refusal_none r one) in
      subst (Member (authorised_rows rules namespace rows)) found.2 (member_map row_of (authorised rules namespace rows) found.0 (member_filter (is_authorised rules namespace) rows found.0 found.1 is))

  -- those that are authorised are among all
  among : (rows : List RawValue) (r : RowValue) → Member (authorised_rows rules namespace rows) r → Member (map row_of rows) r
  among rows r m =
      let found = map_member row_of (authorised rules namespace rows) r m in
      subst (Member (map row_of rows)) found.2 (member_map row_of rows found.0 (filter_member (is_authorised rules namespace) rows found.0 found.1).0)

-- ---- a session

module _ (rules : Rules) (namespace : List ℕ) (s : Session) (sent : List RowValue) (ran : HasRun rules namespace s sent) where
  -- the log covers the store with which the session opened
  opening_covered : (row : RowValue) → Contains (live (log_rows s.opening)) row → HasCovering (log_rows s.after.seen) row
  opening_covered row c =
      subst (λ l. HasCovering l row) (sym (rows_behind entry_row s.opening s.after.seen ran.opened.1)) (covers_live_front (log_rows s.opening) (log_rows ran.opened.1.0) row c)

  -- and the authorised rows that were sent
  sent_covered : (row : RowValue) → IsAuthorisedRow rules namespace row → Contains sent row → HasCovering (log_rows s.after.seen) row
  sent_covered row is c =
      let m : Member (map row_of ran.rows) row = subst (λ l. Member l row) (sym ran.are_sent) (member_from_contains sent row c) in
      All-contains (HasCovering (log_rows s.after.seen)) (authorised_rows rules namespace ran.rows) row ran.covers
      (contains_from_member (authorised_rows rules namespace ran.rows) row (kept rules namespace ran.rows ran.read_out row is m))

  -- what it stored stands behind what it had stored before, and was sent
  abbrev pub number : ℕ
  number = s.after.number

  of_number : (xs ys : List (LogRow AuthorisedValue)) (front : IsPrefix xs ys) → rows_of_pass number ys ≡ rows_of_pass number xs ++ rows_of_pass number front.0
  of_number xs ys front = ap (rows_of_pass number) (sym front.1) ∙ filter-append (λ (l : LogRow AuthorisedValue). eqb number l.pass) xs front.0

  abbrev pub since : List (LogRow AuthorisedValue)
  since = rows_of_pass number ran.opened.1.0

  pub own_is : s.after.own ≡ rows_of_pass number s.opening ++ since
  own_is = sym ran.is_pass.1.own ∙ of_number s.opening s.after.seen ran.opened.1

  had : rows_of_pass number s.before.seen ≡ s.before.own
  had = ap (λ n. rows_of_pass n s.before.seen) ran.later.number ∙ ran.is_pass.0.own

  grown_is : ran.grown ≡ rows_of_pass number ran.opened.0.0 ++ since
  grown_is =
      append_cancel_left s.before.own ran.grown (rows_of_pass number ran.opened.0.0 ++ since)
      (sym ran.grew.0 ∙ own_is ∙ ap (λ l. l ++ since) (of_number s.before.seen s.opening ran.opened.0 ∙ ap (λ l. l ++ rows_of_pass number ran.opened.0.0) had) ∙ append_assoc s.before.own (rows_of_pass number ran.opened.0.0) since)

  since_sent : (l : LogRow AuthorisedValue) → Member since l → Contains sent (entry_row l.row)
  since_sent l m =
      let row = entry_row l.row in
      let grew : Member ran.grown l = subst (λ xs. Member xs l) (sym grown_is) (member_append_right (rows_of_pass number ran.opened.0.0) since l m) in
      let part = part_member (log_rows ran.grown) (authorised_rows rules namespace ran.rows) row ran.grew.1 (member_map (λ (x : LogRow AuthorisedValue). entry_row x.row) ran.grown l grew) in
      contains_from_member sent row (subst (λ xs. Member xs row) ran.are_sent (among rules namespace ran.rows row part))

-- ---- two sessions

module _ {H P A F X T I G C : Type 0} (r : Scene H P A F X T I G C) (met : HaveMet r) where
  exchanged : AreExchanged r.ends.pair r.ends.view (exchange r.ends.rules r.ends.caller_rows r.ends.server_rows (Some r.ends.box)) r.ends.by_caller r.ends.by_server
  exchanged =
      let e = r.ends in
      let m = met.ends in
      exchanged_all e.pair e.view e.rules e.caller_rows e.server_rows (Some e.box) m.disjoint m.cuts.0 m.cuts.1 m.greet m.turns m.can_read e.by_caller e.by_server m.reads

  offered_covered : (row : RowValue) → Contains (box_rows r.ends.rules r.ends.box r.ends.caller_rows) row → HasCovering (log_rows r.caller.after.seen) row
  offered_covered row c =
      let e = r.ends in
      let m = filter_member (e.rules.has e.box) e.caller_rows row (member_from_contains (box_rows e.rules e.box e.caller_rows) row c) in
      opening_covered r.rules r.namespace r.caller (got (calling e.pair) e.by_server) met.called row (met.caller_offers row (contains_from_member e.caller_rows row m.0))

  -- the caller has what was live in the area of the log with which the server's session opened
  pub gave : (row : RowValue) → Contains (live (log_rows r.server.opening)) row → has_entry r.area row ≡ true → HasCovering (log_rows r.caller.after.seen) row
  gave row is inside =
      let e = r.ends in
      let m = met.ends in
      let offered = met.server_offers row is inside in
      let in_box = contains_from_member (box_rows e.rules e.box e.server_rows) row (member_filter (e.rules.has e.box) e.server_rows row (member_from_contains e.server_rows row offered) (met.in_box row inside)) in
      by_half offered (left_gets e.rules m.deciding m.disjoint e.caller_rows e.server_rows e.box m.cuts.0 m.cuts.1 m.apart row in_box)
    where
      by_half : Contains r.ends.server_rows row → Contains (box_rows r.ends.rules r.ends.box r.ends.caller_rows) row ⊎ Contains (to_left (exchange r.ends.rules r.ends.caller_rows r.ends.server_rows (Some r.ends.box))) row
          → HasCovering (log_rows r.caller.after.seen) row
      by_half offered (inl c) = offered_covered row c
      by_half offered (inr c) =
          sent_covered r.rules r.namespace r.caller (got (calling r.ends.pair) r.ends.by_server) met.called row
          (All-contains (IsAuthorisedRow r.rules r.namespace) r.ends.server_rows row met.authorised offered)
          (subst (λ l. Contains l row) (sym exchanged.caller_got) c)

  -- and what the server's session stored since, all of which came from it
  abbrev pub brought : List (LogRow AuthorisedValue)
  brought = since r.rules r.namespace r.server (got (answering r.ends.pair) r.ends.by_caller) met.served

  pub own_brought : r.server.after.own ≡ rows_of_pass r.server.after.number r.server.opening ++ brought
  own_brought = own_is r.rules r.namespace r.server (got (answering r.ends.pair) r.ends.by_caller) met.served

  pub brought_covered : (l : LogRow AuthorisedValue) → Member brought l → HasCovering (log_rows r.caller.after.seen) (entry_row l.row)
  brought_covered l m =
      let e = r.ends in
      let got_it = since_sent r.rules r.namespace r.server (got (answering e.pair) e.by_caller) met.served l m in
      offered_covered (entry_row l.row) (right_only e.rules met.ends.deciding met.ends.disjoint e.caller_rows e.server_rows e.box (entry_row l.row) (subst (λ xs. Contains xs (entry_row l.row)) exchanged.answerer_got got_it))
