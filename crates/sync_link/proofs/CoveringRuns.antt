-- What the log covers behind a session that was done.
use Rattle.std.proofs.Common.{◌≡◌, ◌⊎◌, inl, inr, ℕ, List, [], ◌∷◌, ◌++◌, All, Contains, Option, Some, None, Ok, get_or, map, not, is_some, true, refl, sym, ap, ◌∙◌, subst}
use Rattle.std.proofs.lemmas.List.Elements.{All-contains, All-contains_itself, Contains-push, Contains-append_cases}
use Rattle.scheme_core.specs.Rules.{Rules}
use Rattle.willow_area.specs.Boxes.{Ranges}
use Rattle.willow_entry.specs.EntryForm.{entry_spelling}
use Rattle.willow_entry.specs.Row.{RowValue, HasCovering, live, join}
use Rattle.willow_entry.proofs.Live.{covers_live_front, live_covers, live-covered}
use Rattle.willow_entry.proofs.RowLaws.{IsLive-live}
use Rattle.willow_entry.proofs.Members.{Member, contains_from_member, member_from_contains, member_filter}
use Rattle.block_store.specs.InBox.{rows_in}
use Rattle.spelling.proofs.Joining.{one_spelling}
use Rattle.cap_codec.specs.Rows.{RawValue, IsRaw, row_of, raw_spelling}
use Rattle.cap_codec.proofs.RowReads.{raw-reads}
use Rattle.auth_entry.specs.Authorised.{authorised, is_authorised, row_refusal, IsAuthorised}
use Rattle.auth_entry.proofs.Meaning.{authorised_means}
use Rattle.exchange_rules.specs.Items.{to_left, to_right}
use Rattle.exchange_rules.specs.Exchange.{exchange}
use Rattle.exchange_rules.proofs.Converging.{left_gets, right_gets}
use Rattle.mc_cap.specs.declared.refusal.RowRefusal.{RowRefusal}
use Rattle.sync_msg.specs.declared.role.Role as roles_of
use Rattle.sync_msg.specs.declared.role.Role.TheVariants as roles
use Rattle.session_rules.proofs.Members.{none_in}
use Rattle.sync_core.specs.Place.{rows_of_area}
use Rattle.sync_core.specs.SyncRules.{sync_rules}
use Rattle.sync_core.proofs.Lawful.{deciding, disjoint, can_cut_rows}
use Rattle.sync_link.specs.Greetings.{Agreement}
use Rattle.sync_link.specs.Sessions.{Party, agreement_with, box_with, version_with}
use Rattle.sync_link.specs.Settling.{IsOpening, CanMeet, AreApartIn}
use Rattle.auth_entry.specs.Rows.{entry_row, authorised_rows}
use Rattle.sync_link.specs.Kept.{log_rows}
use Rattle.row_intake.specs.Answers.{Covers}
use Rattle.sync_link.specs.Ran.{Ran, side, opening_of, store_of, LiesAbove, IsDone, IsOther, IsAuthorisedRow, AreAuthorised, AreApartAs, AreToldApart, own_offered, other_offered, other_common}
use Rattle.sync_link.specs.declared.plan.SessionReport.{SessionReport}
use Rattle.row_intake.proofs.CoveredRows.{rows_behind}
use Rattle.sync_link.proofs.Owing.{member_map}
use Rattle.sync_link.proofs.Grants.{in_rows}
use Rattle.sync_link.proofs.Offering.{offered_among, opening_offered}
use Rattle.sync_link.proofs.Settled.{rises}
use Rattle.sync_link.proofs.MetSides.{is_met}
use Rattle.sync_link.proofs.OtherSides.{IsMet, got_as_caller, got_as_answerer, is_over, all_written, all_sent, own_opens}

-- ---- authorised rows

-- a row of a store has one reading
one_raw : (x y : RawValue) → IsRaw x → IsRaw y → row_of x ≡ row_of y → x ≡ y
one_raw x y fits fits' same =
    let spelled : raw_spelling x ≡ raw_spelling y = ap (λ (r : RowValue). entry_spelling r.entry ++ r.token) same in
    (one_spelling raw-reads x y [] [] fits fits' (ap (λ l. l ++ []) spelled)).0

none_against : (o : Option RowRefusal) → o ≡ None → not (is_some o) ≡ true
none_against None e = refl
none_against (Some cause) e = cc

module _ (rules : Rules) (namespace : List ℕ) where
  is_one : (raw : RawValue) → IsAuthorised rules namespace raw → is_authorised rules namespace raw ≡ true
  unfolding is_authorised
  is_one raw a = none_against (row_refusal rules namespace raw) ((authorised_means rules namespace raw).1 a)

  raw_of : (rows : List RawValue) (r : RowValue) → Member (map row_of rows) r → (raw : RawValue) × Member rows raw × (row_of raw ≡ r)
  raw_of [] r m = absurd m
  raw_of (raw ∷ rows) r (inl e) = (raw, inl refl, e)
  raw_of (raw ∷ rows) r (inr m) = let found = raw_of rows r m in (found.0, inr found.1, found.2)

  -- an authorised row among some is among those of them that are authorised
  kept : (rows : List RawValue) → All IsRaw rows → (r : RowValue) → IsAuthorisedRow rules namespace r → Contains (map row_of rows) r → Contains (authorised_rows rules namespace rows) r
  kept rows raws r one c =
      let found = raw_of rows r (member_from_contains (map row_of rows) r c) in
      let fits = All-contains IsRaw rows found.0 raws (contains_from_member rows found.0 found.1) in
      let same : found.0 ≡ one.raw = one_raw found.0 one.raw fits one.fits (found.2 ∙ sym one.read_out) in
      let is : is_authorised rules namespace found.0 ≡ true = ap (is_authorised rules namespace) same ∙ is_one one.raw one.authorised in
      let m = member_map row_of (authorised rules namespace rows) found.0 (member_filter (is_authorised rules namespace) rows found.0 found.1 is) in
      contains_from_member (authorised_rows rules namespace rows) r (subst (Member (authorised_rows rules namespace rows)) found.2 m)

-- ---- what comes of the exchange

-- what the one side has in the box, the other has or is sent
abbrev Gets : Option Ranges → List RowValue → List RowValue → List RowValue → Type 0
Gets box rows others sent = (r : RowValue) → Contains (rows_of_area box others) r → Contains rows r ⊎ Contains sent r

within_box : (x : Ranges) (rows sent : List RowValue) (r : RowValue) → Contains (rows_in x rows) r ⊎ Contains sent r → Contains rows r ⊎ Contains sent r
within_box x rows sent r (inl c) = inl (in_rows rows (Some x) r c)
within_box x rows sent r (inr c) = inr c

module _ (namespace : List ℕ) (rows others : List RowValue) (own : IsOpening namespace rows) (theirs : IsOpening namespace others) where
  caller_gets : (version : ℕ) (box : Option Ranges) → AreApartIn version box rows others → Gets box rows others (to_left (exchange (sync_rules version) rows others box))
  caller_gets version None apart r c = absurd (none_in r c)
  caller_gets version (Some x) apart r c =
      within_box x rows (to_left (exchange (sync_rules version) rows others (Some x))) r
      (left_gets (sync_rules version) (deciding version) (disjoint version) rows others x (can_cut_rows version rows (rises namespace rows own)) (can_cut_rows version others (rises namespace others theirs)) apart r c)

  answerer_gets : (version : ℕ) (box : Option Ranges) → AreApartIn version box others rows → Gets box rows others (to_right (exchange (sync_rules version) others rows box))
  answerer_gets version None apart r c = absurd (none_in r c)
  answerer_gets version (Some x) apart r c =
      within_box x rows (to_right (exchange (sync_rules version) others rows (Some x))) r
      (right_gets (sync_rules version) (deciding version) (disjoint version) others rows x (can_cut_rows version others (rises namespace others theirs)) (can_cut_rows version rows (rises namespace rows own)) apart r c)

-- ---- both agree on one

same_agreement : (p q : Party) → p.role ≡ roles.Answerer → q.role ≡ roles.Caller → agreement_with q p.hello ≡ agreement_with p q.hello
same_agreement p q answers calls =
    ap (λ role. agreement_with (record q { role = role }) p.hello) calls
    ∙ sym (ap (λ role. agreement_with (record p { role = role }) q.hello) answers)

pub same_box : (p q : Party) → p.role ≡ roles.Answerer → q.role ≡ roles.Caller → box_with q p.hello ≡ box_with p q.hello
same_box p q answers calls = ap (λ (a : Agreement). a.box) (same_agreement p q answers calls)

apart_as : (version : ℕ) (role : roles_of.Role) (box : Option Ranges) (rows others : List RowValue) → role ≡ roles.Caller → AreApartAs version role box rows others → AreApartIn version box rows others
apart_as version role box rows others calls h = subst (λ r. AreApartAs version r box rows others) calls h

apart_back : (version : ℕ) (role : roles_of.Role) (box : Option Ranges) (rows others : List RowValue) → role ≡ roles.Answerer → AreApartAs version role box rows others → AreApartIn version box others rows
apart_back version role box rows others answers h = subst (λ r. AreApartAs version r box rows others) answers h

-- ---- the log

module _ (p : List ℕ → Party) (ran : Ran p) (q : Party) (others : List RowValue) (other : IsMet ran q others) (done : IsDone ran.answer) where
  abbrev party : Party
  party = side ran

  abbrev rows : List RowValue
  rows = opening_of ran

  abbrev log : List RowValue
  log = log_rows ran.after.seen

  -- what the two offer each other
  abbrev mine : List RowValue
  mine = own_offered ran q

  abbrev yours : List RowValue
  yours = other_offered ran q others

  own_covered : (r : RowValue) → Contains mine r → HasCovering log r
  own_covered r within =
      let c = offered_among party.interest (box_with party q.hello) rows r within in
      let front = ran.did.opening.1 in
      subst (λ l. HasCovering l r) (sym (rows_behind entry_row ran.did.log ran.after.seen front)) (covers_live_front (log_rows ran.did.log) (log_rows front.0) r c)

  mine_opens : IsOpening party.namespace mine
  mine_opens = opening_offered party.namespace party.interest (box_with party q.hello) rows (own_opens p ran q others other done)

  yours_open : IsOpening party.namespace yours
  yours_open = opening_offered party.namespace q.interest (box_with q party.hello) others other.opens

  pub gets_as_caller : CanMeet party q → AreToldApart ran q others → Gets (box_with party q.hello) mine yours (map row_of ran.did.rows)
  gets_as_caller can apart =
      let own = own_opens p ran q others other done in
      subst (Gets (box_with party q.hello) mine yours)
      (sym (got_as_caller p ran q others other own (is_over p ran q others other done) (all_written p ran q others other done) can) ∙ sym (all_sent p ran q others other done))
      (caller_gets party.namespace mine yours mine_opens yours_open (version_with party q.hello) (box_with party q.hello) (apart_as (version_with party q.hello) party.role (box_with party q.hello) mine yours can.calls apart))

  pub gets_as_answerer : CanMeet q party → AreToldApart ran q others → Gets (box_with party q.hello) mine yours (map row_of ran.did.rows)
  gets_as_answerer can apart =
      let own = own_opens p ran q others other done in
      let same = same_agreement party q can.answers can.calls in
      subst (Gets (box_with party q.hello) mine yours)
      (ap (λ (a : Agreement). to_right (exchange (sync_rules a.version) yours mine a.box)) (sym same) ∙ sym (got_as_answerer p ran q others other own (is_over p ran q others other done) (all_written p ran q others other done) can) ∙ sym (all_sent p ran q others other done))
      (answerer_gets party.namespace mine yours mine_opens yours_open (version_with party q.hello) (box_with party q.hello) (apart_back (version_with party q.hello) party.role (box_with party q.hello) mine yours can.answers apart))

  gets : AreToldApart ran q others → Gets (box_with party q.hello) mine yours (map row_of ran.did.rows)
  gets apart = by_role other.can_meet
    where
      by_role : CanMeet party q ⊎ CanMeet q party → Gets (box_with party q.hello) mine yours (map row_of ran.did.rows)
      by_role (inl can) = gets_as_caller can apart
      by_role (inr can) = gets_as_answerer can apart

module _ (p : List ℕ → Party) (ran : Ran p) (report : SessionReport) (q : Party) (others : List RowValue) (ok : ran.answer ≡ Ok report) (other : IsOther ran q others) (leave : AreAuthorised ran others) where
  abbrev here : Party
  here = side ran

  is_done : IsDone ran.answer
  is_done = subst IsDone (sym ok) tt

  met : IsMet ran q others
  met = is_met p ran q others other

  sent_covered : (r : RowValue) → Contains others r → Contains (map row_of ran.did.rows) r → HasCovering (log_rows ran.after.seen) r
  sent_covered r whose c =
      let one = All-contains (IsAuthorisedRow here.rules here.namespace) others r leave whose in
      let all : All (HasCovering (log_rows ran.after.seen)) (authorised_rows here.rules here.namespace ran.did.rows) =
      subst (Covers (log_rows ran.after.seen) (authorised_rows here.rules here.namespace ran.did.rows)) ok ran.did.covers in
      All-contains (HasCovering (log_rows ran.after.seen)) (authorised_rows here.rules here.namespace ran.did.rows) r all (kept here.rules here.namespace ran.did.rows ran.did.read_out r one c)

  covered : (r : RowValue) → Contains others r → Contains (own_offered ran q) r ⊎ Contains (map row_of ran.did.rows) r → HasCovering (log_rows ran.after.seen) r
  covered r whose (inl c) = own_covered p ran q others met is_done r c
  covered r whose (inr c) = sent_covered r whose c

  pub runs_cover : AreToldApart ran q others → All (HasCovering (log_rows ran.after.seen)) (other_common ran q others)
  runs_cover apart k d within =
      let r = get_or (other_common ran q others) k d in
      let c = All-contains_itself (other_common ran q others) k d within in
      covered r (in_area_of (box_with here q.hello) r c) (gets p ran q others met is_done apart r c)
    where
      in_area_of : (box : Option Ranges) (r : RowValue) → Contains (rows_of_area box (other_offered ran q others)) r → Contains others r
      in_area_of None r c = absurd (none_in r c)
      in_area_of (Some x) r c = offered_among q.interest (box_with q here.hello) others r (in_rows (other_offered ran q others) (Some x) r c)

-- ---- the store

-- what is live of rows covers all that the rows cover
live_above : (rows : List RowValue) (r : RowValue) → HasCovering rows r → HasCovering (live rows) r
live_above rows r h = subst (λ l. HasCovering l r) (live-covered rows r h) (live_covers (rows ++ r ∷ []) r (Contains-push rows r))

-- whatever is answered, nothing of the opening store is lost
pub runs_keep : (p : List ℕ → Party) (ran : Ran p) → LiesAbove (store_of ran) (opening_of ran)
runs_keep p ran k d within =
    let rows = opening_of ran in
    let r = get_or rows k d in
    let front = ran.did.opening.1 in
    live_above (log_rows ran.after.seen) r
    (subst (λ l. HasCovering l r) (sym (rows_behind entry_row ran.did.log ran.after.seen front)) (covers_live_front (log_rows ran.did.log) (log_rows front.0) r (All-contains_itself rows k d within)))

module _ (p : List ℕ → Party) (ran : Ran p) (report : SessionReport) (q : Party) (others : List RowValue) (ok : ran.answer ≡ Ok report) (other : IsOther ran q others) (leave : AreAuthorised ran others)
    (apart : AreToldApart ran q others) where
  abbrev own : List RowValue
  own = opening_of ran

  abbrev common : List RowValue
  common = other_common ran q others

  of_both : (r : RowValue) → Contains own r ⊎ Contains common r → HasCovering (store_of ran) r
  of_both r (inl c) = All-contains (HasCovering (store_of ran)) own r (runs_keep p ran) c
  of_both r (inr c) =
      live_above (log_rows ran.after.seen) r
      (All-contains (HasCovering (log_rows ran.after.seen)) common r (runs_cover p ran report q others ok other leave apart) c)

  pub runs_join : LiesAbove (store_of ran) (join own common)
  runs_join k d within =
      let r = get_or (join own common) k d in
      let both = (((IsLive-live (own ++ common)).members r).0 (All-contains_itself (join own common) k d within)).0 in
      of_both r (Contains-append_cases own common r both)
