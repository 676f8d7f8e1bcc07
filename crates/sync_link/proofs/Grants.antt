-- A side tells anything of its rows only to one that may read them.
use Rattle.std.proofs.Common.{◌≡◌, ℕ, Bool, true, List, ◌++◌, All, Contains, Option, Some, None, option_map, filter, refl, ap, ◌∙◌, subst}
use Rattle.std.specs.Prelude.{IsTrue}
use Rattle.std.proofs.lemmas.List.Elements.{All-contains}
use Rattle.spelling.specs.Form.{AreBytes}
use Rattle.spelling.proofs.Lists.{All-left, All-right}
use Rattle.willow_area.specs.Area.{IsArea, IsTriple, in_area, meet_area}
use Rattle.willow_area.specs.AreaBox.{area_box}
use Rattle.willow_area.specs.Boxes.{Ranges}
use Rattle.willow_area.specs.declared.area.Area.{Area}
use Rattle.willow_area.proofs.Boxing.{area_box_means}
use Rattle.willow_area.proofs.Meeting.{meet_area-some, meet_area-fits}
use Rattle.willow_entry.specs.EntryForm.{IsEntry}
use Rattle.willow_entry.specs.Row.{RowValue}
use Rattle.willow_entry.proofs.Members.{contains_from_member, member_from_contains, filter_member}
use Rattle.block_store.specs.InBox.{is_in}
use Rattle.mc_cap.specs.Grant.{receiver_of}
use Rattle.sync_msg.specs.Items.{ItemValue}
use Rattle.sync_msg.specs.declared.item.Item.TheVariants.{Row}
use Rattle.sync_msg.specs.declared.role.Role.{Role}
use Rattle.sync_msg.specs.declared.role.Role.TheVariants.{Caller, Answerer}
use Rattle.session_end.specs.declared.refusal.HelloRefusal.TheVariants.{BadProof}
use Rattle.sync_hello.specs.HelloForm.{hello_spelling, IsHello}
use Rattle.sync_hello.specs.Checked.{hello_refusal}
use Rattle.sync_hello.specs.Common.{common_area}
use Rattle.sync_hello.specs.declared.hello.Hello.{Hello}
use Rattle.sync_hello.proofs.Meaning.{passes}
use Rattle.sync_hello.proofs.Granting.{asks_within}
use Rattle.sync_core.specs.Place.{rows_of_area}
use Rattle.sync_core.proofs.Telling.{no_cause}
use Rattle.session_rules.specs.Greeting.{IsGreeted, other_refusal, caller_of, answerer_of}
use Rattle.session_rules.specs.Session.{Item}
use Rattle.session_rules.proofs.Members.{none_in}
use Rattle.session_rules.proofs.Sessions.{items_granted}
use Rattle.sync_link.specs.Greetings.{side_of, greeting}
use Rattle.sync_link.specs.Places.{offers_of, places}
use Rattle.sync_link.specs.Sessions.{Party, own_part, said, agreement_with, box_with, offered_to, rows_with}
use Rattle.sync_link.specs.Granting.{message_due, IsGranted, GrantsRow}
use Rattle.sync_link.proofs.Spellings.{hello_back, proof_back}
use Rattle.sync_link.proofs.Offering.{offered_among}
use Rattle.sync_link.proofs.Own.{tells_own}

-- ---- a greeting that was read

module _ (p : Party) (bytes : List ℕ) (are : AreBytes bytes) (greeted : IsGreeted (greeting p.rules p.namespace) (own_part p) bytes) where
  hello_are : AreBytes greeted.greets.hello_bytes
  hello_are = All-left _ greeted.greets.hello_bytes greeted.greets.behind (subst AreBytes greeted.greets.joined are)

  behind_are : AreBytes greeted.greets.behind
  behind_are = All-right _ greeted.greets.hello_bytes greeted.greets.behind (subst AreBytes greeted.greets.joined are)

  proof_are : AreBytes greeted.proof_bytes
  proof_are = All-left _ greeted.proof_bytes greeted.behind (subst AreBytes greeted.joined behind_are)

  hello_spelled : IsHello greeted.hello × (greeted.greets.hello_bytes ≡ hello_spelling greeted.hello)
  hello_spelled = hello_back greeted.greets.hello_bytes greeted.hello hello_are greeted.greets.is_hello

  accepted_by : (role : Role) → other_refusal (greeting p.rules p.namespace) (record { role = side_of role; hello = p.hello; proof = p.signature }) greeted.hello greeted.proof ≡ None
      → IsTrue (p.rules.user (receiver_of greeted.hello.capability) (message_due role p.hello greeted.hello) greeted.proof)
  accepted_by Caller none = no_cause (p.rules.user (receiver_of greeted.hello.capability) (message_due Caller p.hello greeted.hello) greeted.proof) BadProof none
  accepted_by Answerer none = no_cause (p.rules.user (receiver_of greeted.hello.capability) (message_due Answerer p.hello greeted.hello) greeted.proof) BadProof none

  pub is_granted : IsGranted p bytes
  is_granted = record {
    hello = greeted.hello;
    signature = greeted.proof;
    behind = greeted.behind;
    joined =
        greeted.greets.joined
        ∙ ap (λ l. l ++ greeted.greets.behind) hello_spelled.1
        ∙ ap (λ l. hello_spelling greeted.hello ++ l) (greeted.joined ∙ ap (λ l. l ++ greeted.behind) (proof_back greeted.proof_bytes greeted.proof proof_are greeted.is_proof).1);
    fits = hello_spelled.0;
    proof_fits = (proof_back greeted.proof_bytes greeted.proof proof_are greeted.is_proof).0;
    passes = passes p.rules p.namespace greeted.hello greeted.greets.passes;
    proved = accepted_by p.role greeted.proof_passes;
  }

  -- by the hello that was greeted
  pub granted_hello : is_granted.hello ≡ greeted.hello
  unfolding is_granted
  granted_hello = refl

-- ---- rows

-- a row in the box of what two asks have in common is in the second
in_both : (one other area : Area) (row : RowValue) → IsEntry row.entry → IsArea one → IsArea other → meet_area one other ≡ Some area → is_in (area_box area) row ≡ true
    → IsTrue (in_area one row.entry.subspace row.entry.path row.entry.timestamp) × IsTrue (in_area other row.entry.subspace row.entry.path row.entry.timestamp)
in_both one other area row fits one_fits other_fits is inside =
    let triple : IsTriple row.entry.subspace row.entry.path row.entry.timestamp = record { key = fits.subspace; path_fits = fits.path; time_fits = fits.timestamp } in
    let e = row.entry in
    (meet_area-some one other area is e.subspace e.path e.timestamp).0
    ((area_box_means area (meet_area-fits one other area is one_fits other_fits) e.subspace e.path e.timestamp triple).0 inside)

kept_from : (keep : RowValue → Bool) (rows : List RowValue) (row : RowValue) → Contains (filter keep rows) row → Contains rows row × (keep row ≡ true)
kept_from keep rows row c =
    let m = filter_member keep rows row (member_from_contains (filter keep rows) row c) in
    (contains_from_member rows row m.0, m.1)

pub in_rows : (rows : List RowValue) (box : Option Ranges) (row : RowValue) → Contains (rows_of_area box rows) row → Contains rows row
in_rows rows None row c = absurd (none_in row c)
in_rows rows (Some box) row c = (kept_from (is_in box) rows row c).0

module _ (p : Party) (rows : List RowValue) (own_fits : IsArea p.hello.ask) (hello : Hello) (fits : IsHello hello) (none : hello_refusal p.rules p.namespace hello ≡ None) (row : RowValue) where
  -- the box of an area that both ask for, and rows that are offered
  in_area_of : (shown : List RowValue) (role : Role) (area : Option Area) → common_area (caller_of (side_of role) p.hello hello) (answerer_of (side_of role) p.hello hello) ≡ area
      → Contains (rows_of_area (option_map area_box area) shown) row → IsEntry row.entry → IsTrue (in_area hello.ask row.entry.subspace row.entry.path row.entry.timestamp)
  unfolding common_area
  in_area_of shown role None is c entry = absurd (none_in row c)
  in_area_of shown Caller (Some area) is c entry =
      (in_both p.hello.ask hello.ask area row entry own_fits fits.ask_fits is (kept_from (is_in (area_box area)) shown row c).1).1
  in_area_of shown Answerer (Some area) is c entry =
      (in_both hello.ask p.hello.ask area row entry fits.ask_fits own_fits is (kept_from (is_in (area_box area)) shown row c).1).0

  pub row_granted : IsEntry row.entry → Contains (rows_with p hello rows) row → GrantsRow hello row
  row_granted entry c =
      let asked = in_area_of (offered_to p hello rows) p.role (common_area (caller_of (side_of p.role) p.hello hello) (answerer_of (side_of p.role) p.hello hello)) refl c entry in
      let triple : IsTriple row.entry.subspace row.entry.path row.entry.timestamp = record { key = entry.subspace; path_fits = entry.path; time_fits = entry.timestamp } in
      asks_within p.rules p.namespace hello fits none row.entry.subspace row.entry.path row.entry.timestamp triple asked

-- ---- what is said

module _ (p : Party) (rows : List RowValue) (bytes : List ℕ) (are : AreBytes bytes) where
  pub item_granted : (item : ItemValue) → Contains (said p rows bytes) (Item item) → IsGranted p bytes
  item_granted item c = is_granted p bytes are (items_granted (greeting p.rules p.namespace) places (own_part p) (offers_of p.interest rows) bytes item c).0

  pub row_told : IsArea p.hello.ask → All (λ r. IsEntry r.entry) rows → (row : RowValue) → Contains (said p rows bytes) (Item (Row row)) → (granted : IsGranted p bytes) × (Contains rows row × GrantsRow granted.hello row)
  unfolding is_granted
  row_told own_fits fit row c =
      let told = items_granted (greeting p.rules p.namespace) places (own_part p) (offers_of p.interest rows) bytes (Row row) c in
      let hello = told.0.hello in
      let granted = is_granted p bytes are told.0 in
      let own = tells_own (side_of p.role) (rows_with p hello rows) (agreement_with p hello) told.0.behind (Row row) row told.1 refl in
      let within = offered_among p.interest (box_with p hello) rows row (in_rows (offered_to p hello rows) (box_with p hello) row own) in
      (granted, (within, row_granted p rows own_fits hello granted.fits told.0.greets.passes row (All-contains (λ r. IsEntry r.entry) rows row fit within) own))
