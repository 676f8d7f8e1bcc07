-- Two sessions that meet come to an end with the rows of their exchange, and hold what the other has in the area that both
-- may read.
use Rattle.std.proofs.Common.{◌≡◌, ◌≢◌, ◌⊎◌, inl, inr, ℕ, zero, suc, ◌≤◌, Bool, true, false, cond, not, List, [], ◌∷◌, ◌++◌, length, filter, get_or, Contains, All, Option, Some, None, refl, sym, ap, ◌∙◌, subst, arith}
use Rattle.std.specs.List.{AllByRecursion}
use Rattle.std.specs.List.Sorted.{IsStrictlySortedBy}
use Rattle.std.proofs.lemmas.List.Elements.{Contains-append_left, Contains-append_right, recursion_from_All, All-contains_itself}
use Rattle.std.proofs.lemmas.List.Kept.{IsStrictlySortedBy-filter}
use Rattle.spelling.specs.Answers.{cause_if}
use Rattle.scheme_core.specs.Rules.{Rules}
use Rattle.willow_area.specs.Boxes.{Ranges}
use Rattle.willow_entry.specs.Row.{RowValue, HasCovering, inner_place_cmp, join}
use Rattle.willow_entry.proofs.Live.{live_covers}
use Rattle.block_store.specs.InBox.{is_in, rows_in}
use Rattle.exchange_rules.specs.Items.{to_left, to_right}
use Rattle.exchange_rules.specs.Exchange.{exchange}
use Rattle.exchange_rules.proofs.Converging.{left_gets, right_gets}
use Rattle.exchange_rules.proofs.TwoExchanges.{exchange_alike}
use Rattle.area_interest.specs.declared.interest.Interest.{Interest}
use Rattle.sync_msg.specs.Items.{ItemValue}
use Rattle.sync_msg.specs.declared.role.Role.TheVariants as roles
use Rattle.sync_msg.specs.declared.refusal.CoreRefusal.{CoreRefusal}
use Rattle.session_end.specs.declared.refusal.HelloRefusal.{HelloRefusal}
use Rattle.session_end.specs.declared.refusal.HelloRefusal.TheVariants.{BadProof}
use Rattle.sync_hello.specs.Version.{session_version}
use Rattle.sync_hello.specs.declared.hello.Hello.{Hello}
use Rattle.sync_hello.proofs.Meaning.{passes_means}
use Rattle.sync_core.specs.declared.stage.TheConstants.{SNAPSHOT_MAX}
use Rattle.sync_core.specs.Place.{Place, rows_of_area}
use Rattle.sync_core.specs.SyncRules.{IsVersion, sync_rules}
use Rattle.sync_core.proofs.Lawful.{deciding, disjoint, can_cut_rows}
use Rattle.range_split.proofs.Rising.{live_rows_rise}
use Rattle.sync_core.proofs.Telling.{rows_in-le}
use Rattle.session_rules.specs.Rounds.{Meet}
use Rattle.session_rules.specs.Pairs.{Pair, GreetEachOther}
use Rattle.session_rules.specs.Turns.{AreExchanged}
use Rattle.session_rules.proofs.Settled.{exchanged_all, they_meet as do_meet}
use Rattle.sync_link.specs.Greetings.{Agreement, greeting}
use Rattle.sync_link.specs.Places.{of_interest, offers_of, places}
use Rattle.sync_link.specs.Sessions.{Party, own_part, out, box_with, version_with}
use Rattle.sync_link.specs.Settling.{IsOpening, Accepts, CanMeet, AreDone, AreApartIn}
use Rattle.sync_link.proofs.Offering.{AreAmong, opening_offered}
use Rattle.sync_link.proofs.Grants.{in_rows}
use Rattle.sync_link.proofs.Spellings.{hello_as, proof_as}
use Rattle.sync_link.proofs.TakingTurns.{by_items, take_turns}
use Rattle.sync_link.proofs.ReadingTurns.{AreSent, IsSendable, all_kept}
use Rattle.sync_link.proofs.CanRead.{can_read_turns}

-- ---- the rows of a box

pub filter_twice : {X : Type 0} (keep : X → Bool) (xs : List X) → filter keep (filter keep xs) ≡ filter keep xs
filter_twice keep [] = refl
filter_twice keep (x ∷ xs) = by_test (keep x) refl (filter_twice keep xs)
  where
    by_test : (b : Bool) → keep x ≡ b → filter keep (filter keep xs) ≡ filter keep xs → filter keep (cond b (x ∷ filter keep xs) (filter keep xs)) ≡ cond b (x ∷ filter keep xs) (filter keep xs)
    by_test true is rest = ap (λ b. cond b (x ∷ filter keep (filter keep xs)) (filter keep (filter keep xs))) is ∙ ap (λ l. x ∷ l) rest
    by_test false is rest = rest

abbrev pub inside : Option Ranges → List RowValue → List RowValue
inside box rows = rows_of_area box rows

pub same_exchange : (version : ℕ) (box : Option Ranges) (rows others : List RowValue) → exchange (sync_rules version) (inside box rows) (inside box others) box ≡ exchange (sync_rules version) rows others box
same_exchange version None rows others = refl
same_exchange version (Some x) rows others =
    exchange_alike (sync_rules version) (disjoint version) x (rows_in x rows) rows (rows_in x others) others (filter_twice (is_in x) rows) (filter_twice (is_in x) others)

module _ (namespace : List ℕ) (rows : List RowValue) (opening : IsOpening namespace rows) where
  pub rises : IsStrictlySortedBy inner_place_cmp rows
  rises = live_rows_rise rows opening.live (namespace, opening.own)

  sendable : AllByRecursion IsSendable rows
  sendable = recursion_from_All IsSendable rows (λ k d within. (opening.read_out k d within, opening.framed k d within))

  pub inside_rises : (box : Option Ranges) → IsStrictlySortedBy inner_place_cmp (inside box rows)
  unfolding IsStrictlySortedBy
  inside_rises None = tt
  inside_rises (Some x) = IsStrictlySortedBy-filter inner_place_cmp (is_in x) rows rises

  pub inside_few : (box : Option Ranges) → length (inside box rows) ≤ SNAPSHOT_MAX
  inside_few None = omega arith
  inside_few (Some x) = omega (arith, rows_in-le x rows, opening.few)

  inside_sendable : (box : Option Ranges) → AllByRecursion IsSendable (inside box rows)
  inside_sendable None = tt
  inside_sendable (Some x) = all_kept IsSendable (is_in x) rows sendable

  pub inside_sent : (box : Option Ranges) → AreSent (inside box rows)
  inside_sent box = record { rise = inside_rises box; few = inside_few box; fit = inside_sendable box }

-- ---- the version

some_version : (n : ℕ) → n ≢ 0 → 1 ≤ n
some_version zero some = absurd (some refl)
some_version (suc n) some = omega arith

-- where both sides speak some version, their session speaks one that is known
pub session_version_spoken : (one other : Hello) → one.version ≢ 0 → other.version ≢ 0 → IsVersion (session_version one other)
session_version_spoken one other some some' = (omega (arith, some_version one.version some, some_version other.version some'), omega arith)

-- ---- a caller and an answerer

module _ (rules : Rules) (namespace : List ℕ) (hello other : Hello) (limits limits' : Interest) (signature proof : List ℕ) where
  abbrev pub caller : Party
  caller = record { rules = rules; namespace = namespace; role = roles.Caller; hello = hello; interest = limits; signature = signature }

  abbrev pub answerer : Party
  answerer = record { rules = rules; namespace = namespace; role = roles.Answerer; hello = other; interest = limits'; signature = proof }

  abbrev pub pair : List RowValue → List RowValue → Pair Hello (List ℕ) Agreement HelloRefusal RowValue Place ItemValue CoreRefusal
  pair rows others = record { greeting = greeting rules namespace; talk = places; caller = own_part caller; answerer = own_part answerer; caller_offers = offers_of limits rows; answerer_offers = offers_of limits' others }

  pub greet : (rows others : List RowValue) → Accepts caller answerer → Accepts answerer caller → GreetEachOther (pair rows others)
  greet rows others accepts is_accepted = record {
    calls = refl;
    answers = refl;
    caller_hears = record {
      hello_read = hello_as other accepts.hello_fits;
      hello_passes = (passes_means rules namespace other).1 accepts.hello_passes;
      proof_read = proof_as proof accepts.proof_fits;
      proof_passes = ap (λ b. cause_if (not b) BadProof) accepts.proved;
    };
    answerer_hears = record {
      hello_read = hello_as hello is_accepted.hello_fits;
      hello_passes = (passes_means rules namespace hello).1 is_accepted.hello_passes;
      proof_read = proof_as signature is_accepted.proof_fits;
      proof_passes = ap (λ b. cause_if (not b) BadProof) is_accepted.proved;
    };
  }

  module _ (rows others : List RowValue) (own : IsOpening namespace rows) (theirs : IsOpening namespace others) (accepts : Accepts caller answerer) (is_accepted : Accepts answerer caller) where
    abbrev pub version : ℕ
    version = version_with caller other

    abbrev pub box : Option Ranges
    box = box_with caller other

    -- what each offers
    abbrev pub mine : List RowValue
    mine = of_interest limits box rows

    abbrev pub yours : List RowValue
    yours = of_interest limits' box others

    mine_opens : IsOpening namespace mine
    mine_opens = opening_offered namespace limits box rows own

    yours_open : IsOpening namespace yours
    yours_open = opening_offered namespace limits' box others theirs

    -- the version is one that is spoken
    spoken : IsVersion version
    spoken = session_version_spoken hello other is_accepted.hello_passes.speaks accepts.hello_passes.speaks

    pub exchanged : (left right : List ℕ) → Meet (out caller rows) (out answerer others) left right → AreExchanged (pair rows others) (by_items version) (exchange (sync_rules version) (inside box mine) (inside box yours) box) left right
    exchanged left right meet =
        let up = inside_rises namespace mine mine_opens box in
        let down = inside_rises namespace yours yours_open box in
        let few = inside_few namespace mine mine_opens box in
        let few' = inside_few namespace yours yours_open box in
        exchanged_all (pair rows others) (by_items version) (sync_rules version) (inside box mine) (inside box yours) box (disjoint version) (can_cut_rows version (inside box mine) up) (can_cut_rows version (inside box yours) down)
        (greet rows others accepts is_accepted)
        (take_turns version (inside box mine) (inside box yours) up down few' few box)
        (can_read_turns version spoken (inside box mine) (inside box yours) (inside_sent namespace mine mine_opens box) (inside_sent namespace yours yours_open box) box)
        left right meet

    they_meet : (left : List ℕ) × (right : List ℕ) × Meet (out caller rows) (out answerer others) left right
    they_meet =
        let up = inside_rises namespace mine mine_opens box in
        let down = inside_rises namespace yours yours_open box in
        let few = inside_few namespace mine mine_opens box in
        let few' = inside_few namespace yours yours_open box in
        do_meet (pair rows others) (by_items version) (sync_rules version) (inside box mine) (inside box yours) box (disjoint version) (can_cut_rows version (inside box mine) up) (can_cut_rows version (inside box yours) down)
        (greet rows others accepts is_accepted)
        (take_turns version (inside box mine) (inside box yours) up down few' few box)
        (can_read_turns version spoken (inside box mine) (inside box yours) (inside_sent namespace mine mine_opens box) (inside_sent namespace yours yours_open box) box)

    both_done : (left right : List ℕ) → Meet (out caller rows) (out answerer others) left right → AreDone caller answerer rows others left right
    both_done left right meet =
        let e = exchanged left right meet in
        let same = same_exchange version box mine yours in
        record { caller_done = e.caller_done; caller_got = e.caller_got ∙ ap to_left same; answerer_done = e.answerer_done; answerer_got = e.answerer_got ∙ ap to_right same }

-- ---- two parties

abbrev Meets : Party → Party → Type 0
Meets p q = (rows others : List RowValue) → Accepts p q → Accepts q p → IsOpening p.namespace rows → IsOpening p.namespace others → (left : List ℕ) × (right : List ℕ) × Meet (out p rows) (out q others) left right

abbrev Settles : Party → Party → Type 0
Settles p q = (rows others : List RowValue) (left right : List ℕ) → Accepts p q → Accepts q p → IsOpening p.namespace rows → IsOpening p.namespace others → Meet (out p rows) (out q others) left right → AreDone p q rows others left right

module _ (p q : Party) (can : CanMeet p q) where
  pub calling : record p { role = roles.Caller } ≡ p
  calling = ap (λ role. record p { role = role }) (sym can.calls)

  pub answering : record q { rules = p.rules; namespace = p.namespace; role = roles.Answerer } ≡ q
  answering =
      ap (λ rules. record q { rules = rules; namespace = p.namespace; role = roles.Answerer }) (sym can.same_rules)
      ∙ ap (λ namespace. record q { namespace = namespace; role = roles.Answerer }) (sym can.same_namespace)
      ∙ ap (λ role. record q { role = role }) (sym can.answers)

  settles_for : Settles p q
  settles_for =
      let plain : Settles (record p { role = roles.Caller }) (record q { rules = p.rules; namespace = p.namespace; role = roles.Answerer }) =
      λ rows others left right accepts is_accepted own theirs meet. both_done p.rules p.namespace p.hello q.hello p.interest q.interest p.signature q.signature rows others own theirs accepts is_accepted left right meet in
      let P : Party → Type 0 = λ x. Settles (record p { role = roles.Caller }) x in
      subst (λ x. Settles x q) calling (subst P answering plain)

  meets_for : Meets p q
  meets_for =
      let plain : Meets (record p { role = roles.Caller }) (record q { rules = p.rules; namespace = p.namespace; role = roles.Answerer }) =
      λ rows others accepts is_accepted own theirs. they_meet p.rules p.namespace p.hello q.hello p.interest q.interest p.signature q.signature rows others own theirs accepts is_accepted in
      let P : Party → Type 0 = λ x. Meets (record p { role = roles.Caller }) x in
      subst (λ x. Meets x q) calling (subst P answering plain)

  pub meets : (rows others : List RowValue) → IsOpening p.namespace rows → IsOpening p.namespace others → (left : List ℕ) × (right : List ℕ) × Meet (out p rows) (out q others) left right
  meets rows others own theirs = meets_for rows others can.accepts can.is_accepted own theirs

  pub settled : (rows others : List RowValue) (left right : List ℕ) → IsOpening p.namespace rows → IsOpening p.namespace others → Meet (out p rows) (out q others) left right → AreDone p q rows others left right
  settled rows others left right own theirs meet = settles_for rows others left right can.accepts can.is_accepted own theirs meet

-- ---- what both have then

covered : (rows sent wanted : List RowValue) → ((r : RowValue) → Contains wanted r → Contains rows r ⊎ Contains sent r) → All (HasCovering (join rows sent)) wanted
covered rows sent wanted has k d within = by_case (has (get_or wanted k d) (All-contains_itself wanted k d within))
  where
    by_case : Contains rows (get_or wanted k d) ⊎ Contains sent (get_or wanted k d) → HasCovering (join rows sent) (get_or wanted k d)
    by_case (inl c) = live_covers (rows ++ sent) (get_or wanted k d) (Contains-append_left rows sent (get_or wanted k d) c)
    by_case (inr c) = live_covers (rows ++ sent) (get_or wanted k d) (Contains-append_right rows sent (get_or wanted k d) c)

module _ (namespace : List ℕ) (rows others : List RowValue) (own : IsOpening namespace rows) (theirs : IsOpening namespace others) where
  held : (x : Ranges) (some all sent : List RowValue) → AreAmong all some → (r : RowValue) → Contains (rows_in x some) r ⊎ Contains sent r → Contains all r ⊎ Contains sent r
  held x some all sent among r (inl c) = inl (among r (in_rows some (Some x) r c))
  held x some all sent among r (inr c) = inr c

  -- with all that it has besides these rows, which it offers
  pub caller_covers : (all : List RowValue) → AreAmong all rows → (version : ℕ) (box : Option Ranges) → AreApartIn version box rows others → All (HasCovering (join all (to_left (exchange (sync_rules version) rows others box)))) (rows_of_area box others)
  caller_covers all among version None apart = λ k d within. absurd (omega arith)
  caller_covers all among version (Some x) apart =
      let sent = to_left (exchange (sync_rules version) rows others (Some x)) in
      covered all sent (rows_in x others)
      (λ r c. held x rows all sent among r (left_gets (sync_rules version) (deciding version) (disjoint version) rows others x (can_cut_rows version rows (rises namespace rows own)) (can_cut_rows version others (rises namespace others theirs)) apart r c))

  pub answerer_covers : (all : List RowValue) → AreAmong all others → (version : ℕ) (box : Option Ranges) → AreApartIn version box rows others → All (HasCovering (join all (to_right (exchange (sync_rules version) rows others box)))) (rows_of_area box rows)
  answerer_covers all among version None apart = λ k d within. absurd (omega arith)
  answerer_covers all among version (Some x) apart =
      let sent = to_right (exchange (sync_rules version) rows others (Some x)) in
      covered all sent (rows_in x rows)
      (λ r c. held x others all sent among r (right_gets (sync_rules version) (deciding version) (disjoint version) rows others x (can_cut_rows version rows (rises namespace rows own)) (can_cut_rows version others (rises namespace others theirs)) apart r c))
