-- Who stands under which key, over calls of a hub.
use Rattle.std.proofs.Common.{◌≡◌, ◌≢◌, ◌<◌, ◌≤◌, ℕ, ◌+◌, ◌==◌, Bool, true, false, cond, List, [], ◌∷◌, length, Option, Some, None, All, refl, sym, ap, subst, ◌∙◌, inl, inr, arith}
use Rattle.std.proofs.lemmas.Bool.{cases_eq}
use Rattle.std.proofs.lemmas.List.Elements.{All-head, All-tail}
use Rattle.willow_entry.specs.Row.{RowValue}
use Rattle.willow_area.specs.declared.area.Area.{Area}
use Rattle.sub_hub.specs.Heard.{Note}
use Rattle.sub_hub.specs.Watchers.{WatcherFacts, IsToldOf}
use Rattle.sub_hub.specs.Hubs.{MemberValue, HubValue, hub_slot, numbered, member_at, new_member, begun_at, IsSlotSet, IsWatcherAdded, IsTakenOut, Removes, IsSlotTold}
use Rattle.sub_hub.specs.Calls.{Call, Add, Remove, Begin, Pump, MakesCall, MakeAll, Spares, heard_in}
use Rattle.sub_hub.specs.declared.key.HubKey.{HubKey}
use Rattle.sub_hub.proofs.Hearing.{told_nothing, told_both}
use Rattle.sub_hub.proofs.Pumps.{some_is}

-- ---- a key and a slot

eq_refl : (n : ℕ) → (n == n) ≡ true
eq_refl n = grind arith

eq_differs : (n m : ℕ) → n ≢ m → (n == m) ≡ false
eq_differs n m differ = grind (arith, differ)

numbered_is : (m : MemberValue) → numbered m.number (Some m) ≡ Some m
numbered_is m = ap (λ (b : Bool). cond b (Some m) None) (eq_refl m.number)

numbered_other : (number : ℕ) (m : MemberValue) → m.number ≢ number → numbered number (Some m) ≡ None
numbered_other number m differ = ap (λ (b : Bool). cond b (Some m) None) (eq_differs m.number number differ)

-- who is found by a number stands there, and has it
found_in : (number : ℕ) (o : Option MemberValue) (m : MemberValue) → numbered number o ≡ Some m → (o ≡ Some m) × (m.number ≡ number)
found_in number None m is = absurd (cc is)
found_in number (Some x) m is =
    elim (cases_eq x.number number) [
      | inl same ↦
          let it : x ≡ m = some_is (sym (subst (λ (n : ℕ). numbered n (Some x) ≡ Some x) same (numbered_is x)) ∙ is) in
          (ap (λ (v : MemberValue). Some v) it, subst (λ (v : MemberValue). v.number ≡ number) it same)
      | inr differs ↦ absurd (cc (sym (numbered_other number x differs) ∙ is))
    ]

stands_under : (hub : HubValue) (key : HubKey) (m : MemberValue) → hub_slot hub.members key.slot ≡ Some m → m.number ≡ key.number → member_at hub key ≡ Some m
stands_under hub key m here number = ap (numbered key.number) here ∙ subst (λ (n : ℕ). numbered n (Some m) ≡ Some m) number (numbered_is m)

same_key : (key other : HubKey) → key.slot ≡ other.slot → key.number ≡ other.number → key ≡ other
same_key key other slot number = ap (λ (s : ℕ). record { slot = s; number = key.number }) slot ∙ ap (λ (n : ℕ). record { slot = other.slot; number = n }) number

-- who was added stands under its key
pub added_stands : (old new : HubValue) (key : HubKey) (area : Area) (facts : WatcherFacts) → IsWatcherAdded old new key area facts → member_at new key ≡ Some (new_member old.added area facts)
added_stands old new key area facts p = stands_under new key (new_member old.added area facts) p.members.changed (sym p.number)

-- ---- a watcher over calls that spare it

-- who stood under the key does so still, for its area, and was told of these notes
abbrev IsStillThere : HubKey → MemberValue → HubValue → List Note → Type 0
IsStillThere key m new notes = (m' : MemberValue) × (member_at new key ≡ Some m') × (m'.area ≡ m.area) × IsToldOf m.has_left m'.has_left m.facts m'.facts notes

-- a slot other than the key's was set
kept_by_set : (old new : HubValue) (key : HubKey) (m : MemberValue) (slot : ℕ) (member : Option MemberValue) → IsSlotSet old.members new.members slot member → key.slot ≢ slot → member_at old key ≡ Some m → member_at new key ≡ Some m
kept_by_set old new key m slot member set differs here = ap (numbered key.number) (set.others key.slot differs) ∙ here

kept_by_add : (old new : HubValue) (key other : HubKey) (area : Area) (facts : WatcherFacts) (m : MemberValue) → IsWatcherAdded old new other area facts → member_at old key ≡ Some m → member_at new key ≡ Some m
kept_by_add old new key other area facts m p here =
    let stands : hub_slot old.members key.slot ≡ Some m = (found_in key.number (hub_slot old.members key.slot) m here).0 in
    kept_by_set old new key m other.slot _ p.members (λ e. absurd (cc (sym stands ∙ ap (hub_slot old.members) e ∙ p.vacant))) here

kept_by_removal : (old new : HubValue) (key other : HubKey) (taken m : MemberValue) (facts : WatcherFacts) → IsTakenOut old new other taken facts → other ≢ key → member_at old key ≡ Some m → member_at new key ≡ Some m
kept_by_removal old new key other taken m facts p differ here =
    let mine = found_in key.number (hub_slot old.members key.slot) m here in
    let its = found_in other.number (hub_slot old.members other.slot) taken p.found in
    kept_by_set old new key m other.slot _ p.members
    (λ e.
    let it : taken ≡ m = some_is (sym its.0 ∙ ap (hub_slot old.members) (sym e) ∙ mine.0) in
    differ (same_key other key (sym e) (sym its.1 ∙ ap (λ (v : MemberValue). v.number) it ∙ mine.1)))
    here

-- the rest of the calls, told by the front and the area that the call before them left
told_from : (key : HubKey) (m : MemberValue) (old between new : HubValue) (calls : List Call) → between.front ≡ old.front → between.area ≡ old.area
    → IsStillThere key m new (heard_in m.area between.area between.front calls) → IsStillThere key m new (heard_in m.area old.area old.front calls)
told_from key m old between new calls front area rest =
    subst (λ (k : ℕ). IsStillThere key m new (heard_in m.area old.area k calls)) front
    (subst (λ (a : Area). IsStillThere key m new (heard_in m.area a between.front calls)) area rest)

pub watchers_hear : (old new : HubValue) (calls : List Call) (key : HubKey) (m : MemberValue) → MakeAll old calls new → member_at old key ≡ Some m → All (Spares key) calls
    → IsStillThere key m new (heard_in m.area old.area old.front calls)
watchers_hear old new [] key m made here spares = (m, subst (λ (h : HubValue). member_at h key ≡ Some m) (sym made) here, refl, told_nothing m.has_left m.facts)
watchers_hear old new (Add other area facts ∷ calls) key m made here spares =
    told_from key m old made.0 new calls made.1.front made.1.same_area
    (watchers_hear made.0 new calls key m made.2 (kept_by_add old made.0 key other area facts m made.1 here) (All-tail (Spares key) _ calls spares))
watchers_hear old new (Remove other None ∷ calls) key m made here spares =
    let same : made.0 ≡ old = made.1.1 in
    told_from key m old made.0 new calls (ap (λ (h : HubValue). h.front) same) (ap (λ (h : HubValue). h.area) same)
    (watchers_hear made.0 new calls key m made.2 (subst (λ (h : HubValue). member_at h key ≡ Some m) (sym same) here) (All-tail (Spares key) _ calls spares))
watchers_hear old new (Remove other (Some facts) ∷ calls) key m made here spares =
    let out = made.1.1 in
    told_from key m old made.0 new calls out.front out.same_area
    (watchers_hear made.0 new calls key m made.2 (kept_by_removal old made.0 key other made.1.0 m facts out (All-head (Spares key) _ calls spares) here) (All-tail (Spares key) _ calls spares))
watchers_hear old new (Begin front area ∷ calls) key m made here spares =
    let same : made.0 ≡ begun_at old front area = made.1 in
    told_from key m (begun_at old front area) made.0 new calls (ap (λ (h : HubValue). h.front) same) (ap (λ (h : HubValue). h.area) same)
    (watchers_hear made.0 new calls key m made.2 (subst (λ (h : HubValue). member_at h key ≡ Some m) (sym same) here) (All-tail (Spares key) _ calls spares))
watchers_hear old new (Pump rows left ∷ calls) key m made here spares =
    let between = made.0 in
    let pump = made.1 in
    let mine = found_in key.number (hub_slot old.members key.slot) m here in
    let told = subst (λ (o : Option MemberValue). IsSlotTold old.area old.front rows o (hub_slot between.members key.slot)) mine.0 (pump.told key.slot) in
    let next = told.0 in
    let rest = watchers_hear between new calls key next made.2 (stands_under between key next told.1 (told.2.number ∙ mine.1)) (All-tail (Spares key) _ calls spares) in
    let notes : heard_in next.area between.area between.front calls ≡ heard_in m.area old.area (old.front + length rows) calls =
    ap (λ (own : Area). heard_in own between.area between.front calls) told.2.same_area ∙ ap (λ (a : Area). heard_in m.area a between.front calls) pump.same_area ∙ ap (λ (k : ℕ). heard_in m.area old.area k calls) pump.front in (
      rest.0,
      rest.1,
      rest.2 ∙ told.2.same_area,
      told_both m.has_left next.has_left rest.0.has_left m.facts next.facts rest.0.facts _ _ told.2.told
          (subst (λ (l : List Note). IsToldOf next.has_left rest.0.has_left next.facts rest.0.facts l) notes rest.3),
    )

-- ---- a key that is used up

-- nobody stands under the key, and its number was given out
abbrev IsSpent : HubValue → HubKey → Type 0
IsSpent hub key = (member_at hub key ≡ None) × (key.number < hub.added)

spent_by_set : (old new : HubValue) (key : HubKey) (slot : ℕ) (member : Option MemberValue) → IsSlotSet old.members new.members slot member → numbered key.number member ≡ None → member_at old key ≡ None → member_at new key ≡ None
spent_by_set old new key slot member set other none =
    elim (cases_eq key.slot slot) [
      | inl same ↦ ap (numbered key.number) (ap (hub_slot new.members) same ∙ set.changed) ∙ other
      | inr differs ↦ ap (numbered key.number) (set.others key.slot differs) ∙ none
    ]

spent_by_pump : (served : Area) (front : ℕ) (rows : List RowValue) (number : ℕ) (o o' : Option MemberValue) → IsSlotTold served front rows o o' → numbered number o ≡ None → numbered number o' ≡ None
spent_by_pump served front rows number None o' told none = ap (numbered number) told
spent_by_pump served front rows number (Some m) o' told none =
    ap (numbered number) told.1
    ∙ numbered_other number told.0 (λ e. absurd (cc (sym (subst (λ (n : ℕ). numbered n (Some m) ≡ Some m) (sym told.2.number ∙ e) (numbered_is m)) ∙ none)))

spent_by : (old new : HubValue) (call : Call) (key : HubKey) → MakesCall old call new → IsSpent old key → IsSpent new key
spent_by old new (Add other area facts) key made spent = (
  spent_by_set old new key other.slot _ made.members (numbered_other key.number (new_member old.added area facts) (λ e. omega (arith, e, spent.1))) spent.0,
  omega (arith, made.added, spent.1),
)
spent_by old new (Remove other None) key made spent = subst (λ (h : HubValue). IsSpent h key) (sym made.1) spent
spent_by old new (Remove other (Some facts)) key made spent = (spent_by_set old new key other.slot None made.1.members refl spent.0, omega (arith, made.1.added, spent.1))
spent_by old new (Begin front area) key made spent = subst (λ (h : HubValue). IsSpent h key) (sym made) spent
spent_by old new (Pump rows left) key made spent = (spent_by_pump old.area old.front rows key.number _ _ (made.told key.slot) spent.0, omega (arith, made.added, spent.1))

stays_spent : (old new : HubValue) (calls : List Call) (key : HubKey) → MakeAll old calls new → IsSpent old key → IsSpent new key
stays_spent old new [] key made spent = subst (λ (h : HubValue). IsSpent h key) (sym made) spent
stays_spent old new (call ∷ calls) key made spent = stays_spent made.0 new calls key made.2 (spent_by old made.0 call key made.1 spent)

spent_by_removal : (old new : HubValue) (key : HubKey) (answer : Option WatcherFacts) → Removes old new key answer → key.number < old.added → IsSpent new key
spent_by_removal old new key None made given = subst (λ (h : HubValue). IsSpent h key) (sym made.1) (made.0, given)
spent_by_removal old new key (Some facts) made given = (ap (numbered key.number) made.1.members.changed, omega (arith, made.1.added, given))

-- ---- no number comes twice

added_by : (old new : HubValue) (call : Call) → MakesCall old call new → old.added ≤ new.added
added_by old new (Add key area facts) made = omega (arith, made.added)
added_by old new (Remove key None) made = omega (arith, ap {B = ℕ} (λ (h : HubValue). h.added) made.1)
added_by old new (Remove key (Some facts)) made = omega (arith, made.1.added)
added_by old new (Begin front area) made = omega (arith, ap {B = ℕ} (λ (h : HubValue). h.added) made)
added_by old new (Pump rows left) made = omega (arith, made.added)

never_fewer : (old new : HubValue) (calls : List Call) → MakeAll old calls new → old.added ≤ new.added
never_fewer old new [] made = omega (arith, ap {B = ℕ} (λ (h : HubValue). h.added) made)
never_fewer old new (call ∷ calls) made = omega (arith, added_by old made.0 call made.1, never_fewer made.0 new calls made.2)

pub keys_differ : (a b c d : HubValue) (key other : HubKey) (area area' : Area) (facts facts' : WatcherFacts) (calls : List Call)
    → IsWatcherAdded a b key area facts → MakeAll b calls c → IsWatcherAdded c d other area' facts' → other ≢ key
keys_differ a b c d key other area area' facts facts' calls p made q e = absurd (omega (arith, p.number, p.added, never_fewer b c calls made, q.number, ap {B = ℕ} (λ (k : HubKey). k.number) e))

pub gone_for_good : (a b c d e : HubValue) (key : HubKey) (area : Area) (facts : WatcherFacts) (calls later : List Call) (answer : Option WatcherFacts)
    → IsWatcherAdded a b key area facts → MakeAll b calls c → Removes c d key answer → MakeAll d later e → member_at e key ≡ None
gone_for_good a b c d e key area facts calls later answer p made removed after =
    (stays_spent d e later key after (spent_by_removal c d key answer removed (omega (arith, p.number, p.added, never_fewer b c calls made)))).0
