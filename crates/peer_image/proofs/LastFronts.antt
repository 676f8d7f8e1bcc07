-- The fronts of the last of rows in order decide the order of what comes behind them.
use Rattle.std.proofs.Common.{◌≡◌, ◌↔◌, ◌⊎◌, inl, inr, Bool, true, false, cond, List, [], ◌∷◌, ◌++◌, filter, Option, Some, None, refl, sym, ap, subst, ◌∙◌, append_assoc, append-nil, Less}
use Rattle.std.specs.List.{AllByRecursion, Contains, last_or}
use Rattle.std.specs.List.Sorted.{IsStrictlySortedBy}
use Rattle.std.specs.Cmp.Lexicographic.{bytes_decides}
use Rattle.std.proofs.lemmas.Bool.{and_from, false≢true}
use Rattle.std.proofs.lemmas.List.Elements.{filter-append}
use Rattle.spelling.proofs.Lists.{All-append, All-left, All-right}
use Rattle.willow_path.specs.Path.{is_prefix}
use Rattle.willow_path.proofs.PathOrder.{is_prefix-append}
use Rattle.willow_entry.specs.Entry.{same_bytes}
use Rattle.willow_entry.specs.Row.{RowValue, is_dominating, Dominates, inner_place_cmp}
use Rattle.willow_entry.proofs.Members.{Member, contains_from_member, member_from_contains, member_append_cases, member_append_left, member_append_right, member_filter, filter_member}
use Rattle.willow_entry.proofs.Rising.{all_member, all_from_members}
use Rattle.willow_entry.proofs.RowLaws.{dominates_decides}
use Rattle.peer_image.specs.Fronts.{is_at_inner_prefix, last_fronts, FrontsDecideOrder, FrontsGoOn}
use Rattle.peer_image.specs.Order.{order_refusal, IsInnerRising, IsInOrder}
use Rattle.peer_image.proofs.Falls.{all_above}
use Rattle.peer_image.proofs.Inner.{inner_between, dominated_at_inner}
use Rattle.peer_image.proofs.InOrder.{above_spares, order_decides}

-- ---- lists by their last item

-- these items, and behind them the last
pub record EndsIn {X : Type 0} (xs : List X) (last : X) : Type 0 where
  pub front : List X
  pub parts : xs ≡ front ++ last ∷ []

pub ends_in : {X : Type 0} (x : X) (xs : List X) → (last : X) × EndsIn (x ∷ xs) last
ends_in x [] = (x, record { front = []; parts = refl })
ends_in x (y ∷ xs) =
    let r = ends_in y xs in
    (r.0, record { front = x ∷ r.1.front; parts = ap (λ (l : List _). x ∷ l) r.1.parts })

pub last_of_snoc : {X : Type 0} (o : Option X) (xs : List X) (x : X) → last_or o (xs ++ x ∷ []) ≡ Some x
last_of_snoc o [] x = refl
last_of_snoc o (y ∷ xs) x = last_of_snoc (Some y) xs x

-- ---- filters

all_filtered : {X : Type 0} (P : X → Type 0) (p : X → Bool) (xs : List X) → AllByRecursion P xs → AllByRecursion P (filter p xs)
all_filtered P p [] all = tt
all_filtered {X} P p (x ∷ xs) all = split (p x) (all_filtered P p xs all.1) where
  split : (b : Bool) → AllByRecursion P (filter p xs) → AllByRecursion P (cond b (x ∷ filter p xs) (filter p xs))
  split true rest = (all.0, rest)
  split false rest = rest

twice_step : {X : Type 0} (p q : X → Bool) (x : X) (xs : List X) (b d : Bool) → p x ≡ b → q x ≡ d → (d ≡ true → b ≡ true) → filter q (cond b (x ∷ xs) xs) ≡ cond d (x ∷ filter q xs) (filter q xs)
twice_step p q x xs true d e f up = ap (λ t. cond t (x ∷ filter q xs) (filter q xs)) f
twice_step p q x xs false true e f up = absurd (false≢true (up refl))
twice_step p q x xs false false e f up = refl

-- what one test passes it passes among what a weaker one does
filtered_twice : {X : Type 0} (p q : X → Bool) (xs : List X) → AllByRecursion (λ x. q x ≡ true → p x ≡ true) xs → filter q (filter p xs) ≡ filter q xs
filtered_twice p q [] up = refl
filtered_twice p q (x ∷ xs) up = twice_step p q x (filter p xs) (p x) (q x) refl refl up.0 ∙ ap (λ l. cond (q x) (x ∷ l) l) (filtered_twice p q xs up.1)

-- ---- rows that rise

pub rising_right : (rows more : List RowValue) → IsInnerRising (rows ++ more) → IsInnerRising more
unfolding IsStrictlySortedBy
rising_right [] more up = up
rising_right (r ∷ rows) more up = rising_right rows more up.1

pub rising_left : (rows more : List RowValue) → IsInnerRising (rows ++ more) → IsInnerRising rows
unfolding IsStrictlySortedBy
rising_left [] more up = tt
rising_left (r ∷ rows) more up = (All-left (λ s. inner_place_cmp r s ≡ Less) rows more up.0, rising_left rows more up.1)

-- rows go on behind their last one
pub rising_joined : (front : List RowValue) (last : RowValue) (more : List RowValue) → IsInnerRising (front ++ last ∷ []) → IsInnerRising (last ∷ more) → IsInnerRising (front ++ last ∷ more)
unfolding IsStrictlySortedBy
rising_joined [] last more up on = on
rising_joined (r ∷ front) last more up on =
    let P : RowValue → Type 0 = λ s. inner_place_cmp r s ≡ Less in
    let less : inner_place_cmp r last ≡ Less = (All-right P front (last ∷ []) up.0).0 in
    (All-append P front (last ∷ more) (All-left P front (last ∷ []) up.0) (less, all_above r last more less on.0), rising_joined front last more up.1 on)

-- an earlier row stands below a later one
below_later : (rows more : List RowValue) (r s : RowValue) → IsInnerRising (rows ++ more) → Member rows r → Member more s → inner_place_cmp r s ≡ Less
unfolding IsStrictlySortedBy
below_later [] more r s up m n = absurd m
below_later (x ∷ rows) more r s up (inl e) n =
    let P : RowValue → Type 0 = λ t. inner_place_cmp x t ≡ Less in
    subst (λ (t : RowValue). inner_place_cmp t s ≡ Less) e (all_member inner_place_cmp P more (All-right P rows more up.0) s n)
below_later (x ∷ rows) more r s up (inr m) n = below_later rows more r s up.1 m n

rising_filtered : (p : RowValue → Bool) (rows more : List RowValue) → IsInnerRising (rows ++ more) → IsInnerRising (filter p rows ++ more)
unfolding IsStrictlySortedBy
rising_filtered p [] more up = up
rising_filtered p (r ∷ rows) more up = split (p r) (rising_filtered p rows more up.1) where
  above : AllByRecursion (λ s. inner_place_cmp r s ≡ Less) (filter p rows ++ more)
  above =
      let P : RowValue → Type 0 = λ s. inner_place_cmp r s ≡ Less in
      All-append P (filter p rows) more (all_filtered P p rows (All-left P rows more up.0)) (All-right P rows more up.0)

  split : (b : Bool) → IsInnerRising (filter p rows ++ more) → IsInnerRising (cond b (r ∷ filter p rows) (filter p rows) ++ more)
  split true rest = (above, rest)
  split false rest = rest

-- ---- the fronts of the last row

-- a row stands at its own prefix
at_itself : (r : RowValue) → is_at_inner_prefix r r ≡ true
unfolding is_at_inner_prefix
at_itself r =
    and_from (same_bytes r.entry.subspace r.entry.subspace) (is_prefix r.entry.path r.entry.path) ((bytes_decides r.entry.subspace r.entry.subspace).1 refl)
    (ap (is_prefix r.entry.path) (sym (append-nil r.entry.path)) ∙ is_prefix-append r.entry.path [])

abbrev at_front : RowValue → RowValue → Bool
at_front last r = is_at_inner_prefix r last

fronts_of_snoc : (front : List RowValue) (last : RowValue) → last_fronts (front ++ last ∷ []) ≡ filter (at_front last) (front ++ last ∷ [])
fronts_of_snoc front last = rw (last_of_snoc None front last) refl

-- the last row is the last of its fronts
fronts_end : (front : List RowValue) (last : RowValue) → filter (at_front last) (front ++ last ∷ []) ≡ filter (at_front last) front ++ last ∷ []
fronts_end front last =
    filter-append (at_front last) front (last ∷ [])
    ∙ ap (λ b. filter (at_front last) front ++ cond b (last ∷ []) []) (at_itself last)

module _ (front : List RowValue) (last : RowValue) (more : List RowValue) where
  abbrev rows : List RowValue
  rows = front ++ last ∷ []

  abbrev fronts : List RowValue
  fronts = filter (at_front last) rows

  to_fronts : IsInOrder (rows ++ more) → IsInOrder (fronts ++ more)
  to_fronts o = record {
    rising = rising_filtered (at_front last) rows more o.rising;
    undominated = λ r s c d dominates. o.undominated r s (held r c) (held s d) dominates;
  } where
    held : (r : RowValue) → Contains (fronts ++ more) r → Contains (rows ++ more) r
    held r c = contains_from_member (rows ++ more) r (elim (member_append_cases fronts more r (member_from_contains (fronts ++ more) r c)) [
      | inl m ↦ member_append_left rows more r (filter_member (at_front last) rows r m).0
      | inr m ↦ member_append_right rows more r m
    ])

  rising_on : IsInnerRising rows → IsInnerRising (fronts ++ more) → IsInnerRising (rows ++ more)
  rising_on up o =
      let ended : fronts ++ more ≡ filter (at_front last) front ++ last ∷ more = ap (λ (l : List RowValue). l ++ more) (fronts_end front last) ∙ append_assoc (filter (at_front last) front) (last ∷ []) more in
      let on : IsInnerRising (last ∷ more) = rising_right (filter (at_front last) front) (last ∷ more) (subst IsInnerRising ended o) in
      subst IsInnerRising (sym (append_assoc front (last ∷ []) more)) (rising_joined front last more up on)

  -- what dominates a later row stands at a prefix of the last
  front_from_later : IsInnerRising (rows ++ more) → (r s : RowValue) → Member rows r → Member more s → is_dominating r s ≡ true → Member fronts r
  front_from_later up r s m n d =
      let above = inner_between r last s in
      member_filter (at_front last) rows r m (elim (member_append_cases front (last ∷ []) r m) [
        | inl i ↦ inner_between r last s (below_later front (last ∷ []) r last (rising_left rows more up) i (inl refl)) (below_later rows more last s up (member_append_right front (last ∷ []) last (inl refl)) n) (dominated_at_inner r s d)
        | inr i ↦ elim i [ inl e ↦ subst (λ (t : RowValue). at_front last t ≡ true) e (at_itself last) | inr j ↦ absurd j ]
      ])

  from_fronts : IsInOrder rows → IsInOrder (fronts ++ more) → IsInOrder (rows ++ more)
  from_fronts q o = record { rising = up; undominated = λ r s c d dominates. spared r s (place r c) (place s d) dominates } where
    up : IsInnerRising (rows ++ more)
    up = rising_on q.rising o.rising

    place : (r : RowValue) → Contains (rows ++ more) r → Member rows r ⊎ Member more r
    place r c = member_append_cases rows more r (member_from_contains (rows ++ more) r c)

    spared : (r s : RowValue) → Member rows r ⊎ Member more r → Member rows s ⊎ Member more s → Dominates r s → ⊥
    spared r s (inl m) (inl n) dominates = q.undominated r s (contains_from_member rows r m) (contains_from_member rows s n) dominates
    spared r s (inr m) (inl n) dominates = false≢true (sym (above_spares s r (below_later rows more s r up n m)) ∙ (dominates_decides r s).1 dominates)
    spared r s (inr m) (inr n) dominates = o.undominated r s (contains_from_member (fronts ++ more) r (member_append_right fronts more r m)) (contains_from_member (fronts ++ more) s (member_append_right fronts more s n)) dominates
    spared r s (inl m) (inr n) dominates =
        let kept = front_from_later up r s m n ((dominates_decides r s).1 dominates) in
        o.undominated r s (contains_from_member (fronts ++ more) r (member_append_left fronts more r kept)) (contains_from_member (fronts ++ more) s (member_append_right fronts more s n)) dominates

  decides : order_refusal rows ≡ None → (order_refusal (rows ++ more) ≡ None) ↔ (order_refusal (last_fronts rows ++ more) ≡ None)
  decides e =
      let same = fronts_of_snoc front last in (
        λ o. subst (λ (l : List RowValue). order_refusal (l ++ more) ≡ None) (sym same) ((order_decides (fronts ++ more)).1 (to_fronts ((order_decides (rows ++ more)).0 o))),
        λ o. (order_decides (rows ++ more)).1 (from_fronts ((order_decides rows).0 e) ((order_decides (fronts ++ more)).0 (subst (λ (l : List RowValue). order_refusal (l ++ more) ≡ None) same o))),
      )

  -- ---- the fronts go on

  -- behind further rows, of which this is the last, what is left of all is left of the fronts
  fronts_of_more : (ahead : List RowValue) (end : RowValue) → more ≡ ahead ++ end ∷ [] → IsInnerRising (rows ++ more) → last_fronts (rows ++ more) ≡ last_fronts (fronts ++ more)
  fronts_of_more ahead end is up =
      let whole : (l : List RowValue) → last_fronts (l ++ more) ≡ filter (at_front end) l ++ filter (at_front end) more =
      λ l. ap (λ (m : List RowValue). last_fronts (l ++ m)) is ∙ ap last_fronts (sym (append_assoc l ahead (end ∷ []))) ∙ fronts_of_snoc (l ++ ahead) end
      ∙ ap (filter (at_front end)) (append_assoc l ahead (end ∷ []) ∙ ap (λ (m : List RowValue). l ++ m) (sym is)) ∙ filter-append (at_front end) l more in
      whole rows ∙ ap (λ (l : List RowValue). l ++ filter (at_front end) more) (sym (filtered_twice (at_front last) (at_front end) rows weaker)) ∙ sym (whole fronts)
    where
      above : inner_place_cmp last end ≡ Less
      above = below_later rows more last end up (member_append_right front (last ∷ []) last (inl refl)) (subst (λ (l : List RowValue). Member l end) (sym is) (member_append_right ahead (end ∷ []) end (inl refl)))

      each : (r : RowValue) → Member rows r → at_front end r ≡ true → at_front last r ≡ true
      each r m e = elim (member_append_cases front (last ∷ []) r m) [
        | inl i ↦ inner_between r last end (below_later front (last ∷ []) r last (rising_left rows more up) i (inl refl)) above e
        | inr i ↦ elim i [ inl q ↦ subst (λ (t : RowValue). at_front last t ≡ true) q (at_itself last) | inr j ↦ absurd j ]
      ]

      weaker : AllByRecursion (λ r. at_front end r ≡ true → at_front last r ≡ true) rows
      weaker = all_from_members inner_place_cmp (λ r. at_front end r ≡ true → at_front last r ≡ true) rows each

  -- the fronts of the fronts are these
  fronts_again : last_fronts rows ≡ last_fronts fronts
  fronts_again =
      fronts_of_snoc front last
      ∙ sym (filtered_twice (at_front last) (at_front last) rows (all_from_members inner_place_cmp (λ r. at_front last r ≡ true → at_front last r ≡ true) rows (λ r m e. e)))
      ∙ ap (filter (at_front last)) (fronts_end front last)
      ∙ sym (fronts_of_snoc (filter (at_front last) front) last)
      ∙ sym (ap last_fronts (fronts_end front last))

pub fronts_decide_order : FrontsDecideOrder
fronts_decide_order [] more e = (λ o. o, λ o. o)
fronts_decide_order (r ∷ rows) more e =
    let end = ends_in r rows in
    subst (λ (l : List RowValue). (order_refusal (l ++ more) ≡ None) ↔ (order_refusal (last_fronts l ++ more) ≡ None)) (sym end.1.parts)
    (decides end.1.front end.0 more (subst (λ (l : List RowValue). order_refusal l ≡ None) end.1.parts e))

go_on : (front : List RowValue) (last : RowValue) (more : List RowValue) → IsInnerRising ((front ++ last ∷ []) ++ more) → last_fronts ((front ++ last ∷ []) ++ more) ≡ last_fronts (filter (at_front last) (front ++ last ∷ []) ++ more)
go_on front last [] up =
    ap last_fronts (append-nil (front ++ last ∷ [])) ∙ fronts_again front last [] ∙ ap last_fronts (sym (append-nil (filter (at_front last) (front ++ last ∷ []))))
go_on front last (s ∷ more) up =
    let end = ends_in s more in
    fronts_of_more front last (s ∷ more) end.1.front end.0 end.1.parts up

pub fronts_go_on : FrontsGoOn
fronts_go_on [] more e = refl
fronts_go_on (r ∷ rows) more e =
    let end = ends_in r rows in
    let o : order_refusal ((end.1.front ++ end.0 ∷ []) ++ more) ≡ None = subst (λ (l : List RowValue). order_refusal (l ++ more) ≡ None) end.1.parts e in
    subst (λ (l : List RowValue). last_fronts (l ++ more) ≡ last_fronts (last_fronts l ++ more)) (sym end.1.parts)
    (go_on end.1.front end.0 more ((order_decides ((end.1.front ++ end.0 ∷ []) ++ more)).0 o).rising
    ∙ ap (λ (l : List RowValue). last_fronts (l ++ more)) (sym (fronts_of_snoc end.1.front end.0)))
