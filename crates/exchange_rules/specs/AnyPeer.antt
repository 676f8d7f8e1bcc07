-- What a side writes to a peer that may say anything: what it reads is judged, and where it is refused nothing follows.
use Rattle.std.specs.Prelude.{ℕ, Bool, true, false, not, ◌&&◌, List, [], ◌∷◌, ◌++◌, map, length, nat_eq, Option, None, Some, if◌then◌else◌, zip}
use Rattle.exchange_rules.specs.Rules.{Rules}
use Rattle.exchange_rules.specs.Items.{Ask, Print, Sent, Item, First, Agree, Split, Entries, Rest, Turn, is_empty, bye, is_bye}
use Rattle.exchange_rules.specs.Answer.{opened, turn}
use Rattle.exchange_rules.specs.Exchange.{first_turn, first_asks}

-- a cut inside the box has parts, and comes with a fingerprint for each
abbrev pub fits_parts : {X : Type 0} → List X → List (List ℕ) → Bool
fits_parts parts prints = not (is_empty parts) && nat_eq (length parts) (length prints)

-- each part with its fingerprint
abbrev pub part_asks : {R X : Type 0} → List X → List (List ℕ) → List (Ask R X)
part_asks parts prints = map (λ part. Print part.0 part.1) (zip parts prints)

-- what an item opens that was read as the answer to an ask; None where it is refused
unfoldable pub opens_at : {R X C : Type 0} → Rules R X C → Ask R X → Item R C → Option (List (Ask R X))
opens_at g (Print x print) Agree = Some []
opens_at g (Print x print) (Split cut prints) =
    if fits_parts (g.parts x cut) prints then Some (part_asks (g.parts x cut) prints) else None
opens_at g (Print x print) (Entries rows) = if g.is_legal x rows then Some (Sent x rows ∷ []) else None
opens_at g (Sent x sent) (Rest rows) = if g.is_legal x rows then Some [] else None
opens_at g ask item = None

-- two lists joined, where there are both
abbrev pub joined : {A : Type 0} → Option (List A) → Option (List A) → Option (List A)
joined None ys = None
joined (Some xs) None = None
joined (Some xs) (Some ys) = Some (xs ++ ys)

-- what some items open that were read as the answers to some asks, one to each, in order
abbrev pub opened_by : {R X C : Type 0} → Rules R X C → List (Ask R X) → List (Item R C) → Option (List (Ask R X))
opened_by g [] [] = Some []
opened_by g [] (item ∷ items) = None
opened_by g (ask ∷ asks) [] = None
opened_by g (ask ∷ asks) (item ∷ items) = joined (opens_at g ask item) (opened_by g asks items)

-- a farewell stands just where nothing is opened
abbrev pub ended_by : {A : Type 0} → Bool → Option (List A) → Option (List A)
ended_by ends_with_bye None = None
ended_by true (Some []) = Some []
ended_by true (Some (x ∷ xs)) = None
ended_by false (Some []) = None
ended_by false (Some (x ∷ xs)) = Some (x ∷ xs)

-- what a turn opens that was read as the answer to some asks
unfoldable pub heard : {R X C : Type 0} → Rules R X C → List (Ask R X) → Turn R C → Option (List (Ask R X))
heard g asks t = ended_by t.ends_with_bye (opened_by g asks t.items)

-- a turn that answers some asks, and what follows to what it opens; nothing where what was read is refused
abbrev pub answered : {R X C : Type 0} → Rules R X C → List R → Option (List (Ask R X)) → (List (Ask R X) → List (Turn R C)) → List (Turn R C)
answered g l None follows = []
answered g l (Some asks) follows = turn g l asks ∷ follows (opened g l asks)

-- the turns that a side with rows l writes which has opened some asks, after reading some turns: to each that is not
-- refused it writes one, until it has opened nothing
unfoldable pub answers : {R X C : Type 0} → Rules R X C → List R → List (Ask R X) → List (Turn R C) → List (Turn R C)
answers g l [] ts = []
answers g l (ask ∷ asks) [] = []
answers g l (ask ∷ asks) (t ∷ ts) = answered g l (heard g (ask ∷ asks) t) (λ opens. answers g l opens ts)

-- the turns of a side that begins
abbrev pub caller : {R X C : Type 0} → Rules R X C → List R → Option X → List (Turn R C) → List (Turn R C)
caller g l None ts = bye ∷ []
caller g l (Some x) ts = first_turn g l x ∷ answers g l (first_asks g l x) ts

-- what a first turn opens: it is the fingerprint of the box and no farewell
abbrev pub first_opens : {R X C : Type 0} → X → List (Item R C) → Bool → Option (List (Ask R X))
first_opens x (First print ∷ []) false = Some (Print x print ∷ [])
first_opens x items ends_with_bye = None

-- the turns of a side that answers
abbrev pub answerer : {R X C : Type 0} → Rules R X C → List R → Option X → List (Turn R C) → List (Turn R C)
answerer g l x [] = []
answerer g l None (t ∷ ts) = if is_bye t then bye ∷ [] else []
answerer g l (Some x) (t ∷ ts) = answered g l (first_opens x t.items t.ends_with_bye) (λ opens. answers g l opens ts)
