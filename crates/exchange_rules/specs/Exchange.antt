-- The exchange: the turns that two sides take, and what it means that fingerprints tell their rows apart.
use Rattle.std.specs.Prelude.{◌≡◌, ℕ, zero, suc, ◌+◌, ◌*◌, true, false, List, [], ◌∷◌, ◌++◌, length, Option, None, Some}
use Rattle.std.specs.List.{AllByRecursion}
use Rattle.exchange_rules.specs.Rules.{Rules, box_rows, box_print}
use Rattle.exchange_rules.specs.Items.{Ask, Print, Sent, First, Turn, bye}
use Rattle.exchange_rules.specs.Answer.{print_ask, opened, turn}

-- at most so many turns: the side with rows l answers the asks, the other one what that opens, and so on. To nothing
-- that is asked the answer is a farewell, and that is the last turn
unfoldable pub turns : {R X C : Type 0} → Rules R X C → ℕ → List R → List R → List (Ask R X) → List (Turn R C)
turns g zero l m asks = []
turns g (suc most) l m [] = turn g l [] ∷ []
turns g (suc most) l m (ask ∷ asks) = turn g l (ask ∷ asks) ∷ turns g most m l (opened g l (ask ∷ asks))

-- what these turns answer, in order
unfoldable pub asked : {R X C : Type 0} → Rules R X C → ℕ → List R → List R → List (Ask R X) → List (Ask R X)
asked g zero l m asks = []
asked g (suc most) l m [] = []
asked g (suc most) l m (ask ∷ asks) = (ask ∷ asks) ++ asked g most m l (opened g l (ask ∷ asks))

-- how many turns are enough behind the first
abbrev pub enough : {R X C : Type 0} → Rules R X C → List R → List R → X → ℕ
enough g a b x = 3 + 3 * (length (box_rows g x a) + length (box_rows g x b))

-- the first turn, and what it opens
abbrev pub first_turn : {R X C : Type 0} → Rules R X C → List R → X → Turn R C
first_turn g a x = record { items = First (box_print g x a) ∷ []; ends_with_bye = false }

abbrev pub first_asks : {R X C : Type 0} → Rules R X C → List R → X → List (Ask R X)
first_asks g a x = print_ask g a x ∷ []

-- the turns of a caller with rows a and an answerer with rows b over a box; without one they only say farewell
abbrev pub exchange : {R X C : Type 0} → Rules R X C → List R → List R → Option X → List (Turn R C)
exchange g a b None = bye ∷ bye ∷ []
exchange g a b (Some x) = first_turn g a x ∷ turns g (enough g a b x) b a (first_asks g a x)

-- where the two sides' fingerprints of the asked box are equal, their rows in it are
abbrev pub IsApart : {R X C : Type 0} → Rules R X C → List R → List R → Ask R X → Type 0
IsApart g a b (Print x print) = box_print g x a ≡ box_print g x b → box_rows g x a ≡ box_rows g x b
IsApart g a b (Sent x sent) = Unit {0}

-- so it is at each ask of the exchange
abbrev pub Apart : {R X C : Type 0} → Rules R X C → List R → List R → X → Type 0
Apart g a b x = AllByRecursion (IsApart g a b) (asked g (enough g a b x) b a (first_asks g a x))

-- a turn and a farewell alone end the turns: that turn ends with a farewell, and none before does
abbrev pub EndWithByes : {R C : Type 0} → List (Turn R C) → Type 0
EndWithByes [] = ⊥
EndWithByes (t ∷ []) = ⊥
EndWithByes (t ∷ u ∷ []) = (t.ends_with_bye ≡ true) × (u ≡ bye)
EndWithByes (t ∷ u ∷ v ∷ ts) = (t.ends_with_bye ≡ false) × EndWithByes (u ∷ v ∷ ts)
