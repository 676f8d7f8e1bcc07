-- The answer to each ask, and the turn that answers all asks of the turn before.
use Rattle.std.specs.Prelude.{not, List, [], ◌∷◌, map, Option, None, Some, filter, flat_map, if◌then◌else◌}
use Rattle.std.specs.List.{list_any}
use Rattle.exchange_rules.specs.Rules.{Rules, box_rows, box_print}
use Rattle.exchange_rules.specs.Items.{Ask, Print, Sent, Item, Agree, Split, Entries, Rest, Turn, is_empty}

-- an answer: what is said, and what the other side then has to answer
pub record Reply (R X C : Type 0) : Type 0 where
  pub item : Item R C
  pub opens : List (Ask R X)

-- a box with the own fingerprint of it
abbrev pub print_ask : {R X C : Type 0} → Rules R X C → List R → X → Ask R X
print_ask g l x = Print x (box_print g x l)

-- where the fingerprints differ: few rows are sent, and the other side owes the rest; else the box is cut, and the
-- other side owes an answer for each part
abbrev pub differing : {R X C : Type 0} → Rules R X C → List R → X → Option C → Reply R X C
differing g l x None = record { item = Entries (box_rows g x l); opens = Sent x (box_rows g x l) ∷ [] }
differing g l x (Some cut) = record {
  item = Split cut (map (λ y. box_print g y l) (g.parts x cut));
  opens = map (print_ask g l) (g.parts x cut);
}

-- the own rows of a box that are not among those sent
abbrev pub lacking : {R X C : Type 0} → Rules R X C → List R → X → List R → List R
lacking g l x sent = filter (λ r. not (list_any (g.same_row r) sent)) (box_rows g x l)

-- the answer of a side with rows l
unfoldable pub reply : {R X C : Type 0} → Rules R X C → List R → Ask R X → Reply R X C
reply g l (Print x print) =
    if g.same_print print (box_print g x l) then record { item = Agree; opens = [] } else differing g l x (g.choice (box_rows g x l))
reply g l (Sent x sent) = record { item = Rest (lacking g l x sent); opens = [] }

-- the asks that the answers to some asks open, in order
abbrev pub opened : {R X C : Type 0} → Rules R X C → List R → List (Ask R X) → List (Ask R X)
opened g l asks = flat_map (λ ask. (reply g l ask).opens) asks

-- the turn that answers some asks, in order; it ends with a farewell where it opens nothing
abbrev pub turn : {R X C : Type 0} → Rules R X C → List R → List (Ask R X) → Turn R C
turn g l asks = record { items = map (λ ask. (reply g l ask).item) asks; ends_with_bye = is_empty (opened g l asks) }
