-- A side that says a turn, item by item.
use Rattle.std.proofs.Common.{◌≡◌, suc, ◌+◌, cond, List, [], ◌∷◌, ◌++◌, length, flat_map, sym, ap, ◌∙◌, arith}
use Rattle.sync_msg.specs.Items.{ItemValue}
use Rattle.sync_msg.specs.declared.item.Item.TheVariants.{EndTurn, Bye}
use Rattle.sync_core.specs.Flat.{AskValue, TurnValue, items_of, turn_items}
use Rattle.sync_core.specs.Place.{Saying, Place, saying}
use Rattle.sync_core.specs.Steps.{count_one, said, waiting}
use Rattle.sync_core.specs.Held.{to_count}
use Rattle.sync_core.specs.Runs.{with_item, says, place_after}

-- the place of a side that says some items, and the one behind them
abbrev before : Place → List ItemValue → List AskValue → Place
before place items asks = record place { doing = Saying items asks }

abbrev behind : Place → List ItemValue → List AskValue → Place
behind place items asks = record place { sent = place.sent + to_count items; doing = waiting asks }

says_all : (place : Place) (item : ItemValue) (rest : List ItemValue) (asks : List AskValue) → says (suc (length rest)) (before place (item ∷ rest) asks) ≡ (item ∷ rest, behind place (item ∷ rest) asks)
unfolding says said
says_all place item [] asks =
    let count : place.sent + count_one item ≡ place.sent + to_count (item ∷ []) = omega arith in
    ap (λ n. (item ∷ [], record place { sent = n; doing = waiting asks })) count
says_all place item (next ∷ rest) asks =
    let one = record place { sent = place.sent + count_one item } in
    let count : place.sent + count_one item + to_count (next ∷ rest) ≡ place.sent + to_count (item ∷ next ∷ rest) = omega arith in
    ap (with_item item) (says_all one next rest asks) ∙ ap (λ n. (item ∷ next ∷ rest, record place { sent = n; doing = waiting asks })) count

says_items : (place : Place) (items : List ItemValue) (end : ItemValue) (asks : List AskValue) → says (length (items ++ end ∷ [])) (before place (items ++ end ∷ []) asks) ≡ (items ++ end ∷ [], behind place (items ++ end ∷ []) asks)
says_items place [] end asks = says_all place end [] asks
says_items place (item ∷ items) end asks = says_all place item (items ++ end ∷ []) asks

pub says_turn : (place : Place) (t : TurnValue) (asks : List AskValue) → place.doing ≡ saying place.version t asks → says (length (turn_items place.version t)) place ≡ (turn_items place.version t, place_after place t asks)
says_turn place t asks is =
    let items = turn_items place.version t in
    let same : before place (turn_items place.version t) asks ≡ place = ap (λ d. record place { doing = d }) (sym is) in
    ap (says (length items)) (sym same) ∙ says_items place (flat_map (items_of place.version) t.items) (cond t.ends_with_bye Bye EndTurn) asks
