-- One side of an exchange, item by item, as a machine that reads items.
use Rattle.std.specs.Prelude.{◌≡◌, ℕ, zero, suc, Bool, true, false, List, [], ◌∷◌, Option, None, Some, option_to_list, Result, Ok, Err, Contains, count_by, filter_map, ◌≤◌}
use Rattle.session_rules.specs.Machine.{Seen, Step, Goes, Ends, Refuses, Machine}
use Rattle.session_rules.specs.Reading.{said}

-- the side that begins, and the other one
pub data Role : Type 0 where
  Caller : Role
  Answerer : Role

-- What a side of an exchange goes by. Rows, what is agreed on before it, places, items and causes to refuse stay abstract.
pub record Talk (R A T I G : Type 0) : Type 0 where
  -- the place of a side at the beginning, with the rows that it offers, by what is agreed on
  pub begin : Role → List R → A → T
  -- the next item that it says, and its place then; none where it reads
  pub said : T → Option (I × T)
  -- it says no more items than so many until it reads
  pub to_say : T → ℕ
  -- its place once it has read an item, or why it refuses that
  pub heard : T → I → Result T G
  -- it neither says nor reads any more
  pub is_done : T → Bool
  -- the row of an item, if it is one
  pub row_in : I → Option R
  -- what some bytes are, and the bytes of an item
  pub sees : T → List ℕ → Seen I
  pub spelling : I → List ℕ

-- ---- what is said

-- an item, and what is said behind it
abbrev pub with_item : {T I : Type 0} → I → List I × T → List I × T
with_item item spoken = (item ∷ spoken.0, spoken.1)

-- what is said from a next item on
abbrev pub speaks_from : {T I : Type 0} → (T → List I × T) → T → Option (I × T) → List I × T
speaks_from behind t None = ([], t)
speaks_from behind t (Some next) = with_item next.0 (behind next.1)

-- at most so many items that it says, one after the other, and its place then
unfoldable pub speaks : {R A T I G : Type 0} → Talk R A T I G → ℕ → T → List I × T
speaks k zero t = ([], t)
speaks k (suc most) t = speaks_from (speaks k most) t (k.said t)

-- all that it says until it reads, and its place then
abbrev pub spoken : {R A T I G : Type 0} → Talk R A T I G → T → List I × T
spoken k t = speaks k (k.to_say t) t

-- ---- what is read

-- it goes on behind what it has said, or is done with it
abbrev pub answered : {T I R G : Type 0} → Bool → List I × T → List R → Step T I R G
answered true spoken rows = Ends spoken.0 rows
answered false spoken rows = Goes spoken.1 spoken.0 rows

-- what comes of an item, by its place then
abbrev pub item_heard : {R A T I G : Type 0} → Talk R A T I G → I → Result T G → Step T I R G
item_heard k item (Err cause) = Refuses cause
item_heard k item (Ok t) = answered (k.is_done (spoken k t).1) (spoken k t) (option_to_list (k.row_in item))

-- a side of an exchange as a machine: it begins with what it says first
abbrev pub talk : {R A T I G : Type 0} → Talk R A T I G → Role → List R → A → Machine T I I R G
talk k role rows agreed = record {
  opening = (spoken k (k.begin role rows agreed)).0;
  first = (spoken k (k.begin role rows agreed)).1;
  sees = k.sees;
  step = λ t item. item_heard k item (k.heard t item);
  spelling = k.spelling;
}

-- whatever it reads, a side tells no rows but those that it began with
abbrev pub TellsOwn : {R A T I G : Type 0} → Talk R A T I G → Type 0
TellsOwn {R} {A} {I = I} k = (role : Role) (rows : List R) (agreed : A) (bytes : List ℕ) (item : I) (row : R)
    → Contains (said (talk k role rows agreed) bytes) item → k.row_in item ≡ Some row → Contains rows row

-- whatever it reads, of the rows that pass a test a side tells no more than it began with
abbrev pub TellsNoMore : {R A T I G : Type 0} → Talk R A T I G → Type 0
TellsNoMore {R} {A} k = (role : Role) (rows : List R) (agreed : A) (bytes : List ℕ) (passes : R → Bool)
    → count_by passes (filter_map k.row_in (said (talk k role rows agreed) bytes)) ≤ count_by passes rows
