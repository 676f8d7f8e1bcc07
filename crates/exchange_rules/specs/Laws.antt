-- What the laws of an exchange say, at whatever rows R, boxes X and cuts C there are.
use Rattle.std.specs.Prelude.{◌≡◌, ◌⊎◌, ℕ, ◌+◌, ◌*◌, ◌≤◌, max, Bool, count_by, List, [], length, take, Contains, Option, Some, None}
use Rattle.std.specs.List.{IsDistinct}
use Rattle.exchange_rules.specs.Rules.{Rules, box_rows}
use Rattle.exchange_rules.specs.Items.{Turn, rows_of_turns, counted, to_left, to_right, caller_turns, answerer_turns}
use Rattle.exchange_rules.specs.Exchange.{exchange, turns, enough, first_asks, EndWithByes, Apart}
use Rattle.exchange_rules.specs.AnyPeer.{caller, answerer}
use Rattle.exchange_rules.specs.Premises.{IsDeciding, HasDisjointParts, CanCut, CanSend}

module _ (R X C : Type 0) where
  -- ---- how it ends, and how long it is

  -- an exchange ends with a farewell of each side
  abbrev pub ExchangesEnd : Type 0
  ExchangesEnd = (g : Rules R X C) (a b : List R) (x : Option X)
      → HasDisjointParts g → CanCut g a → CanCut g b → EndWithByes (exchange g a b x)

  -- with more turns allowed it is the same
  abbrev pub MoreTurnsAddNone : Type 0
  MoreTurnsAddNone = (g : Rules R X C) (a b : List R) (x : X)
      → HasDisjointParts g → CanCut g a → CanCut g b
      → (most : ℕ) → enough g a b x ≤ most
      → turns g most b a (first_asks g a x) ≡ turns g (enough g a b x) b a (first_asks g a x)

  -- over a box with a and b rows of the sides it has at most max(3, 3(a + b)) items
  abbrev pub ItemsAreFew : Type 0
  ItemsAreFew = (g : Rules R X C) (a b : List R) (x : X)
      → HasDisjointParts g → CanCut g a → CanCut g b
      → counted (exchange g a b (Some x))
      ≤ max 3 (3 * (length (box_rows g x a) + length (box_rows g x b)))

  -- those of some turns are those of both sides together
  abbrev pub SidesAddUp : Type 0
  SidesAddUp = (ts : List (Turn R C)) → counted ts ≡ counted (caller_turns ts) + counted (answerer_turns ts)

  -- without a box an exchange has no item
  abbrev pub NoItemsWithoutBox : Type 0
  NoItemsWithoutBox = (g : Rules R X C) (a b : List R) → counted (exchange g a b None) ≡ 0

  -- ---- what each side is sent in it

  -- the caller is sent only rows that the answerer holds in the box
  abbrev pub LeftGetsOnlyHeld : Type 0
  LeftGetsOnlyHeld = (g : Rules R X C) (a b : List R) (x : X) (r : R)
      → IsDeciding g → HasDisjointParts g
      → Contains (to_left (exchange g a b (Some x))) r → Contains (box_rows g x b) r

  -- the answerer is sent only rows that the caller holds in the box
  abbrev pub RightGetsOnlyHeld : Type 0
  RightGetsOnlyHeld = (g : Rules R X C) (a b : List R) (x : X) (r : R)
      → IsDeciding g → HasDisjointParts g
      → Contains (to_right (exchange g a b (Some x))) r → Contains (box_rows g x a) r

  -- where the answerer holds no row twice, the caller is sent none twice
  abbrev pub LeftGetsOnce : Type 0
  LeftGetsOnce = (g : Rules R X C) (a b : List R) (x : X)
      → IsDeciding g → HasDisjointParts g
      → IsDistinct g.same_row b → IsDistinct g.same_row (to_left (exchange g a b (Some x)))

  -- where the caller holds no row twice, the answerer is sent none twice
  abbrev pub RightGetsOnce : Type 0
  RightGetsOnce = (g : Rules R X C) (a b : List R) (x : X)
      → IsDeciding g → HasDisjointParts g
      → IsDistinct g.same_row a → IsDistinct g.same_row (to_right (exchange g a b (Some x)))

  -- where the fingerprints tell rows apart, each row of the answerer in the box is one that the caller holds there or is
  -- sent
  abbrev pub LeftGetsLacked : Type 0
  LeftGetsLacked = (g : Rules R X C) (a b : List R) (x : X) (r : R)
      → IsDeciding g → HasDisjointParts g → CanCut g a → CanCut g b → Apart g a b x
      → Contains (box_rows g x b) r
      → Contains (box_rows g x a) r ⊎ Contains (to_left (exchange g a b (Some x))) r

  -- where the fingerprints tell rows apart, each row of the caller in the box is one that the answerer holds there or is
  -- sent
  abbrev pub RightGetsLacked : Type 0
  RightGetsLacked = (g : Rules R X C) (a b : List R) (x : X) (r : R)
      → IsDeciding g → HasDisjointParts g → CanCut g a → CanCut g b → Apart g a b x
      → Contains (box_rows g x a) r
      → Contains (box_rows g x b) r ⊎ Contains (to_right (exchange g a b (Some x))) r

  -- ---- what a side sends to a peer that may say anything

  -- a caller sends only rows that it holds in the box, whatever it reads
  abbrev pub CallerSendsHeld : Type 0
  CallerSendsHeld = (g : Rules R X C) (l : List R) (x : X) (read : List (Turn R C)) (r : R)
      → IsDeciding g → HasDisjointParts g
      → Contains (rows_of_turns (caller g l (Some x) read)) r → Contains (box_rows g x l) r

  -- an answerer sends only rows that it holds in the box, whatever it reads
  abbrev pub AnswererSendsHeld : Type 0
  AnswererSendsHeld = (g : Rules R X C) (l : List R) (x : X) (read : List (Turn R C)) (r : R)
      → IsDeciding g → HasDisjointParts g
      → Contains (rows_of_turns (answerer g l (Some x) read)) r → Contains (box_rows g x l) r

  -- a caller that holds no row twice sends none twice
  abbrev pub CallerSendsOnce : Type 0
  CallerSendsOnce = (g : Rules R X C) (l : List R) (x : X) (read : List (Turn R C))
      → IsDeciding g → HasDisjointParts g
      → IsDistinct g.same_row l → IsDistinct g.same_row (rows_of_turns (caller g l (Some x) read))

  -- an answerer that holds no row twice sends none twice
  abbrev pub AnswererSendsOnce : Type 0
  AnswererSendsOnce = (g : Rules R X C) (l : List R) (x : X) (read : List (Turn R C))
      → IsDeciding g → HasDisjointParts g
      → IsDistinct g.same_row l → IsDistinct g.same_row (rows_of_turns (answerer g l (Some x) read))

  -- of the rows that pass a test a caller sends no more than it holds in the box
  abbrev pub CallerSendsNoMore : Type 0
  CallerSendsNoMore = (g : Rules R X C) (l : List R) (x : X) (read : List (Turn R C))
      → HasDisjointParts g → (passes : R → Bool)
      → count_by passes (rows_of_turns (caller g l (Some x) read)) ≤ count_by passes (box_rows g x l)

  -- of the rows that pass a test an answerer sends no more than it holds in the box
  abbrev pub AnswererSendsNoMore : Type 0
  AnswererSendsNoMore = (g : Rules R X C) (l : List R) (x : X) (read : List (Turn R C))
      → HasDisjointParts g → (passes : R → Bool)
      → count_by passes (rows_of_turns (answerer g l (Some x) read)) ≤ count_by passes (box_rows g x l)

  -- a front of some turns has no more such rows than all of them
  abbrev pub FrontsSendNoMore : Type 0
  FrontsSendNoMore = (written : List (Turn R C)) (most : ℕ) (passes : R → Bool)
      → count_by passes (rows_of_turns (take most written)) ≤ count_by passes (rows_of_turns written)

  -- without a box neither side sends a row
  abbrev pub NoRowsWithoutBox : Type 0
  NoRowsWithoutBox = (g : Rules R X C) (l : List R) (read : List (Turn R C))
      → (rows_of_turns (caller g l None read) ≡ []) × (rows_of_turns (answerer g l None read) ≡ [])

  -- ---- rows elsewhere

  -- with the same rows in the box a caller that reads the same turns writes the same
  abbrev pub CallerSeesBoxAlone : Type 0
  CallerSeesBoxAlone = (g : Rules R X C) (l m : List R) (x : X) (read : List (Turn R C))
      → HasDisjointParts g → box_rows g x l ≡ box_rows g x m
      → caller g l (Some x) read ≡ caller g m (Some x) read

  -- with the same rows in the box an answerer that reads the same turns writes the same
  abbrev pub AnswererSeesBoxAlone : Type 0
  AnswererSeesBoxAlone = (g : Rules R X C) (l m : List R) (x : X) (read : List (Turn R C))
      → HasDisjointParts g → box_rows g x l ≡ box_rows g x m
      → answerer g l (Some x) read ≡ answerer g m (Some x) read

  -- without a box both write the same whatever their rows are
  abbrev pub NoneSeesRowsWithoutBox : Type 0
  NoneSeesRowsWithoutBox = (g : Rules R X C) (l m : List R) (read : List (Turn R C))
      → (caller g l None read ≡ caller g m None read)
      × (answerer g l None read ≡ answerer g m None read)

  -- with the same rows of both sides in the box an exchange is the same
  abbrev pub ExchangesSeeBoxAlone : Type 0
  ExchangesSeeBoxAlone = (g : Rules R X C) (a b c d : List R) (x : X)
      → HasDisjointParts g
      → box_rows g x a ≡ box_rows g x c → box_rows g x b ≡ box_rows g x d
      → exchange g a b (Some x) ≡ exchange g c d (Some x)

  -- and where its fingerprints tell the rows of the one pair apart, they do those of the other
  abbrev pub ApartSeesBoxAlone : Type 0
  ApartSeesBoxAlone = (g : Rules R X C) (a b c d : List R) (x : X)
      → HasDisjointParts g
      → box_rows g x a ≡ box_rows g x c → box_rows g x b ≡ box_rows g x d
      → Apart g a b x → Apart g c d x

  -- ---- two sides that read each other

  -- a caller and an answerer that each read what the other writes: the caller writes its turns of the exchange
  abbrev pub CallerWritesExchange : Type 0
  CallerWritesExchange = (g : Rules R X C) (a b : List R) (x : Option X) (left right : List (Turn R C))
      → HasDisjointParts g → CanCut g a → CanCut g b → CanSend g a → CanSend g b
      → left ≡ caller g a x right → right ≡ answerer g b x left
      → left ≡ caller_turns (exchange g a b x)

  -- and the answerer writes its own
  abbrev pub AnswererWritesExchange : Type 0
  AnswererWritesExchange = (g : Rules R X C) (a b : List R) (x : Option X) (left right : List (Turn R C))
      → HasDisjointParts g → CanCut g a → CanCut g b → CanSend g a → CanSend g b
      → left ≡ caller g a x right → right ≡ answerer g b x left
      → right ≡ answerer_turns (exchange g a b x)

  -- a caller that reads the answerer's turns of the exchange writes its own
  abbrev pub CallerGoesOnByExchange : Type 0
  CallerGoesOnByExchange = (g : Rules R X C) (a b : List R) (x : Option X)
      → HasDisjointParts g → CanCut g a → CanCut g b → CanSend g a → CanSend g b
      → caller g a x (answerer_turns (exchange g a b x)) ≡ caller_turns (exchange g a b x)

  -- an answerer that reads the caller's turns of the exchange writes its own
  abbrev pub AnswererGoesOnByExchange : Type 0
  AnswererGoesOnByExchange = (g : Rules R X C) (a b : List R) (x : Option X)
      → HasDisjointParts g → CanCut g a → CanCut g b → CanSend g a → CanSend g b
      → answerer g b x (caller_turns (exchange g a b x)) ≡ answerer_turns (exchange g a b x)
