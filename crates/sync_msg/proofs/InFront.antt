-- What was read at the front of bytes, told by the spellings.
use Rattle.std.proofs.Common.{◌≡◌, ℕ, zero, suc, ◌-◌, ◌<◌, ◌≤◌, List, ◌++◌, length, take, Result, Err, refl, sym, ap, subst, ◌∙◌, arith, inl, inr}
use Rattle.std.specs.Int.{w32, to_be_bytes}
use Rattle.std.specs.Result.{IsErrAnd}
use Rattle.std.proofs.lemmas.Result.{err_from_is_err_and}
use Rattle.spelling.specs.Front.{Front, Whole, Part, Wrong}
use Rattle.spelling.specs.Form.{AreBytes}
use Rattle.spelling.specs.Reader.{Begins}
use Rattle.spelling.specs.Reading.{Fails}
use Rattle.spelling.specs.declared.input.Unread.{Unread}
use Rattle.spelling.specs.declared.input.Unread.TheVariants as unread
use Rattle.spelling.proofs.Joining.{whole_value, whole_not_part, whole_not_wrong}
use Rattle.spelling.proofs.Lists.{take_front, All-left, All-right}
use Rattle.willow_entry.specs.Row.{RowValue}
use Rattle.willow_entry.specs.RowBody.{row_body}
use Rattle.willow_entry.specs.Frame.{row_frame, FrameAsks, HasFrame}
use Rattle.sync_msg.specs.declared.item.Item.{Item}
use Rattle.sync_msg.specs.declared.item.Item.TheVariants.{First, Agree, Split, Parts, Entries, Rest, Row, EndTurn, Bye}
use Rattle.sync_msg.specs.Items.{ItemValue, item_spelling, IsHead, IsRowItem}
use Rattle.sync_msg.specs.ItemReading.{head_at, body_at, GivesRow}
use Rattle.sync_msg.specs.Memory.{HeadAsks, ItemAsks}
use Rattle.sync_msg.specs.Reader.{BeginsFrame, BeginsItem, HasNoItem, IsInFront, MayCome, TakesItem}
use Rattle.sync_msg.proofs.HeadReads.{head-reads, head_reader, body-reads, body_reader}

-- an error that is handed on says of the bytes what it said
pub handed_on : {R : Type 0} (may_come : ItemValue → Type 0) (begins : List ℕ → Type 0) (value : R → RowValue) (bytes : List ℕ) (u : Unread) (result : Result (Item R × ℕ) Unread)
    → IsErrAnd result (λ e. e ≡ u) → IsInFront may_come begins value bytes (Err u) → IsInFront may_come begins value bytes result
handed_on {R} may_come begins value bytes u result err h =
    let p = err_from_is_err_and result err in
    subst (λ (r : Result (Item R × ℕ) Unread). IsInFront may_come begins value bytes r) (ap (λ (e : Unread). Err e) (sym p.2) ∙ sym p.1) h

part_not_wrong : {A : Type 0} (r : Front A) → r ≡ Part → r ≡ Wrong → ⊥
part_not_wrong r e f = cc

-- ---- items that are no rows

pub head_taken : (version : ℕ) (bytes input : List ℕ) (item : ItemValue) (left : List ℕ) (taken : ℕ) → AreBytes bytes → input ≡ bytes → head_at version input ≡ Whole item left → taken ≡ length bytes - length left
    → TakesItem (IsHead version) bytes item taken
head_taken version bytes input item left taken are is e n =
    let t = (head-reads version).takes bytes item left are (ap (head_at version) (sym is) ∙ e) in
    record { comes = t.fits; within = omega (arith, n); spelled = ap (λ (k : ℕ). take k bytes) n ∙ take_front bytes (item_spelling item) left t.parts }

no_head : (version : ℕ) (bytes : List ℕ) → AreBytes bytes → head_at version bytes ≡ Wrong → HasNoItem (IsHead version) (Begins item_spelling (IsHead version)) bytes
no_head version bytes are e = record {
  none_begun = λ b. part_not_wrong (head_at version bytes) (((head_reader version).part bytes are).1 b) e;
  none_whole = λ item rest fits spelled. whole_not_wrong item rest (head_at version bytes) (ap (head_at version) spelled ∙ (head-reads version).again item rest fits) e;
}

head_fails : {R : Type 0} (version : ℕ) (value : R → RowValue) (bytes : List ℕ) (u : Unread) → AreBytes bytes → Fails u (head_at version bytes) → IsInFront (IsHead version) (Begins item_spelling (IsHead version)) value bytes (Err u)
head_fails version value bytes unread.Part are h = ((head_reader version).part bytes are).0 h
head_fails version value bytes unread.Wrong are h = no_head version bytes are h
head_fails version value bytes unread.NoMemory are h = tt

pub head_end : {R : Type 0} (version : ℕ) (value : R → RowValue) (bytes input : List ℕ) (u : Unread) → AreBytes bytes → input ≡ bytes → Fails u (head_at version input) → IsInFront (IsHead version) (Begins item_spelling (IsHead version)) value bytes (Err u)
head_end version value bytes input u are is h = head_fails version value bytes u are (subst (λ (l : List ℕ). Fails u (head_at version l)) is h)

-- ---- rows

-- an item that is a row of the grammar
pub record IsThisRow (IsRow : RowValue → Type 0) (item : ItemValue) : Type 0 where
  pub row : RowValue
  pub same : item ≡ Row row
  pub fits : IsRow row
  pub framed : HasFrame row

pub row_of : (IsRow : RowValue → Type 0) (item : ItemValue) → IsRowItem IsRow item → IsThisRow IsRow item
row_of IsRow (First print) f = absurd f
row_of IsRow Agree f = absurd f
row_of IsRow (Split at lower upper) f = absurd f
row_of IsRow (Parts points prints) f = absurd f
row_of IsRow (Entries count) f = absurd f
row_of IsRow (Rest count) f = absurd f
row_of IsRow (Row row) f = record { row = row; same = refl; fits = f.0; framed = f.1 }
row_of IsRow EndTurn f = absurd f
row_of IsRow Bye f = absurd f

-- the frame of a row in front of bytes is read as its body
pub frame_read : (bytes : List ℕ) (row : RowValue) (rest : List ℕ) → AreBytes bytes → HasFrame row → bytes ≡ row_frame row ++ rest → body_at bytes ≡ Whole (row_body row) rest
frame_read bytes row rest are framed e =
    let are_frame : AreBytes (row_frame row) = All-left _ (row_frame row) rest (subst AreBytes e are) in
    let are_body : AreBytes (row_body row) = All-right _ (to_be_bytes w32 (length (row_body row))) (row_body row) are_frame in
    ap body_at e ∙ body-reads.again (row_body row) rest (framed, are_body)

pub row_taken : (IsRow : RowValue → Type 0) (bytes input : List ℕ) (row : RowValue) (left : List ℕ) (taken : ℕ) → AreBytes bytes → input ≡ bytes → IsRow row × (body_at input ≡ Whole (row_body row) left)
    → taken ≡ length bytes - length left → TakesItem (IsRowItem IsRow) bytes (Row row) taken
row_taken IsRow bytes input row left taken are is read n =
    let t = body-reads.takes bytes (row_body row) left are (ap body_at (sym is) ∙ read.1) in
    record { comes = (read.0, t.fits.0); within = omega (arith, n); spelled = ap (λ (k : ℕ). take k bytes) n ∙ take_front bytes (row_frame row) left t.parts }

row_fails : {R : Type 0} (IsRow : RowValue → Type 0) (value : R → RowValue) (bytes left : List ℕ) (u : Unread) → AreBytes bytes → GivesRow IsRow value (Err u) left (body_at bytes) → IsInFront (IsRowItem IsRow) BeginsFrame value bytes (Err u)
row_fails IsRow value bytes left unread.Part are h = (body_reader.part bytes are).0 h
row_fails IsRow value bytes left unread.NoMemory are h = tt
row_fails IsRow value bytes left unread.Wrong are (inl wrong) = record {
  none_begun = λ b. part_not_wrong (body_at bytes) ((body_reader.part bytes are).1 b) wrong;
  none_whole = λ item rest comes e.
      let r = row_of IsRow item comes in
      whole_not_wrong (row_body r.row) rest (body_at bytes) (frame_read bytes r.row rest are r.framed (e ∙ ap (λ (x : ItemValue). item_spelling x ++ rest) r.same)) wrong;
}
row_fails IsRow value bytes left unread.Wrong are (inr read) = record {
  none_begun = λ b. whole_not_part read.0 read.1 (body_at bytes) read.2 ((body_reader.part bytes are).1 b);
  none_whole = λ item rest comes e.
      let r = row_of IsRow item comes in
      let whole = frame_read bytes r.row rest are r.framed (e ∙ ap (λ (x : ItemValue). item_spelling x ++ rest) r.same) in
      read.3 r.row r.fits (whole_value read.0 (row_body r.row) read.1 rest (sym read.2 ∙ whole));
}

pub row_end : {R : Type 0} (IsRow : RowValue → Type 0) (value : R → RowValue) (bytes input left : List ℕ) (u : Unread) → AreBytes bytes → input ≡ bytes → GivesRow IsRow value (Err u) left (body_at input) → IsInFront (IsRowItem IsRow) BeginsFrame value bytes (Err u)
row_end IsRow value bytes input left u are is h = row_fails IsRow value bytes left u are (subst (λ (l : List ℕ). GivesRow IsRow value (Err u) left (body_at l)) is h)

-- ---- by the rows that are due

pub none_due : {R : Type 0} (IsRow : RowValue → Type 0) (version : ℕ) (value : R → RowValue) (due : ℕ) (bytes : List ℕ) (result : Result (Item R × ℕ) Unread) → due ≤ 0
    → IsInFront (IsHead version) (Begins item_spelling (IsHead version)) value bytes result → IsInFront (MayCome IsRow version due) (BeginsItem version due) value bytes result
none_due IsRow version value zero bytes result e h = h
none_due IsRow version value (suc due) bytes result e h = absurd (omega (arith, e))

pub some_due : {R : Type 0} (IsRow : RowValue → Type 0) (version : ℕ) (value : R → RowValue) (due : ℕ) (bytes : List ℕ) (result : Result (Item R × ℕ) Unread) → 0 < due
    → IsInFront (IsRowItem IsRow) BeginsFrame value bytes result → IsInFront (MayCome IsRow version due) (BeginsItem version due) value bytes result
some_due IsRow version value zero bytes result e h = absurd (omega (arith, e))
some_due IsRow version value (suc due) bytes result e h = h

pub head_asks : (version due : ℕ) (bytes : List ℕ) → due ≤ 0 → HeadAsks version bytes → ItemAsks version due bytes
head_asks version zero bytes e asks = asks
head_asks version (suc due) bytes e asks = absurd (omega (arith, e))

pub row_asks : (version due : ℕ) (bytes : List ℕ) → 0 < due → FrameAsks bytes → ItemAsks version due bytes
row_asks version zero bytes e asks = absurd (omega (arith, e))
row_asks version (suc due) bytes e asks = asks
