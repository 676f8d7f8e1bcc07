-- The image of live rows is read back as these.
use Rattle.std.proofs.Common.{◌≡◌, ℕ, ◌<◌, ◌≤◌, ◌^◌, List, [], ◌∷◌, ◌++◌, length, Option, Some, None, Result, Ok, Err, refl, sym, ap, subst, ◌∙◌, arith}
use Rattle.std.specs.List.{AllByRecursion}
use Rattle.std.proofs.lemmas.List.{length-map}
use Rattle.spelling.specs.declared.ending.End.{End}
use Rattle.spelling.specs.declared.ending.End.TheVariants.{Refused, NoMemory}
use Rattle.willow_path.specs.Key.{IsKey}
use Rattle.willow_entry.specs.EntryForm.{entry_spelling}
use Rattle.willow_entry.specs.RowBody.{row_body}
use Rattle.willow_entry.specs.Row.{RowValue, live}
use Rattle.willow_entry.specs.declared.frame.TheConstants.{MAX_FRAME}
use Rattle.willow_entry.specs.Frame.{HasFrame}
use Rattle.cap_codec.specs.Rows.{RawValue, row_of, IsRawRow, FitsFrame}
use Rattle.peer_image.specs.declared.read.Image.{Image}
use Rattle.peer_image.specs.declared.refusal.ImageRefusal.{ImageRefusal}
use Rattle.peer_image.specs.declared.refusal.ImageRefusal.TheVariants.{BadImage, NotRising, Pruned}
use Rattle.peer_image.specs.ImageOne.{image_one}
use Rattle.peer_image.specs.Order.{order_refusal, AreOf}
use Rattle.peer_image.specs.ImageOneReading.{raw_rows, IsImageOne, IsMisorderedOne, ReadsImageOne, IsBack, ReadsBackOne}
use Rattle.peer_image.proofs.InOrder.{order_of_live}
use Rattle.peer_image.proofs.OneStops.{one_image, never_both}

-- ---- rows read out

abbrev raw_of : (r : RowValue) → IsRawRow r → RawValue
raw_of r f = record { entry = r.entry; token = f.read_out }

abbrev with_token : RowValue → List ℕ → RowValue
with_token r t = record { entry = r.entry; token = t }

raw_same : (r : RowValue) (f : IsRawRow r) → row_of (raw_of r f) ≡ r
raw_same r f = ap (with_token r) (sym f.spelled)

raw_fits : (r : RowValue) (f : IsRawRow r) → HasFrame r → FitsFrame (raw_of r f)
unfolding row_body
raw_fits r f short = record {
  raw = record { entry_fits = f.entry_fits; token_fits = f.token_fits };
  short = subst (λ (t : List ℕ). length (entry_spelling r.entry ++ t) ≤ MAX_FRAME) f.spelled short;
}

-- rows as they are read
pub record Raws (rows : List RowValue) : Type 0 where
  pub raws : List RawValue
  pub same : raw_rows raws ≡ rows
  pub fit : AllByRecursion FitsFrame raws

pub raws_of : (rows : List RowValue) → AllByRecursion IsRawRow rows → AllByRecursion HasFrame rows → Raws rows
raws_of [] f g = record { raws = []; same = refl; fit = tt }
raws_of (r ∷ rows) f g =
    let more = raws_of rows f.1 g.1 in
    record {
      raws = raw_of r f.0 ∷ more.raws;
      same = ap (λ (x : RowValue). x ∷ raw_rows more.raws) (raw_same r f.0) ∙ ap (λ (l : List RowValue). r ∷ l) more.same;
      fit = (raw_fits r f.0 g.0, more.fit);
    }

-- rows in frames are rows that frames may carry
pub framed_rows : (rows : List RawValue) → AllByRecursion FitsFrame rows → AllByRecursion HasFrame (raw_rows rows)
unfolding row_body
framed_rows [] f = tt
framed_rows (r ∷ rows) f = (f.0.short, framed_rows rows f.1)

-- ---- read back

pub some_not_none : (e : ImageRefusal) (o : Option ImageRefusal) → o ≡ Some e → o ≡ None → ⊥
some_not_none e o h k = cc

in_order : (n : List ℕ) (raws : List RawValue) (e : ImageRefusal) → IsImageOne (image_one n (raw_rows raws)) n raws → order_refusal (raw_rows raws) ≡ None → IsMisorderedOne (image_one n (raw_rows raws)) e → ⊥
in_order n raws e i ok m =
    let same = one_image (image_one n (raw_rows raws)) n m.namespace raws m.rows i m.is_image in
    some_not_none e (order_refusal (raw_rows raws)) (ap (λ (l : List RawValue). order_refusal (raw_rows l)) same.1 ∙ m.refused) ok

back : (n : List ℕ) (raws : List RawValue) (result : Result Image (End ImageRefusal)) → IsImageOne (image_one n (raw_rows raws)) n raws → order_refusal (raw_rows raws) ≡ None
    → ReadsImageOne (image_one n (raw_rows raws)) result → IsBack n (raw_rows raws) result
back n raws (Ok found) i ok told =
    let same = one_image (image_one n (raw_rows raws)) found.namespace n found.rows.items raws told.0 i in
    (same.0, ap raw_rows same.1)
back n raws (Err (Refused (BadImage at))) i ok told = absurd (never_both (image_one n (raw_rows raws)) n raws at i told)
back n raws (Err (Refused (NotRising at))) i ok told = absurd (in_order n raws (NotRising at) i ok told)
back n raws (Err (Refused (Pruned at by))) i ok told = absurd (in_order n raws (Pruned at by) i ok told)
back n raws (Err NoMemory) i ok told = refl

pub image_here : (n : List ℕ) (raws : List RawValue) → IsKey n → AllByRecursion FitsFrame raws → length (raw_rows raws) < 2 ^ 32 → IsImageOne (image_one n (raw_rows raws)) n raws
image_here n raws key fit few = record { key = key; fit = fit; count = omega (arith, few, length-map raws row_of); spelled = refl }

pub reads_back : ReadsBackOne
reads_back n m rows result key one readable short few is_live told =
    let r = raws_of rows readable short in
    let P : List RowValue → Type 0 = λ l. AreOf m l → length l < 2 ^ 32 → live l ≡ l → ReadsImageOne (image_one n l) result → IsBack n l result in
    let here : P (raw_rows r.raws) = λ o f v t. back n r.raws result (image_here n r.raws key r.fit f) ((order_of_live m (raw_rows r.raws) o).1 v) t in
    subst P r.same here one few is_live told
