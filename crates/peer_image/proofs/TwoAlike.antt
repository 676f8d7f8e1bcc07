-- Images of both versions spell equal values.
use Rattle.std.proofs.Common.{◌≡◌, ℕ, ◌<◌, ◌^◌, List, length, None, Result, Ok, Err, refl, ap, subst, ◌∙◌, arith}
use Rattle.std.specs.List.{AllByRecursion}
use Rattle.std.proofs.lemmas.List.{length-map}
use Rattle.spelling.specs.declared.ending.End.{End}
use Rattle.spelling.specs.declared.ending.End.TheVariants.{Refused, NoMemory}
use Rattle.willow_path.specs.Key.{IsKey}
use Rattle.willow_entry.specs.Row.{RowValue, live}
use Rattle.willow_entry.specs.Frame.{HasFrame}
use Rattle.cap_codec.specs.Rows.{IsRawRow, RawValue, row_of}
use Rattle.peer_image.specs.declared.read.Image.{Image}
use Rattle.peer_image.specs.declared.refusal.ImageRefusal.{ImageRefusal}
use Rattle.peer_image.specs.declared.refusal.ImageRefusal.TheVariants.{BadImage, NotRising, Pruned}
use Rattle.peer_image.specs.ImageReading.{ReadBackAlike, SpellTheSame}
use Rattle.peer_image.specs.ImageOneReading.{IsBack, raw_rows}
use Rattle.peer_image.specs.Image.{image}
use Rattle.peer_image.specs.ImageTwoReading.{IsImageTwo, IsMisorderedTwo, ReadsImageTwo}
use Rattle.peer_image.specs.Order.{AreOf, order_refusal}
use Rattle.peer_image.proofs.InOrder.{order_of_live}
use Rattle.peer_image.proofs.ReadBack.{image_here, raws_of, reads_back, some_not_none}
use Rattle.peer_image.proofs.TwoSame.{image_two_here}
use Rattle.peer_image.proofs.TwoStops.{never_both_two, one_image_two}

pub spell_the_same : SpellTheSame
spell_the_same n rows key fit few = (image_here n rows key fit (omega (arith, few, length-map rows row_of)), image_two_here n rows key fit few)

in_order : (bytes n : List ℕ) (raws : List RawValue) (e : ImageRefusal) → IsImageTwo bytes n raws → order_refusal (raw_rows raws) ≡ None → IsMisorderedTwo bytes e → ⊥
in_order bytes n raws e i ok m =
    let same = one_image_two bytes n m.namespace raws m.rows i m.is_image in
    some_not_none e (order_refusal (raw_rows raws)) (ap (λ (l : List RawValue). order_refusal (raw_rows l)) same.1 ∙ m.refused) ok

back : (bytes n : List ℕ) (raws : List RawValue) (result : Result Image (End ImageRefusal)) → IsImageTwo bytes n raws → order_refusal (raw_rows raws) ≡ None → ReadsImageTwo bytes result → IsBack n (raw_rows raws) result
back bytes n raws (Ok found) i ok told =
    let same = one_image_two bytes found.namespace n found.rows.items raws told.0 i in
    (same.0, ap raw_rows same.1)
back bytes n raws (Err (Refused (BadImage at))) i ok told = absurd (never_both_two bytes n raws at i told)
back bytes n raws (Err (Refused (NotRising at))) i ok told = absurd (in_order bytes n raws (NotRising at) i ok told)
back bytes n raws (Err (Refused (Pruned at by))) i ok told = absurd (in_order bytes n raws (Pruned at by) i ok told)
back bytes n raws (Err NoMemory) i ok told = refl

pub reads_back_two : (n m : List ℕ) (rows : List RowValue) (result : Result Image (End ImageRefusal)) → IsKey n → AreOf m rows → AllByRecursion IsRawRow rows → AllByRecursion HasFrame rows → length rows < 2 ^ 32 → live rows ≡ rows → ReadsImageTwo (image n rows) result
    → IsBack n rows result
reads_back_two n m rows result key of readable short few is_live told =
    let r = raws_of rows readable short in
    let P : List RowValue → Type 0 = λ l. AreOf m l → length l < 2 ^ 32 → live l ≡ l → ReadsImageTwo (image n l) result → IsBack n l result in
    let here : P (raw_rows r.raws) = λ o f v t.
    back (image n (raw_rows r.raws)) n r.raws result (image_two_here n r.raws key r.fit (omega (arith, f, length-map r.raws row_of))) ((order_of_live m (raw_rows r.raws) o).1 v) t in
    subst P r.same here of few is_live told

pub read_back_alike : ReadBackAlike
read_back_alike n m rows one two key of readable short few is_live told_one told_two =
    (reads_back n m rows one key of readable short few is_live told_one, reads_back_two n m rows two key of readable short few is_live told_two)
