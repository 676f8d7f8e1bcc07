-- How a session begins.
use Rattle.std.proofs.Common.{◌≡◌, zero, suc, slice_get, append_assoc, ℕ, ◌+◌, ◌≤◌, List, [], ◌∷◌, map, filter, length, take, get_or, Contains, Some, refl, sym, ap, ◌∙◌, subst, arith}
use Rattle.std.specs.List.{AllByRecursion}
use Rattle.std.specs.declared.cmp.Ordering.{Ordering}
use Rattle.std.specs.declared.cmp.Ordering.TheVariants.{Less, Equal, Greater}
use Rattle.std.specs.Ordering.{match_ordering}
use Rattle.std.proofs.lemmas.List.{take_all, length-map}
use Rattle.std.proofs.lemmas.List.Elements.{All-contains, All-contains_itself, All-from_recursion, recursion_from_All}
use Rattle.std.proofs.lemmas.List.Sums.{length-filter, count_by-le-length}
use Rattle.willow_entry.specs.Pruning.{pruned, placed, rising, is_undominated}
use Rattle.willow_entry.specs.Frame.{HasFrame}
use Rattle.willow_entry.specs.Row.{RowValue, is_dominating, place_cmp, live}
use Rattle.willow_entry.specs.declared.row.LogRow.{LogRow}
use Rattle.willow_entry.proofs.Live.{live-live}
use Rattle.willow_entry.proofs.Members.{contains_from_member, member_from_contains}
use Rattle.willow_entry.proofs.Pruning.{pruned_member}
use Rattle.willow_entry.proofs.RowLaws.{rows_prune}
use Rattle.willow_entry.specs.EntryForm.{entry_spelling}
use Rattle.willow_entry.specs.RowBody.{row_body}
use Rattle.mc_cap.specs.Forms.{capability_spelling}
use Rattle.mc_cap.specs.Signature.{signature_spelling}
use Rattle.cap_codec.specs.Rows.{IsRawRow, FitsFrame}
use Rattle.auth_entry.specs.Authorised.{AuthorisedValue}
use Rattle.ns_cell.specs.Passes.{PassValue, IsPass}
use Rattle.auth_entry.specs.Rows.{entry_row}
use Rattle.sync_link.specs.Kept.{log_rows}
use Rattle.sync_link.specs.Settling.{IsOpening}
use Rattle.sync_link.specs.Sound.{AreSound}
use Rattle.sync_link.specs.UnderWay.{AreTold}
use Rattle.sync_link.proofs.Settled.{rises}

-- ---- what is live is no longer than the log

placed_short : {X : Type 0} (cmp : X → X → Ordering) (x : X) (ys : List X) → length (placed cmp x ys) ≤ length ys + 1
placed_short cmp x [] = omega arith
placed_short cmp x (y ∷ ys) =
    let more = placed_short cmp x ys in
    let P : Ordering → Type 0 = λ o. length (match_ordering o (x ∷ y ∷ ys) (y ∷ ys) (y ∷ placed cmp x ys)) ≤ length (y ∷ ys) + 1 in
    let each : (o : Ordering) → P o = elim [ Less ↦ omega arith | Equal ↦ omega arith | Greater ↦ omega arith ] in
    each (cmp x y)

rising_short : {X : Type 0} (cmp : X → X → Ordering) (xs : List X) → length (rising cmp xs) ≤ length xs
rising_short cmp [] = omega arith
rising_short cmp (x ∷ xs) = omega (arith, rising_short cmp xs, placed_short cmp x (rising cmp xs))

live_short : (rows : List RowValue) → length (live rows) ≤ length rows
unfolding pruned
live_short rows =
    let kept = is_undominated is_dominating rows in
    omega (arith, rising_short place_cmp (filter kept rows), length-filter kept rows, count_by-le-length kept rows)

live_of : (rows : List RowValue) (row : RowValue) → Contains (live rows) row → Contains rows row
live_of rows row c = contains_from_member rows row (pruned_member is_dominating place_cmp rows_prune rows row (member_from_contains (live rows) row c)).0

pub opening_of : (namespace : List ℕ) (pass : PassValue AuthorisedValue) (rows : List RowValue) → rows ≡ live (log_rows pass.seen) → IsPass entry_row pass → pass.cell.namespace ≡ namespace → AreTold rows → IsOpening namespace rows
opening_of namespace pass rows e is_pass same told = record {
  live = ap live e ∙ live-live (log_rows pass.seen) ∙ sym e;
  own = λ k d within.
      let at = get_or rows k d in
      let there : Contains (log_rows pass.seen) at = live_of (log_rows pass.seen) at (subst (λ l. Contains l at) e (All-contains_itself rows k d within)) in
      All-contains (λ (r : RowValue). r.entry.namespace ≡ pass.cell.namespace) (log_rows pass.seen) at is_pass.log.one_namespace there ∙ same;
  few = omega (arith, ap length e, live_short (log_rows pass.seen), length-map pass.seen (λ (l : LogRow AuthorisedValue). entry_row l.row), is_pass.log.few);
  read_out = told.read_out;
  framed = told.framed;
}

pub sound_of : (namespace : List ℕ) (rows : List RowValue) → IsOpening namespace rows → AreSound rows
sound_of namespace rows o = record { one = (namespace, o.own); rise = rises namespace rows o; few = o.few; framed = recursion_from_All HasFrame rows o.framed }

-- ---- rows that can be told

abbrev pub CanTell : AuthorisedValue → Type 0
CanTell entry = IsRawRow (entry_row entry) × HasFrame (entry_row entry)

pub can_tell : (entry : AuthorisedValue) → FitsFrame entry.row → CanTell entry
unfolding row_body
can_tell entry fits = (
  record { entry_fits = fits.raw.entry_fits; read_out = entry.row.token; token_fits = fits.raw.token_fits; spelled = refl },
  omega (arith, fits.short, ap length (append_assoc (entry_spelling entry.row.entry) (capability_spelling entry.row.token.capability) (signature_spelling entry.row.token.signature))),
)

pub told_more : (entries : List AuthorisedValue) (at : ℕ) (entry : AuthorisedValue) → slice_get entries at ≡ Some entry → CanTell entry → AllByRecursion CanTell (take at entries) → AllByRecursion CanTell (take (suc at) entries)
told_more [] at entry e can all = cc
told_more (x ∷ entries) zero entry e can all = (let same : x ≡ entry = cc in subst CanTell (sym same) can, tt)
told_more (x ∷ entries) (suc at) entry e can all = (all.0, told_more entries at entry e can all.1)

told_read : (entries : List AuthorisedValue) → AllByRecursion CanTell entries → AllByRecursion IsRawRow (map entry_row entries)
told_read [] all = tt
told_read (x ∷ entries) all = (all.0.0, told_read entries all.1)

told_framed : (entries : List AuthorisedValue) → AllByRecursion CanTell entries → AllByRecursion HasFrame (map entry_row entries)
told_framed [] all = tt
told_framed (x ∷ entries) all = (all.0.1, told_framed entries all.1)

pub told_all : (entries : List AuthorisedValue) (at : ℕ) → length entries ≤ at → AllByRecursion CanTell (take at entries) → AreTold (map entry_row entries)
told_all entries at whole all =
    let every = subst (AllByRecursion CanTell) (take_all at entries whole) all in
    record { read_out = All-from_recursion IsRawRow (map entry_row entries) (told_read entries every); framed = All-from_recursion HasFrame (map entry_row entries) (told_framed entries every) }
