-- Stores whose rows are authorised.
use Rattle.std.proofs.Common.{◌≡◌, ℕ, ◌≤◌, List, All, length, get_or, refl, ap, sym, ◌∙◌, subst, arith}
use Rattle.scheme_core.specs.Rules.{Rules}
use Rattle.willow_entry.specs.Frame.{HasFrame}
use Rattle.willow_entry.specs.Row.{RowValue, AreLive}
use Rattle.willow_entry.specs.RowBody.{row_body}
use Rattle.cap_codec.specs.Rows.{RawValue, IsRaw, IsRawRow, FitsFrame, row_of}
use Rattle.auth_entry.proofs.Lengths.{fits_frame}
use Rattle.auth_entry.proofs.Meaning.{authorised_means}
use Rattle.ns_state.specs.declared.live_log.TheConstants.{LOG_LIMIT}
use Rattle.sync_link.specs.Settling.{IsOpening}
use Rattle.sync_link.specs.Ran.{IsAuthorisedRow}

raw_row : (r : RawValue) → IsRaw r → IsRawRow (row_of r)
raw_row r fits = record { entry_fits = fits.entry_fits; read_out = r.token; token_fits = fits.token_fits; spelled = refl }

in_frame : (r : RawValue) → FitsFrame r → HasFrame (row_of r)
unfolding row_body
in_frame r fits = fits.short

module _ (rules : Rules) (namespace : List ℕ) (row : RowValue) (a : IsAuthorisedRow rules namespace row) where
  read_out : IsRawRow row
  read_out = subst IsRawRow a.read_out (raw_row a.raw a.fits)

  framed : HasFrame row
  framed = subst HasFrame a.read_out (in_frame a.raw (fits_frame rules namespace a.raw a.fits ((authorised_means rules namespace a.raw).1 a.authorised)))

  of_namespace : row.entry.namespace ≡ namespace
  of_namespace = sym (ap (λ (r : RowValue). r.entry.namespace) a.read_out) ∙ a.authorised.of_namespace.0

pub authorised_opens : (rules : Rules) (namespace : List ℕ) (rows : List RowValue) → AreLive rows → length rows ≤ LOG_LIMIT → All (IsAuthorisedRow rules namespace) rows → IsOpening namespace rows
authorised_opens rules namespace rows live few all = record {
  live = live;
  own = λ k d within. of_namespace rules namespace (get_or rows k d) (all k d within);
  few = omega arith;
  read_out = λ k d within. read_out rules namespace (get_or rows k d) (all k d within);
  framed = λ k d within. framed rules namespace (get_or rows k d) (all k d within);
}
