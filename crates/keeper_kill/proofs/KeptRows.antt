-- Rows of the generator may be kept in a log.
use Rattle.std.proofs.Common.{refl}
use Rattle.willow_entry.specs.Frame.{HasFrame}
use Rattle.cap_codec.specs.Rows.{RawValue, IsRaw, IsRawRow, row_of}
use Rattle.row_stream.specs.Streams.{IsStreamRow}

-- a row within its limits whose body fits a frame
pub framed_row : (r : RawValue) → IsRaw r → HasFrame (row_of r) → IsStreamRow IsRawRow (row_of r)
framed_row r is fits = record {
  fits = record { entry_fits = is.entry_fits; read_out = r.token; token_fits = is.token_fits; spelled = refl };
  framed = fits;
}
