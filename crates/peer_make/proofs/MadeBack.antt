-- What a command wrote is read back by another.
use Rattle.std.proofs.Common.{[], ◌∷◌, refl, sym, ◌∙◌}
use Rattle.std.proofs.lemmas.List.{append-nil}
use Rattle.cap_codec.specs.Rows.{frame}
use Rattle.cap_codec.proofs.Frames.{same_rows}
use Rattle.lms_core.proofs.Files.{file_once}
use Rattle.peer_make.specs.ReadBack.{ReadsCapabilityBack, IsNeverUnfit, IsOwnStream, ReadsRowBack, HasOneKey}
use Rattle.peer_make.proofs.Deeds.{no_unfit, same_read}

pub capability_back : ReadsCapabilityBack
capability_back c d i i' fits has read = sym (same_read i i' c d (record { had = _; input = has; spelled = record { fits = fits; spelled = refl } }) read)

pub never_unfit : IsNeverUnfit
never_unfit c i i' at fits has unfit = no_unfit i i' at c (record { had = _; input = has; spelled = record { fits = fits; spelled = refl } }) unfit

pub own_stream : IsOwnStream
own_stream r fits = record { fit = (fits, tt); spelled = sym (append-nil (frame r)) }

pub row_back : ReadsRowBack
row_back r rows fits are = same_rows rows (r ∷ []) are.fit (fits, tt) (sym are.spelled ∙ sym (append-nil (frame r)))

pub one_key : HasOneKey
one_key k l is other same = file_once k l is other same
