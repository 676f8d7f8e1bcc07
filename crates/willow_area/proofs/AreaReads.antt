-- The reader of an area goes with its spelling.
use Rattle.std.proofs.Common.{◌≡◌, ℕ, List, [], ◌++◌, Option, None, refl, ap, arith}
use Rattle.spelling.specs.Front.{Whole, ◌>>=◌}
use Rattle.spelling.specs.Form.{IsForm}
use Rattle.spelling.specs.Reader.{IsReader}
use Rattle.spelling.specs.Reading.{option_at}
use Rattle.spelling.proofs.Reader.{reader}
use Rattle.spelling.proofs.Joining.{bind_whole, Reads, Reads-then, Reads-last, Reads-is, any_follows, one_spelling}
use Rattle.spelling.proofs.Repeated.{option-reads}
use Rattle.willow_path.specs.Key.{key_at}
use Rattle.willow_path.specs.Path.{IsPath}
use Rattle.willow_path.specs.PathSpelling.{path_at, path_spelling}
use Rattle.willow_path.proofs.PathReads.{key-reads, path-reads}
use Rattle.willow_area.specs.Times.{Times, IsTimes}
use Rattle.willow_area.specs.TimesSpelling.{times_at, times_spelling}
use Rattle.willow_area.specs.Area.{IsArea}
use Rattle.willow_area.specs.AreaSpelling.{AreaAsks, area_at, area_spelling}
use Rattle.willow_area.specs.declared.area.Area.{Area}
use Rattle.willow_area.proofs.TimesReads.{times-reads}

abbrev made : Option (List ℕ) → List (List ℕ) → Times → Area
made subspace path times = record { subspace = subspace; path = path; times = times }

-- the range of all times, and the path without components
unfoldable from_zero : Times
from_zero = record { start = 0; end = None }

from_zero_fits : IsTimes from_zero
unfolding from_zero
from_zero_fits = record { starts = omega arith; ends = tt }

no_parts : IsPath []
no_parts = record { few = omega arith; parts_fit = tt; short = omega arith }

from_path : (subspace : Option (List ℕ)) (path : List (List ℕ)) → Reads (λ bytes. times_at bytes >>= λ times. Whole (made subspace path times.0) times.1) (λ (area : Area). times_spelling area.times)
    (λ area. IsTimes area.times × (area ≡ made subspace path area.times))
from_path subspace path = Reads-last (λ (area : Area). area.times) (made subspace path) times-reads (λ times. refl)

from_subspace : (subspace : Option (List ℕ)) → Reads (λ bytes. path_at bytes >>= λ path. times_at path.1 >>= λ times. Whole (made subspace path.0 times.0) times.1) (λ (area : Area). path_spelling area.path ++ times_spelling area.times)
    (λ area. IsPath area.path × (IsTimes area.times × (area ≡ made subspace area.path area.times)))
from_subspace subspace = Reads-then (λ (path : List (List ℕ) × List ℕ). times_at path.1 >>= λ times. Whole (made subspace path.0 times.0) times.1) (λ (area : Area). area.path) path-reads (from_path subspace) (λ path area f. ap (λ (a : Area). a.path) f.1)
    (any_follows path-reads (λ path f. (made subspace path from_zero, (from_zero_fits, refl))))

pub area-reads : Reads area_at area_spelling IsArea
unfolding area_at
area-reads =
    let joined = Reads-then (λ (subspace : Option (List ℕ) × List ℕ). path_at subspace.1 >>= λ path. times_at path.1 >>= λ times. Whole (made subspace.0 path.0 times.0) times.1) (λ (area : Area). area.subspace)
    (option-reads key-reads) from_subspace (λ subspace area f. ap (λ (a : Area). a.subspace) f.1.1)
    (any_follows (option-reads key-reads) (λ subspace f. (made subspace [] from_zero, (no_parts, (from_zero_fits, refl))))) in
    Reads-is joined (λ area. refl) (λ area f. record { subspace_fits = f.0; path_fits = f.1.0; times_fit = f.1.1.0 }) (λ area f. (f.subspace_fits, (f.path_fits, (f.times_fit, refl))))

pub area_form : IsForm area_spelling IsArea
area_form = one_spelling area-reads

pub area_reader : IsReader area_at area_spelling IsArea
area_reader = reader area-reads

-- where an area stands in front, memory was asked for
pub whole_asks : (bytes : List ℕ) (area : Area) (rest : List ℕ) → area_at bytes ≡ Whole area rest → AreaAsks bytes
unfolding area_at
whole_asks bytes area rest is =
    let subspace = bind_whole (option_at key_at bytes) (λ s. path_at s.1 >>= λ path. times_at path.1 >>= λ times. Whole (made s.0 path.0 times.0) times.1) area rest is in
    let path = bind_whole (path_at subspace.1) (λ p. times_at p.1 >>= λ times. Whole (made subspace.0 p.0 times.0) times.1) area rest subspace.3 in
    rw (subspace.2, path.2) tt
