-- Rules by which a signature may have any bytes behind an open one.
use Rattle.std.specs.Prelude.{ℕ, List, take, length, min}
use Rattle.scheme_core.specs.Rules.{Rules}
use Rattle.scheme_core.specs.Open.{open_accepts, open_rules}

-- the bytes of a signature that count: the first 32
abbrev pub front_of : List ℕ → List ℕ
front_of signature = take (min (length signature) 32) signature

-- the open rules of the first 32 bytes of a signature
abbrev pub padded_rules : Rules
padded_rules = record open_rules {
  user = λ key message signature. open_accepts key message (front_of signature);
  owner = λ key message signature. open_accepts key message (front_of signature);
}
