-- Which signatures a scheme accepts, over the bytes of keys, messages and signatures.
use Rattle.std.specs.Prelude.{ℕ, Bool, List}

-- user: whether a signature of a message is accepted for a user key (key, message, signature);
-- owner: the same for a namespace key; communal: whether a namespace belongs to everybody
pub record Rules : Type 0 where
  pub user : List ℕ → List ℕ → List ℕ → Bool
  pub owner : List ℕ → List ℕ → List ℕ → Bool
  pub communal : List ℕ → Bool
