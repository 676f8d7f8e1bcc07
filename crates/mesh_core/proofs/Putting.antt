-- Rows of nodes that are put into stores of their own.
use Rattle.std.proofs.Common.{◌≡◌, ℕ, ◌+◌, ◌≤◌, List, [], ◌∷◌, Some, map, take, length, get_or, sym, ap, ◌∙◌, arith, take_all}
use Rattle.std.specs.Prelude.{slice_get}
use Rattle.std.proofs.lemmas.List.{map-append, length-map}
use Rattle.std.proofs.Math.ListN.{get_or-map}
use Rattle.sync_msg.proofs.Writing.{take_one_more}
use Rattle.willow_entry.specs.Row.{AreLive, join, live}
use Rattle.willow_entry.proofs.Live.{live_early_left}
use Rattle.cap_codec.specs.Rows.{RawValue, row_of}
use Rattle.mesh_core.specs.Held.{nodes_of}

-- the first rows of a store, put into another
pub record ArePut (rows : List RawValue) (k : ℕ) (store : List RawValue) : Type 0 where
  pub put : map row_of store ≡ live (map row_of (take k rows))
  pub few : length store ≤ k

pub one_more_put : (rows : List RawValue) (k : ℕ) (row : RawValue) (old new : List RawValue) → ArePut rows k old → slice_get rows k ≡ Some row
    → map row_of new ≡ join (map row_of old) (row_of row ∷ []) → length new ≤ length old + 1 → ArePut rows (k + 1) new
one_more_put rows k row old new are at taken more = record {
  put =
      taken
      ∙ ap (λ l. join l (row_of row ∷ [])) are.put
      ∙ live_early_left (map row_of (take k rows)) (row_of row ∷ [])
      ∙ ap live (sym (map-append row_of (take k rows) (row ∷ [])) ∙ ap (map row_of) (sym (take_one_more rows k row at)));
  few = omega (arith, are.few, more);
}

pub all_put : (rows : List RawValue) (k : ℕ) (store : List RawValue) → ArePut rows k store → length rows ≤ k → AreLive (map row_of rows) → map row_of store ≡ map row_of rows
all_put rows k store are all is = are.put ∙ ap (λ l. live (map row_of l)) (take_all k rows all) ∙ is

-- lists with the same rows are the same nodes
pub same_nodes : (stores others : List (List RawValue)) → map (map row_of) stores ≡ map (map row_of) others → nodes_of stores ≡ nodes_of others
same_nodes stores others is = λ i k. at k i where
  at : (k : ℕ) → nodes_of stores k ≡ nodes_of others k
  at k = sym (get_or-map (map row_of) stores k []) ∙ ap (λ l. get_or l k []) is ∙ get_or-map (map row_of) others k []

pub as_many : (stores others : List (List RawValue)) → map (map row_of) stores ≡ map (map row_of) others → length stores ≡ length others
as_many stores others is = sym (length-map stores (map row_of)) ∙ ap length is ∙ length-map others (map row_of)
