-- What comes of the chunks of a list, side by side, is what comes of the list.
use Rattle.std.proofs.Common.{◌≡◌, ◌++◌, ℕ, ◌<◌, List, [], ◌∷◌, flat_map, sym, ap, ◌∙◌}
use Rattle.std.specs.List.{AllZip}
use Rattle.std.specs.Global.{Vec}
use Rattle.rayon.specs.Lists.{chunks_of}
use Rattle.rayon.proofs.ToStd.{chunks_of-concat}

module _ {X Y : Type 0} (f : List X → List Y) where
  joined : (chunks : List (List X)) (made : List (Vec Y)) → f [] ≡ [] → ((xs ys : List X) → f (xs ++ ys) ≡ f xs ++ f ys)
      → AllZip (λ chunk v. v.items ≡ f chunk) chunks made → flat_map (λ v. v.items) made ≡ f (flat_map (λ chunk. chunk) chunks)
  joined [] [] none both all = sym none
  joined [] (v ∷ made) none both all = absurd all
  joined (chunk ∷ chunks) [] none both all = absurd all
  joined (chunk ∷ chunks) (v ∷ made) none both all =
      ap (λ l. l ++ flat_map (λ v. v.items) made) all.0 ∙ ap (λ l. f chunk ++ l) (joined chunks made none both all.1)
      ∙ sym (both chunk (flat_map (λ chunk. chunk) chunks))

  pub chunks_joined : (size : ℕ) (xs : List X) (made : List (Vec Y)) → 0 < size → f [] ≡ [] → ((xs ys : List X) → f (xs ++ ys) ≡ f xs ++ f ys)
      → AllZip (λ chunk v. v.items ≡ f chunk) (chunks_of size xs) made → flat_map (λ v. v.items) made ≡ f xs
  chunks_joined size xs made some none both all = joined (chunks_of size xs) made none both all ∙ ap f (chunks_of-concat size xs some)
