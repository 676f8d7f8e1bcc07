-- Lists of shared rows, seen as lists of rows.
use Rattle.std.proofs.Common.{◌≡◌, ◌++◌, List, [], ◌∷◌, map, flat_map, refl, sym, ap, ap₂, ◌∙◌}
use Rattle.std.proofs.lemmas.List.{map-append}
use Rattle.std.proofs.lemmas.Simd.{map-map}
use Rattle.std.specs.List.{AllZip}

-- what is seen through two views in turn
pub seen : {X Y Z : Type 0} (f : Y → Z) (g : X → Y) (xs : List X) (ys : List Y) → map g xs ≡ ys → map f ys ≡ map (λ x. f (g x)) xs
seen f g xs ys e = ap (map f) (sym e) ∙ map-map f g xs

-- pieces are seen piece by piece
pub seen_pieces : {Y A B C : Type 0} (items : Y → List A) (g : A → B) (f : B → C) (ys : List Y) → map f (flat_map (λ y. map g (items y)) ys) ≡ flat_map (λ y. map (λ a. f (g a)) (items y)) ys
seen_pieces items g f [] = refl
seen_pieces items g f (y ∷ ys) =
    map-append f (map g (items y)) (flat_map (λ z. map g (items z)) ys)
    ∙ ap₂ (λ l m. l ++ m) (map-map f g (items y)) (seen_pieces items g f ys)

-- copies that look alike are seen alike
pub map-copies : {X Y : Type 0} (R : X → X → Type 0) (g : X → Y) → ((x y : X) → R x y → g y ≡ g x) → (xs ys : List X) → AllZip R xs ys → map g ys ≡ map g xs
map-copies R g says [] [] z = refl
map-copies R g says [] (y ∷ ys) z = absurd z
map-copies R g says (x ∷ xs) [] z = absurd z
map-copies {Y = Y} R g says (x ∷ xs) (y ∷ ys) z = ap₂ (λ (a : Y) (b : List Y). a ∷ b) (says x y z.0) (map-copies R g says xs ys z.1)
