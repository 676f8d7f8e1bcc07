-- What a map's names hold after an insert.
use Rattle.std.proofs.Common.{◌≡◌, ℕ, Bool, true, false, List, cond, Some, refl, ap, ◌∙◌}
use Rattle.std.proofs.Math.Path.{fun_ext}
use Rattle.std.specs.declared.option.Option.{Option}
use Rattle.std.specs.declared.string.String.{String}
use Rattle.std.specs.declared.vec.Vec.{Vec}
use Rattle.std.specs.declared.alloc.Global.{Global}
use Rattle.std.specs.Option.{option_map}
use Rattle.std.specs.Str.{bytes_eq}
use Rattle.std.specs.String.{string_bytes, string_cmp}
use Rattle.std.specs.Ordering.{nat_cmp}
use Rattle.std.specs.Cmp.Lexicographic.{slice_cmp}
use Rattle.std.specs.BTreeMap as tree
use Rattle.std.specs.BTreeMap.{BTreeMap, get_by_text}
use Rattle.std.proofs.lemmas.Map.Text.{btree_map_updates_text}
use Rattle.willow_outside.specs.Names.{names_in, name_put}

mapped-choice : {X Y : Type 0} (f : X → Y) (b : Bool) (v : X) (w : Option X) → option_map f (cond b (Some v) w) ≡ cond b (Some (f v)) (option_map f w)
mapped-choice f true v w = refl
mapped-choice f false v w = refl

pub names-inserted : (m n : BTreeMap (String Global) (Vec ℕ Global)) (key : String Global) (name bytes : List ℕ) (v : Vec ℕ Global) → string_bytes key ≡ name → v.items ≡ bytes → tree.UpdatesBy string_cmp (λ k. slice_cmp nat_cmp (string_bytes key) (string_bytes k)) m n (Some v) → names_in n ≡ name_put name bytes (names_in m)
names-inserted m n key name bytes v same copied updates =
    fun_ext (λ (q : List ℕ). ap (option_map (λ (x : Vec ℕ Global). x.items)) (btree_map_updates_text (string_bytes key) m n (Some v) updates q) ∙ mapped-choice (λ (x : Vec ℕ Global). x.items) (bytes_eq (string_bytes key) q) v (get_by_text m q) ∙ ap (λ (xs : List ℕ). cond (bytes_eq xs q) (Some v.items) (names_in m q)) same ∙ ap (λ (xs : List ℕ). cond (bytes_eq name q) (Some xs) (names_in m q)) copied)
