-- A root that is computed step by step, and what it tells of a signature.
use Rattle.std.proofs.Common.{◌≡◌, ℕ, ◌+◌, Bool, false, List, drop, Some, None, bytes_eq, refl, ◌∙◌}
use Rattle.lms_core.specs.declared.height.Height.{Height}
use Rattle.lms_core.specs.Bytes.{field, u32_at}
use Rattle.lms_core.specs.OneTime.{key_told}
use Rattle.lms_core.specs.Tree.{leaf_value, climb}
use Rattle.lms_core.specs.Accepts.{levels, leaves, sound_height, root_of, lms_accepts}

-- the root by its steps
pub root_by_steps : (height : Height) (id message signature : List ℕ) (q leaf_count level_count : ℕ) (c key leaf path root : List ℕ)
    → q ≡ u32_at 0 signature → c ≡ field 8 32 signature → leaf_count ≡ leaves height → level_count ≡ levels height
    → key ≡ key_told id q c (field 40 1088 signature) message → leaf ≡ leaf_value id (leaf_count + q) key
    → path ≡ drop 1132 signature → root ≡ climb id (leaf_count + q) leaf level_count path
    → root ≡ root_of height id message signature
unfolding root_of
root_by_steps height id message signature q leaf_count level_count c key leaf path root hq hc hn hl hk hv hp hr =
    hr ∙ rw (hv, hk, hp, hc, hn, hl, hq) refl

-- a sound signature is accepted where the roots are equal
pub accepts_by_root : (public message signature : List ℕ) (height : Height) (b : Bool) → sound_height public signature ≡ Some height → b ≡ bytes_eq (root_of height (field 8 16 public) message signature) (field 24 32 public) → b ≡ lms_accepts public message signature
unfolding lms_accepts
accepts_by_root public message signature height b h e = rw (h, lms_accepts) e

-- any other is not
pub refuses_unsound : (public message signature : List ℕ) → sound_height public signature ≡ None → false ≡ lms_accepts public message signature
unfolding lms_accepts
refuses_unsound public message signature h = rw (h, lms_accepts) refl
