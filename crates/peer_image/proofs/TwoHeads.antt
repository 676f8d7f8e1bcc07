-- The reader of the head of an image of version 2 goes with its spelling.
use Rattle.std.proofs.Common.{◌≡◌, ℕ, ◌<◌, ◌^◌, List, ◌++◌, refl, sym, ap, ◌∙◌, arith}
use Rattle.std.specs.Int.{w32, to_be_bytes}
use Rattle.spelling.specs.Front.{Front, Whole, ◌>>=◌}
use Rattle.spelling.specs.Reading.{Fails, number_at}
use Rattle.spelling.specs.declared.input.Unread.{Unread}
use Rattle.spelling.specs.declared.input.Unread.TheVariants as unread
use Rattle.spelling.proofs.Joining.{Reads, Reads-then, Reads-last, Reads-is, any_follows, whole_not_part, whole_not_wrong}
use Rattle.spelling.proofs.Exact.{exactly-reads}
use Rattle.spelling.proofs.Fields.{u32-reads}
use Rattle.willow_path.specs.Key.{IsKey, key_at}
use Rattle.willow_path.proofs.PathReads.{key-reads}
use Rattle.cap_codec.proofs.CapReads.{zero_key, zero_key_fits}
use Rattle.peer_image.specs.declared.known.ImageHead.{ImageHead}
use Rattle.peer_image.specs.Image.{magic_two}
use Rattle.peer_image.specs.ImageTwoReading.{head_two_at, head_two_spelling, IsImageHead, HasNoHead}

abbrev head : List ℕ → ℕ → ImageHead
head n c = record { namespace = n; count = c }

abbrev counted_at : List ℕ → List ℕ → Front ImageHead
counted_at n bytes = number_at w32 bytes >>= λ c. Whole (head n c.0) c.1

from_key : (n : List ℕ) → Reads (counted_at n) (λ (h : ImageHead). to_be_bytes w32 h.count) (λ h. (h.count < 2 ^ 32) × (h ≡ head n h.count))
from_key n = Reads-last (λ (h : ImageHead). h.count) (head n) u32-reads (λ c. refl)

abbrev keyed_at : List ℕ → Front ImageHead
keyed_at bytes = key_at bytes >>= λ n. counted_at n.0 n.1

from_text : Reads keyed_at (λ (h : ImageHead). h.namespace ++ to_be_bytes w32 h.count) (λ h. IsKey h.namespace × ((h.count < 2 ^ 32) × (h ≡ head h.namespace h.count)))
from_text =
    Reads-then (λ (n : List ℕ × List ℕ). counted_at n.0 n.1) (λ (h : ImageHead). h.namespace) key-reads from_key (λ n h f. ap (λ (x : ImageHead). x.namespace) f.1)
    (any_follows key-reads (λ n f. (head n 0, (omega arith, refl))))

pub head-reads : Reads head_two_at head_two_spelling IsImageHead
unfolding head_two_at
head-reads =
    let joined = Reads-then (λ (t : Unit {0} × List ℕ). keyed_at t.1) (λ (h : ImageHead). tt) (exactly-reads magic_two) (λ t. from_text) (λ t h f. refl)
    (any_follows (exactly-reads magic_two) (λ t f. (head zero_key 0, (zero_key_fits, (omega arith, refl))))) in
    Reads-is joined (λ h. refl) (λ h f. record { key = f.1.0; count_fits = f.1.1.0 }) (λ h f. (tt, (f.key, (f.count_fits, refl))))

-- where none was read, none is there
pub no_head : (u : Unread) (bytes input : List ℕ) → input ≡ bytes → (u ≡ unread.NoMemory → ⊥) → Fails u (head_two_at input) → HasNoHead bytes
no_head unread.NoMemory bytes input is sure e h left f parts = sure refl
no_head unread.Part bytes input is sure e h left f parts =
    whole_not_part h left (head_two_at bytes) (ap head_two_at parts ∙ head-reads.again h left f) (ap head_two_at (sym is) ∙ e)
no_head unread.Wrong bytes input is sure e h left f parts =
    whole_not_wrong h left (head_two_at bytes) (ap head_two_at parts ∙ head-reads.again h left f) (ap head_two_at (sym is) ∙ e)
