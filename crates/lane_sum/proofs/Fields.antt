-- Sums and differences, field by field.
use Rattle.std.proofs.Common.{◌≡◌, ℕ, ◌<◌, ◌^◌, arith}
use Rattle.lane_sum.specs.declared.lanes.Lanes.{Lanes}
use Rattle.lane_sum.specs.Totals.{add64, less64, sum_of, rest_of, AreWords}

-- what is taken away and added again
undone64 : (m n : ℕ) → m < 2 ^ 64 → n < 2 ^ 64 → add64 (less64 m n) n ≡ m
undone64 m n p q = omega (arith, p, q)

-- what is added and taken away again
back64 : (m n : ℕ) → m < 2 ^ 64 → n < 2 ^ 64 → less64 (add64 m n) n ≡ m
back64 m n p q = omega (arith, p, q)

-- two totals with the same fields
pub lanes_alike : (x y : Lanes) → x.count ≡ y.count → x.a ≡ y.a → x.b ≡ y.b → x.c ≡ y.c → x.d ≡ y.d → x ≡ y
lanes_alike x y n a b c d = λ i. record { count = n i; a = a i; b = b i; c = c i; d = d i }

pub rest_then_sum : (x y : Lanes) → AreWords x → AreWords y → sum_of (rest_of x y) y ≡ x
rest_then_sum x y p q = lanes_alike (sum_of (rest_of x y) y) x
    (undone64 x.count y.count p.count q.count) (undone64 x.a y.a p.a q.a) (undone64 x.b y.b p.b q.b) (undone64 x.c y.c p.c q.c) (undone64 x.d y.d p.d q.d)

pub sum_then_rest : (x y : Lanes) → AreWords x → AreWords y → rest_of (sum_of x y) y ≡ x
sum_then_rest x y p q = lanes_alike (rest_of (sum_of x y) y) x
    (back64 x.count y.count p.count q.count) (back64 x.a y.a p.a q.a) (back64 x.b y.b p.b q.b) (back64 x.c y.c p.c q.c) (back64 x.d y.d p.d q.d)
