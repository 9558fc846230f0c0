-- Bits: `bit_or` has exactly those of either number, and a merged type set exactly the types of either. Assumes nothing.
use mathlib.Core.Path.{◌≡◌, ap, ◌∙◌}
use mathlib.Core.Bool.{◌||◌}
use Prim.Native.Nat.{ℕ, zero, suc, ◌/◌, ◌%◌, ◌^◌, ◌≤◌, ◌<◌, max}
use native.Mathlib.Nat.{zero-max, max-eq_left, max-le}
use native.Mathlib.Omega.{arith}
use lib.Dec.{eqb}
use lib.Bits.{bit_or, or_step, or_shr}
use Rattle.sedona_geometry.specs.Bits.{has_bit}
use Rattle.sedona_geometry.specs.Types.{merge, has}
use Rattle.sedona_geometry.specs.declared.types.GeometryTypeAndDimensionsSet.{GeometryTypeAndDimensionsSet}

-- of two bits the greater is set where either is
greater_set : (x y : ℕ) → x < 2 → y < 2 → eqb (max x y) 1 ≡ (eqb x 1 || eqb y 1)
greater_set zero y h k = rw (zero-max y)
greater_set (suc zero) y h k = rw (max-eq_left {n = 1} {m = y} (omega arith))
greater_set (suc (suc x)) y h k = absurd (omega arith)

or_bit : (p q : ℕ) → bit_or p q % 2 ≡ max (p % 2) (q % 2)
or_bit p q =
    let m : max (p % 2) (q % 2) ≤ 1 = max-le (omega arith) (omega arith) in
    omega (arith, or_step p q)

-- the bits of `bit_or` are those of either
pub or_has : (m n k : ℕ) → has_bit (bit_or m n) k ≡ (has_bit m k || has_bit n k)
or_has m n k =
    ap (λ (i : ℕ). eqb (i % 2) 1) (or_shr m n k)
    ∙ ap (λ (i : ℕ). eqb i 1) (or_bit (m / 2 ^ k) (n / 2 ^ k))
    ∙ greater_set (m / 2 ^ k % 2) (n / 2 ^ k % 2) (omega arith) (omega arith)

pub merge_has : (s t : GeometryTypeAndDimensionsSet) (k : ℕ) → has (merge s t) k ≡ (has s k || has t k)
merge_has s t k = or_has s.types t.types k
