-- The bits of a word: one that is 0 has none, one that is set is there and the others stay, a mask keeps those that it has, and the mask of the types with z
-- has just these. Assumes nothing.
use mathlib.Core.Path.{◌≡◌, refl, sym, subst, ap, ◌∙◌}
use mathlib.Core.Bool.{Bool, true, false, not, ◌&&◌, ◌||◌}
use Prim.Native.Nat.{ℕ, zero, suc, ◌*◌, ◌/◌, ◌%◌, ◌^◌, ◌≤◌, ◌<◌, min}
use native.Mathlib.Nat.{zero-min, min-le_left, min-eq_right, pow-suc, mul_comm, zero-div, div_self, div-lt_iff_lt-mul, lt_of_le_of_lt}
use native.Mathlib.Omega.{arith}
use lib.Dec.{eqb}
use lib.Pow.{pow_pos}
use lib.Bits.{bit_and, and_step, and_shr, and_comm, and_le_l}
use borrow.Author.Tests.{eqb-true, eqb-false, eq-eqb, ne_eqb}
use Rattle.sedona_geometry.specs.Types.{from_bits, has}
use Rattle.sedona_geometry.specs.declared.types.GeometryTypeAndDimensionsSet.{GeometryTypeAndDimensionsSet}
use Rattle.sedona_geometry.proofs.Bits.{merge_has}
use Rattle.sedona_geometry.proofs.Booleans.{holds, is_true, or_right}
use Rattle.sedona_geometry.specs.Bits.{has_bit, with_bit}
use Rattle.sedona_expr.specs.SpatialFilter.{is_z, any_below, has_z_type}

-- ---- some number below n
pub any_of : (p : ℕ → Bool) (n k : ℕ) → k < n → p k ≡ true → any_below p n ≡ true
any_of p zero k h e = absurd (omega arith)
any_of p (suc n) k h e = go (eqb k n) refl (any_of p n k)
  where
    go : (b : Bool) → eqb k n ≡ b → (k < n → p k ≡ true → any_below p n ≡ true) → (any_below p n || p n) ≡ true
    go true q f = is_true (any_below p n || p n) (or_right (any_below p n) (p n) (holds (rw (eqb-true k n q) at e)))
    go false q f =
        let d : (k ≡ n → ⊥) = eqb-false k n q in
        rw (f (omega arith) e)

any_same : (p q : ℕ → Bool) (n : ℕ) → ((k : ℕ) → p k ≡ q k) → any_below p n ≡ any_below q n
any_same p q zero h = refl
any_same p q (suc n) h = rw (any_same p q n h, h n)

-- ---- a word that is not 0 has a bit
or_false : (b : Bool) → (b || false) ≡ b
or_false true = refl
or_false false = refl

any_bit : (m w : ℕ) → m < 2 ^ w → any_below (has (from_bits m)) w ≡ not (eqb m 0)
any_bit m zero h = rw (eq-eqb m 0 (omega arith))
any_bit m (suc w) h = go (has (from_bits m) w) refl (any_bit m w)
  where
    high : m / 2 ^ w < 2
    high = (div-lt_iff_lt-mul (pow_pos w)).1 (subst (λ (n : ℕ). m < n) (pow-suc 2 w ∙ mul_comm (2 ^ w) 2) h)

    go : (b : Bool) → has (from_bits m) w ≡ b → (m < 2 ^ w → any_below (has (from_bits m)) w ≡ not (eqb m 0)) → (any_below (has (from_bits m)) w || b) ≡ not (eqb m 0)
    go true e f =
        is_true (any_below (has (from_bits m)) w || true) (or_right (any_below (has (from_bits m)) w) true tt)
        ∙ rw (ne_eqb m 0 (λ z. absurd (omega (arith, eqb-true (m / 2 ^ w % 2) 1 e, ap (λ (n : ℕ). n / 2 ^ w) z, zero-div (2 ^ w)))))
    go false e f =
        let d : (m / 2 ^ w % 2 ≡ 1 → ⊥) = eqb-false (m / 2 ^ w % 2) 1 e in
        let l : m < 1 * 2 ^ w = (div-lt_iff_lt-mul (pow_pos w)).0 (omega (arith, high)) in
        or_false (any_below (has (from_bits m)) w) ∙ f (omega arith)

-- ---- a bit that is set
pub bit_stays : (w b c : ℕ) → has_bit w c ≡ true → has_bit (with_bit w b) c ≡ true
bit_stays w b c h = merge_has (from_bits w) (from_bits (2 ^ b)) c ∙ rw h

pub bit_is_set : (w b : ℕ) → has_bit (with_bit w b) b ≡ true
bit_is_set w b =
    merge_has (from_bits w) (from_bits (2 ^ b)) b
    ∙ is_true (has_bit w b || has_bit (2 ^ b) b) (or_right (has_bit w b) (has_bit (2 ^ b) b) (holds (ap (λ (n : ℕ). eqb (n % 2) 1) (div_self (pow_pos b)))))

-- ---- a mask keeps the bits that it has
both : (x y : ℕ) → x < 2 → y < 2 → eqb (min x y) 1 ≡ (eqb x 1 && eqb y 1)
both zero y h k = rw (zero-min y)
both (suc zero) y h k = rw (min-eq_right {n = y} {m = 1} (omega arith))
both (suc (suc x)) y h k = absurd (omega arith)

and_bit : (p q : ℕ) → bit_and p q % 2 ≡ min (p % 2) (q % 2)
and_bit p q =
    let m : min (p % 2) (q % 2) ≤ p % 2 = min-le_left (p % 2) (q % 2) in
    omega (arith, and_step p q)

mask_has : (m n k : ℕ) → has (from_bits (bit_and m n)) k ≡ (has (from_bits m) k && has (from_bits n) k)
mask_has m n k =
    ap (λ (x : ℕ). eqb (x % 2) 1) (and_shr m n k)
    ∙ ap (λ (x : ℕ). eqb x 1) (and_bit (m / 2 ^ k) (n / 2 ^ k))
    ∙ both (m / 2 ^ k % 2) (n / 2 ^ k % 2) (omega arith) (omega arith)

-- The types with z are those of the mask: 8 to 15, and 24 to 31.
pub z_mask : (s : GeometryTypeAndDimensionsSet) → has_z_type s ≡ not (eqb (bit_and s.types 0xff00_ff00) 0)
unfolding has_z_type is_z
z_mask s =
    let m : ℕ = bit_and 0xff00_ff00 s.types in
    any_same (λ k. has (from_bits 0xff00_ff00) k && has s k) (has (from_bits m)) 32 (λ k. sym (mask_has 0xff00_ff00 s.types k))
    ∙ any_bit m 32 (lt_of_le_of_lt (and_le_l 0xff00_ff00 s.types) (omega arith))
    ∙ rw (and_comm 0xff00_ff00 s.types)
