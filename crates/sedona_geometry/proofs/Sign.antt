-- The absolute value, by how a float compares with zero. Assumes nothing.
use mathlib.Core.Path.{◌≡◌, refl}
use mathlib.Core.Logic.{inl, inr}
use mathlib.Core.Bool.{true, false}
use Prim.Native.Nat.{ℕ, zero, suc, ◌*◌, ◌^◌, ◌<◌}
use native.Mathlib.Nat.{eq-zero-or-pos, mul-pos, pow-suc}
use native.Mathlib.Omega.{arith}
use lib.IntN.{ℤ, pos, negsuc}
use lib.Dec.{T, eqb→eq}
use lib.Pow.{pow_pos}
use lib.Ieee.{Float, nan, inf, fin, Format, up, neg, lt, eq, fits}
use lib.Ieee.Fits.{up_pos}
use Rattle.sedona_geometry.specs.Float as float
use Rattle.sedona_geometry.specs.Float.{abs}
use Rattle.sedona_geometry.proofs.Order.{lt_fin, eq_fin}

pub abs_negative : (x : Float) → T (lt x float.zero) → neg x ≡ abs x
unfolding abs neg lt
abs_negative nan h = refl
abs_negative (inf true) h = refl
abs_negative (inf false) h = absurd h
abs_negative (fin true m e) h = refl
abs_negative (fin false m e) h = absurd (omega (arith, (lt_fin false m e false 0 (pos 0)).0 h))

no_power : (k : ℕ) → 2 ^ suc k ≡ 1 → ⊥
no_power k h = omega (arith, pow-suc 2 k, pow_pos k)

above_zero : (m : ℕ) (e : ℤ) → 0 < suc m * up e
above_zero m e = mul-pos (omega arith) (up_pos e)

pub abs_zero : (f : Format) (x : Float) → T (fits f x) → T (eq x float.zero) → float.zero ≡ abs x
unfolding abs fits eq
abs_zero f nan F h = absurd h
abs_zero f (inf s) F h = absurd h
abs_zero f (fin s zero (pos zero)) F h = refl
abs_zero f (fin s zero (pos (suc k))) F h = absurd (no_power k (omega (arith, eqb→eq (2 ^ suc k * 1) 1 F)))
abs_zero f (fin s zero (negsuc k)) F h = absurd (no_power k (omega (arith, eqb→eq (1 * 2 ^ suc k) 1 F)))
abs_zero f (fin true (suc m) e) F h = absurd (omega (arith, (eq_fin true (suc m) e false 0 (pos 0)).0 h, above_zero m e))
abs_zero f (fin false (suc m) e) F h = absurd (omega (arith, (eq_fin false (suc m) e false 0 (pos 0)).0 h, above_zero m e))

pub abs_positive : (x : Float) → (T (lt x float.zero) → ⊥) → (T (eq x float.zero) → ⊥) → x ≡ abs x
unfolding abs lt
abs_positive nan h k = refl
abs_positive (inf true) h k = absurd (h tt)
abs_positive (inf false) h k = refl
abs_positive (fin false m e) h k = refl
abs_positive (fin true m e) h k =
    elim (eq-zero-or-pos (m * up e)) [
      | inl z ↦ absurd (k ((eq_fin true m e false 0 (pos 0)).1 (omega arith)))
      | inr p ↦ absurd (h ((lt_fin true m e false 0 (pos 0)).1 (omega arith)))
    ]
