-- Doubles by their values: two of one value and sign are one, two that are equal as numbers differ at most in a zero's sign, and +0 added to one
-- gives it back, a zero as +0. Assumes nothing.
use mathlib.Core.Path.{◌≡◌, refl, sym, ap, ◌∙◌, subst}
use mathlib.Core.Bool.{Bool, true, false, ◌&&◌, ◌||◌, cond, beq}
use Prim.Native.Nat.{ℕ, zero, suc, ◌+◌, ◌-◌, ◌*◌, ◌/◌, ◌%◌, ◌^◌, ◌≤◌, ◌<◌}
use native.Mathlib.Nat.{zero-mul, mul-one, mul-pos, mul_right_comm, one-mul, mul-lt-mul_of_pos_right, lt_of_mul-lt-mul_right}
use native.Mathlib.Omega.{arith}
use lib.IntN.{ℤ, pos, negsuc}
use lib.Dec.{T, leb, ltb, eqb, ltb→lt, eqb→eq}
use lib.Pow.{pow-add, pow_pos}
use lib.Ieee.{Float, nan, inf, fin, Format, prec, emax, low, up, down, size, hid, top, level, round, neg, sum, add, eq, fits, to_bits, of_bits}
use lib.Ieee.Bits.{of_bits-to_bits}
use lib.Ieee.Exact.{HasValue, round_exact}
use lib.Ieee.Fits.{down_pos, up_pos, and_l, and_r, round-fits}
use lib.Ieee.Nearest.{div_same}
use Rattle.sedona_geometry.specs.Float as float
use Rattle.sedona_geometry.specs.Float.{plus_zero, abs}
use Rattle.sedona_geometry.proofs.PlusZero.{Alike, same, zeros}
use Rattle.sedona_geometry.proofs.Order.{cross, eq_fin}
use Rattle.sedona_geometry.proofs.Sign.{abs_zero}
use Rattle.sedona_geometry.proofs.Alike.{sum_zero}
use Rattle.sedona_geometry.proofs.Rounding.{fits_down, factor_mul, round_zero}

-- ---- one value and one sign, one double
module _ (f : Format) (s : Bool) (m : ℕ) (e : ℤ) (n : ℕ) (d : ℤ) (v : m * up e * down d ≡ n * up d * down e) where
  -- in units of the format's smallest value
  same_units : m * up e * 2 ^ low f / down e ≡ n * up d * 2 ^ low f / down d
  same_units =
      div_same (m * up e * 2 ^ low f) (down e) (n * up d * 2 ^ low f) (down d) (down_pos e) (down_pos d)
      (mul_right_comm (m * up e) (2 ^ low f) (down d) ∙ ap (λ (z : ℕ). z * 2 ^ low f) v ∙ mul_right_comm (n * up d) (down e) (2 ^ low f))

  same_bits : to_bits f (fin s m e) ≡ to_bits f (fin s n d)
  unfolding to_bits
  same_bits = ap (λ (z : ℕ). let k = size z - prec f in cond s (top f) 0 + k * hid f + z / 2 ^ k) same_units

  same_value : T (fits f (fin s m e)) → T (fits f (fin s n d)) → fin s m e ≡ fin s n d
  same_value F G = sym (of_bits-to_bits f (fin s m e) F) ∙ ap (λ (z : ℕ). of_bits f z) same_bits ∙ of_bits-to_bits f (fin s n d) G

-- ---- a double is rounded to itself
-- 2 ^ e in units of the format's smallest value is 2 ^ places
abbrev places : Format → ℤ → ℕ
places f (pos k) = k + low f
places f (negsuc k) = low f - suc k

in_units : (f : Format) (e : ℤ) → down e ≤ 2 ^ low f → up e * 2 ^ low f ≡ 2 ^ places f e * down e
in_units f (pos k) h = sym (pow-add 2 k (low f)) ∙ sym (mul-one (2 ^ (k + low f)))
in_units f (negsuc k) h = one-mul (2 ^ low f) ∙ factor_mul f (negsuc k) h

module _ (f : Format) (s : Bool) (m : ℕ) (e : ℤ) (F : T (fits f (fin s (suc m) e))) where
  digits : suc m < 2 ^ prec f
  unfolding fits
  digits =
      let odd = eqb (suc m % 2) 1 in
      let short = ltb (suc m) (2 ^ prec f) in
      let fine = leb (down e) (2 ^ low f) in
      ltb→lt (suc m) (2 ^ prec f) (and_r odd short (and_l (odd && short) fine (and_l (odd && short && fine) (ltb (suc m * up e) (2 ^ suc (emax f) * down e)) F)))

  small : suc m * up e < 2 ^ suc (emax f) * down e
  unfolding fits
  small =
      ltb→lt (suc m * up e) (2 ^ suc (emax f) * down e)
      (and_r (eqb (suc m % 2) 1 && ltb (suc m) (2 ^ prec f) && leb (down e) (2 ^ low f)) (ltb (suc m * up e) (2 ^ suc (emax f) * down e)) F)

  whole_units : suc m * up e * 2 ^ low f ≡ suc m * 2 ^ places f e * down e
  whole_units = omega (arith, ap (λ (z : ℕ). suc m * z) (in_units f e (fits_down f s (suc m) e F)))

  in_range : suc m * 2 ^ places f e < 2 ^ (low f + suc (emax f))
  in_range =
      lt_of_mul-lt-mul_right (down e)
      (omega (arith, whole_units, mul-lt-mul_of_pos_right small (pow_pos (low f)), ap (λ (z : ℕ). z * down e) (pow-add 2 (low f) (suc (emax f)))))

  rounds_to_itself : round f s (suc m * up e) (down e) ≡ fin s (suc m) e
  rounds_to_itself =
      go (round f s (suc m * up e) (down e)) (round_exact f s (suc m * up e) (down e) (suc m) (places f e) (down_pos e) digits in_range whole_units) (round-fits f s (suc m * up e) (down e))
    where
      go : (r : Float) → HasValue r s (suc m * up e) (down e) → T (fits f r) → r ≡ fin s (suc m) e
      go (fin t n d) h G =
          let k : fin t n d ≡ fin s n d = ap (λ (b : Bool). fin b n d) h.0 in
          k ∙ same_value f s n d (suc m) e h.1 (subst (λ (z : Float). T (fits f z)) k G) F
      go nan h G = elim h [ ]
      go (inf _) h G = elim h [ ]

-- ---- +0 added: so `plus_zero` makes it
plus_zeros : (f : Format) (s : Bool) (c : ℕ) → 0 < c → sum f s 0 false 0 c ≡ float.zero
unfolding sum
plus_zeros f false c C = round_zero f c C false
plus_zeros f true c C = round_zero f c C false

-- a zero is written with the exponent 0
zero_is : (f : Format) (s : Bool) (e : ℤ) → T (fits f (fin s 0 e)) → float.zero ≡ fin false 0 e
unfolding abs
zero_is f s e F = abs_zero f (fin s 0 e) F ((eq_fin s 0 e false 0 (pos 0)).1 (zero_cross s e))
  where
    zero_cross : (s : Bool) (e : ℤ) → cross s 0 e false 0 (pos 0) ≡ cross false 0 (pos 0) s 0 e
    zero_cross false e = omega arith
    zero_cross true e = omega arith

pub plus_zero_added : (f : Format) (x : Float) → T (fits f x) → add f x float.zero ≡ plus_zero x
unfolding add
plus_zero_added f nan F = refl
plus_zero_added f (inf s) F = refl
plus_zero_added f (fin s zero e) F =
    rw (mul-one (0 * up e), zero-mul (up e), zero-mul (down e), mul-one (down e)) (plus_zeros f s (down e) (down_pos e) ∙ zero_is f s e F)
plus_zero_added f (fin s (suc m) e) F =
    rw (mul-one (suc m * up e), zero-mul (down e), mul-one (down e))
    (sum_zero f false s (suc m * up e) (down e) (mul-pos (omega arith) (up_pos e)) ∙ rounds_to_itself f s m e F)

-- ---- equal as numbers
two_zeros : (f : Format) (s t : Bool) (e d : ℤ) → T (fits f (fin s 0 e)) → T (fits f (fin t 0 d)) → Alike (fin s 0 e) (fin t 0 d)
unfolding neg
two_zeros f s t e d F G = subst (λ (z : Float). Alike (fin s 0 e) z) (go t) zeros
  where
    one : fin false 0 e ≡ fin false 0 d
    one = sym (zero_is f s e F) ∙ zero_is f t d G

    go : (t : Bool) → fin t 0 e ≡ fin t 0 d
    go false = one
    go true = ap neg one

not_nothing : (m : ℕ) (e d : ℤ) → suc m * up e * down d ≡ 0 → ⊥
not_nothing m e d h = omega (arith, mul-pos (mul-pos {m = suc m} (omega arith) (up_pos e)) (down_pos d))

no_size : (f : Format) (s t : Bool) (m n : ℕ) (e d : ℤ) → T (fits f (fin s m e)) → T (fits f (fin t n d)) → m * up e * down d ≡ 0 → n * up d * down e ≡ 0 → Alike (fin s m e) (fin t n d)
no_size f s t zero zero e d F G a b = two_zeros f s t e d F G
no_size f s t (suc m) n e d F G a b = absurd (not_nothing m e d a)
no_size f s t zero (suc n) e d F G a b = absurd (not_nothing n d e b)

one_size : (f : Format) (s t : Bool) (m n : ℕ) (e d : ℤ) → T (fits f (fin s m e)) → T (fits f (fin t n d)) → T (level s (m * up e * down d) t (n * up d * down e)) → Alike (fin s m e) (fin t n d)
one_size f s t m n e d F G h = go s t F G (and_r (eqb a b) (beq s t || eqb a 0) h)
  where
    a : ℕ
    a = m * up e * down d

    b : ℕ
    b = n * up d * down e

    v : a ≡ b
    v = eqb→eq a b (and_l (eqb a b) (beq s t || eqb a 0) h)

    go : (s t : Bool) → T (fits f (fin s m e)) → T (fits f (fin t n d)) → T (beq s t || eqb a 0) → Alike (fin s m e) (fin t n d)
    go false false F G k = subst (λ (z : Float). Alike (fin false m e) z) (same_value f false m e n d v F G) same
    go true true F G k = subst (λ (z : Float). Alike (fin true m e) z) (same_value f true m e n d v F G) same
    go false true F G k = no_size f false true m n e d F G (eqb→eq a 0 k) (sym v ∙ eqb→eq a 0 k)
    go true false F G k = no_size f true false m n e d F G (eqb→eq a 0 k) (sym v ∙ eqb→eq a 0 k)

pub equal_alike : (f : Format) (x y : Float) → T (fits f x) → T (fits f y) → T (eq x y) → Alike x y
unfolding eq
equal_alike f nan y F G h = absurd h
equal_alike f (inf s) nan F G h = absurd h
equal_alike f (inf false) (inf false) F G h = same
equal_alike f (inf true) (inf true) F G h = same
equal_alike f (inf false) (inf true) F G h = absurd h
equal_alike f (inf true) (inf false) F G h = absurd h
equal_alike f (inf s) (fin t n d) F G h = absurd h
equal_alike f (fin s m e) nan F G h = absurd h
equal_alike f (fin s m e) (inf t) F G h = absurd h
equal_alike f (fin s m e) (fin t n d) F G h = one_size f s t m n e d F G h
