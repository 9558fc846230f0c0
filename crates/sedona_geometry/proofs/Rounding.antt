-- The rounded difference of two values: it grows with the first and shrinks with the second; and its sign, where they fit the format.
-- Assumes nothing.
use mathlib.Core.Path.{◌≡◌, refl, sym, ap, ap₂, ◌∙◌, subst}
use mathlib.Core.Logic.{inl, inr}
use mathlib.Core.Bool.{Bool, true, false, not, ◌&&◌, cond}
use Prim.Native.Nat.{ℕ, zero, suc, ◌+◌, ◌-◌, ◌*◌, ◌%◌, ◌^◌, ◌≤◌, ◌<◌}
use native.Mathlib.Nat.{add_comm, le_of_eq as ℕ-le-of-eq, le_trans as ℕ-le-trans, not-le_of_lt, zero-mul, one-mul, mul-one, mul-pos, mul_assoc, mul_comm, mul-sub, add-mul, mul-le-mul_right, le_of_mul-le-mul_right}
use native.Mathlib.Omega.{arith}
use lib.IntN.{ℤ, pos, negsuc}
use lib.Dec.{T, leb, ltb, eqb, leb→le, ltb→lt, nltb→le, eqb→eq}
use lib.Pow.{pow-add, pow_pos, pow-lt}
use lib.Ieee.{Float, nan, inf, fin, Format, binary32, binary64, prec, emax, low, up, down, odd, units, round, neg, sum, sub, lt, le, fits}
use lib.Ieee.Digits.{back}
use lib.Ieee.Fits.{down_pos, and_l, and_r, round_is}
use lib.Ieee.Order.{round_mono, drop, kept}
use lib.Ieee.Scale.{round_same}
use Rattle.sedona_geometry.specs.Float as float
use Rattle.sedona_geometry.proofs.Order.{Number, infinite, finite, Le, Lt, over, under, over_mul, under_mul, cross, le_fin→, →le_fin, ℕ_le_or_lt, le_number, lt_number, bottom, top, above_top, below_bottom, le_refl, le_trans, lt_not_le, lt_le_trans, lt_of_not_le, nan_or_number, number_no_nan, top_not_bottom}

-- ---- the other sign turns the order around
over_not : (s : Bool) (a : ℕ) → over (not s) a ≡ under s a
over_not true a = refl
over_not false a = refl

under_not : (s : Bool) (a : ℕ) → under (not s) a ≡ over s a
under_not true a = refl
under_not false a = refl

neg_number : {x : Float} → Number x → Number (neg x)
unfolding neg
neg_number infinite = infinite
neg_number finite = finite

neg_le : {x y : Float} → Le x y → Le (neg y) (neg x)
unfolding le neg
neg_le {x = nan} h = absurd h.test
neg_le {x = inf true} h = top (neg_number (le_number h).1)
neg_le {x = inf false} h = subst (λ (z : Float). Le (neg z) (inf true)) (sym (above_top h)) (le_refl infinite)
neg_le {x = fin s m e} {y = nan} h = absurd h.test
neg_le {x = fin s m e} {y = inf true} h = absurd h.test
neg_le {x = fin s m e} {y = inf false} h = bottom finite
neg_le {x = fin s m e} {y = fin t n d} h = →le_fin (not t) n d (not s) m e (simp (over_not, under_not) (omega (arith, le_fin→ s m e t n d h)))

neg_neg : (x : Float) → neg (neg x) ≡ x
unfolding neg
neg_neg nan = refl
neg_neg (inf true) = refl
neg_neg (inf false) = refl
neg_neg (fin true m e) = refl
neg_neg (fin false m e) = refl

odd_neg : (d q k l : ℕ) → odd d true q k l ≡ neg (odd d false q k l)
unfolding odd neg
odd_neg d zero k l = refl
odd_neg d (suc q) k l = refl

units_neg : (f : Format) (q k : ℕ) → units f true q k ≡ neg (units f false q k)
unfolding units neg
units_neg f q k = go (ltb (q * 2 ^ k) (2 ^ (low f + suc (emax f))))
  where
    go : (b : Bool) → cond b (odd (suc (prec f)) true q k (low f)) (inf true) ≡ neg (cond b (odd (suc (prec f)) false q k (low f)) (inf false))
    go true = odd_neg (suc (prec f)) q k (low f)
    go false = refl

-- rounding is symmetric
round_neg : (f : Format) (a b : ℕ) → round f true a b ≡ neg (round f false a b)
round_neg f a b =
    round_is f true a b
    ∙ units_neg f (kept (prec f) (a * 2 ^ low f) b) (drop (prec f) (a * 2 ^ low f) b)
    ∙ ap neg (sym (round_is f false a b))

-- ---- a rounded fraction a / c against zero
one_unit : (f : Format) → Lt float.zero (round f false 1 (2 ^ low f))
unfolding lt round
one_unit binary32 = record { test = tt }
one_unit binary64 = record { test = tt }

none : (f : Format) (s : Bool) → round f s 0 1 ≡ fin s 0 (pos 0)
unfolding round
none binary32 s = refl
none binary64 s = refl

zeros : Le float.zero (fin true 0 (pos 0))
unfolding le
zeros = record { test = tt }

minus_zeros : Le (fin true 0 (pos 0)) float.zero
unfolding le
minus_zeros = record { test = tt }

neg_le_zero : {x : Float} → Le float.zero x → Le (neg x) float.zero
unfolding neg
neg_le_zero h = le_trans (neg_le h) minus_zeros

module _ (f : Format) (c : ℕ) (C : 0 < c) where
  pub round_zero : (s : Bool) → round f s 0 c ≡ fin s 0 (pos 0)
  round_zero s = round_same f s 0 c 0 1 C (omega arith) (zero-mul 1 ∙ sym (zero-mul c)) ∙ none f s

  round_le_mono : (a b : ℕ) → a ≤ b → Le (round f false a c) (round f false b c)
  round_le_mono a b h = record { test = round_mono f a c b c C C (mul-le-mul_right c h) }

  round_ge : (a : ℕ) → Le float.zero (round f false a c)
  round_ge a = subst (λ (z : Float). Le z (round f false a c)) (round_zero false) (round_le_mono 0 a (omega arith))

  round_gt : (a : ℕ) → c ≤ a * 2 ^ low f → Lt float.zero (round f false a c)
  round_gt a h =
      lt_le_trans (one_unit f) (record { test = round_mono f 1 (2 ^ low f) a c (pow_pos (low f)) C (ℕ-le-trans (ℕ-le-of-eq (one-mul c)) h) })

  round_neg_mono : (a b : ℕ) → a ≤ b → Le (round f true b c) (round f true a c)
  round_neg_mono a b h = rw (round_neg f b c, round_neg f a c) (neg_le (round_le_mono a b h))

  round_le : (a : ℕ) → Le (round f true a c) float.zero
  round_le a = rw (round_neg f a c) (neg_le_zero (round_ge a))

  round_lt : (a : ℕ) → c ≤ a * 2 ^ low f → Lt (round f true a c) float.zero
  round_lt a h =
      lt_of_not_le finite (le_number (round_le a)).0 (λ k.
      lt_not_le (round_gt a h) (subst (λ (z : Float). Le z float.zero) (ap neg (round_neg f a c) ∙ neg_neg (round f false a c)) (neg_le_zero k)))

  round_number : (s : Bool) (a : ℕ) → Number (round f s a c)
  round_number false a = (le_number (round_ge a)).1
  round_number true a = (le_number (round_le a)).0

-- ---- a sum, as one rounding of (p - n) / c; the sign is free at zero
abbrev gap : ℕ → ℕ → ℕ
gap p n = (p - n) + (n - p)

record Rounded (f : Format) (p n c : ℕ) (r : Float) : Type 0 where
  sign : Bool
  is : r ≡ round f sign (gap p n) c
  above : T (not sign) → n ≤ p
  below : T sign → p ≤ n

at : (f : Format) (p n c : ℕ) (s : Bool) (a : ℕ) → a ≡ gap p n → (T (not s) → n ≤ p) → (T s → p ≤ n) → Rounded f p n c (round f s a c)
at f p n c s a e h k = record { sign = s; is = ap (λ (z : ℕ). round f s z c) e; above = h; below = k }

sum_is : (f : Format) (s : Bool) (a : ℕ) (t : Bool) (b c : ℕ) → Rounded f (over s a + over t b) (under s a + under t b) c (sum f s a t b c)
unfolding sum
sum_is f false a false b c = at f (a + b) (0 + 0) c false (a + b) (omega arith) (λ h. omega arith) (λ h. absurd h)
sum_is f true a true b c = at f (0 + 0) (a + b) c true (a + b) (omega arith) (λ h. absurd h) (λ h. omega arith)
sum_is f false a true b c = go (ltb a b) (ltb→lt a b) (nltb→le a b)
  where
    go : (t : Bool) → (T t → a < b) → (T (not t) → b ≤ a) → Rounded f (a + 0) (0 + b) c (cond t (round f true (b - a) c) (round f false (a - b) c))
    go true h k = let l = h tt in at f (a + 0) (0 + b) c true (b - a) (omega arith) (λ h. absurd h) (λ h. omega arith)
    go false h k = let l = k tt in at f (a + 0) (0 + b) c false (a - b) (omega arith) (λ h. omega arith) (λ h. absurd h)
sum_is f true a false b c = go (ltb a b) (ltb→lt a b) (nltb→le a b) (ltb b a) (ltb→lt b a) (nltb→le b a)
  where
    go : (t : Bool) → (T t → a < b) → (T (not t) → b ≤ a) → (v : Bool) → (T v → b < a) → (T (not v) → a ≤ b)
        → Rounded f (0 + b) (a + 0) c (cond t (round f false (b - a) c) (round f v (a - b) c))
    go true h k v i j = let l = h tt in at f (0 + b) (a + 0) c false (b - a) (omega arith) (λ h. omega arith) (λ h. absurd h)
    go false h k v i j = let l = k tt in at f (0 + b) (a + 0) c v (a - b) (omega arith) (λ h. omega (arith, j h)) (λ h. omega (arith, i h))

-- ---- the same over another denominator
sub_mul : (a b c : ℕ) → (a - b) * c ≡ a * c - b * c
sub_mul a b c = mul_comm (a - b) c ∙ mul-sub c a b ∙ ap₂ (λ (x y : ℕ). x - y) (mul_comm c a) (mul_comm c b)

gap_mul : (p n c : ℕ) → gap p n * c ≡ gap (p * c) (n * c)
gap_mul p n c = add-mul (p - n) (n - p) c ∙ ap₂ (λ (x y : ℕ). x + y) (sub_mul p n c) (sub_mul n p c)

carry : (p n c p' n' c' : ℕ) → 0 < c → p * c' ≡ p' * c → n * c' ≡ n' * c → p ≤ n → p' ≤ n'
carry p n c p' n' c' C e g h = le_of_mul-le-mul_right (ℕ-le-trans (ℕ-le-of-eq (sym e)) (ℕ-le-trans (mul-le-mul_right c' h) (ℕ-le-of-eq g))) C

rescaled : (f : Format) (p n c p' n' c' : ℕ) (r : Float) → 0 < c → 0 < c' → p * c' ≡ p' * c → n * c' ≡ n' * c → Rounded f p n c r → Rounded f p' n' c' r
rescaled f p n c p' n' c' r C C' e g R = record {
  sign = R.sign;
  is =
      R.is
      ∙ round_same f R.sign (gap p n) c (gap p' n') c' C C' (gap_mul p n c' ∙ ap₂ (λ (x y : ℕ). gap x y) e g ∙ sym (gap_mul p' n' c));
  above = λ h. carry n p c n' p' c' C g e (R.above h);
  below = λ h. carry p n c p' n' c' C e g (R.below h);
}

-- ---- the order of two that are rounded over one denominator
module _ (f : Format) (c : ℕ) (C : 0 < c) where
  order : (s s' : Bool) (p n p' n' : ℕ) → p + n' ≤ p' + n → (T (not s) → n ≤ p) → (T s → p ≤ n) → (T (not s') → n' ≤ p') → (T s' → p' ≤ n')
      → Le (round f s (gap p n) c) (round f s' (gap p' n') c)
  order false false p n p' n' h a b a' b' =
      let l = a tt in
      let l' = a' tt in
      round_le_mono f c C (gap p n) (gap p' n') (omega arith)
  order true true p n p' n' h a b a' b' =
      let l = b tt in
      let l' = b' tt in
      round_neg_mono f c C (gap p' n') (gap p n) (omega arith)
  order true false p n p' n' h a b a' b' = le_trans (round_le f c C (gap p n)) (round_ge f c C (gap p' n'))
  order false true p n p' n' h a b a' b' =
      let l = a tt in
      let l' = b' tt in
      let e : gap p n ≡ 0 = omega arith in
      let e' : gap p' n' ≡ 0 = omega arith in
      rw (e, e', round_zero f c C false, round_zero f c C true) zeros

  rounded_mono : (p n p' n' : ℕ) {r r' : Float} → p + n' ≤ p' + n → Rounded f p n c r → Rounded f p' n' c r' → Le r r'
  rounded_mono p n p' n' h R R' = rw (R.is, R'.is) (order R.sign R'.sign p n p' n' h R.above R.below R'.above R'.below)

  rounded_ge : (p n : ℕ) {r : Float} → n ≤ p → Rounded f p n c r → Le float.zero r
  rounded_ge p n h R = rounded_mono 0 0 p n (omega arith) (rw (← round_zero f c C false) (at f 0 0 c false 0 refl (λ h. omega arith) (λ h. absurd h))) R

  -- what is not zero is a unit or more
  a_unit : (p n : ℕ) → c ≤ 2 ^ low f → 1 ≤ gap p n → c ≤ gap p n * 2 ^ low f
  a_unit p n l one = ℕ-le-trans l (ℕ-le-trans (ℕ-le-of-eq (sym (one-mul (2 ^ low f)))) (mul-le-mul_right (2 ^ low f) one))

  rounded_lt : (p n : ℕ) {r : Float} → c ≤ 2 ^ low f → p < n → Rounded f p n c r → Lt r float.zero
  rounded_lt p n l h R = rw R.is (go R.sign R.above)
    where
      go : (s : Bool) → (T (not s) → n ≤ p) → Lt (round f s (gap p n) c) float.zero
      go false a = absurd (not-le_of_lt h (a tt))
      go true a = round_lt f c C (gap p n) (a_unit p n l (omega arith))

  rounded_gt : (p n : ℕ) {r : Float} → c ≤ 2 ^ low f → n < p → Rounded f p n c r → Lt float.zero r
  rounded_gt p n l h R = rw R.is (go R.sign R.below)
    where
      go : (s : Bool) → (T s → p ≤ n) → Lt float.zero (round f s (gap p n) c)
      go true b = absurd (not-le_of_lt h (b tt))
      go false b = round_gt f c C (gap p n) (a_unit p n l (omega arith))

-- ---- the difference of any finite values
pub positive : (e d : ℤ) → 0 < down e * down d
positive e d = mul-pos (down_pos e) (down_pos d)

-- a sum of x / d and y / g, and of the two exchanged, over u and v times their denominators
spread : (x y d g u v : ℕ) → ((x * g + y * d) * (d * u * (g * v)) ≡ (x * u * (g * v) + y * v * (d * u)) * (d * g))
    × ((y * d + x * g) * (d * u * (g * v)) ≡ (y * v * (d * u) + x * u * (g * v)) * (d * g))
spread x y d g u v = omega arith

-- lo' ≤ lo and hi ≤ hi', over the denominators d and g
wider : (hp hn hp' hn' lp ln lp' ln' d g : ℕ) → lp' + ln ≤ lp + ln' → hp + hn' ≤ hp' + hn
    → (hp * g + ln * d) + (lp' * d + hn' * g) ≤ (hp' * g + ln' * d) + (lp * d + hn * g)
wider hp hn hp' hn' lp ln lp' ln' d g a b = omega (arith, mul-le-mul_right d a, mul-le-mul_right g b)

module _ (f : Format) (s : Bool) (m : ℕ) (e : ℤ) (t : Bool) (n : ℕ) (d : ℤ) where
  opened : sub f (fin s m e) (fin t n d) ≡ sum f s (m * up e * down d) (not t) (n * up d * down e) (down e * down d)
  unfolding sub
  opened = refl

  plus_part : over s (m * up e * down d) + over (not t) (n * up d * down e) ≡ cross s m e t n d
  plus_part = ap₂ (λ (x y : ℕ). x + y) (over_mul s (m * up e) (down d)) (over_not t (n * up d * down e) ∙ under_mul t (n * up d) (down e))

  minus_part : under s (m * up e * down d) + under (not t) (n * up d * down e) ≡ cross t n d s m e
  minus_part =
      ap₂ (λ (x y : ℕ). x + y) (under_mul s (m * up e) (down d)) (under_not t (n * up d * down e) ∙ over_mul t (n * up d) (down e))
      ∙ add_comm (under s (m * up e) * down d) (over t (n * up d) * down e)

  -- it is rounded once
  sub_rounded : Rounded f (cross s m e t n d) (cross t n d s m e) (down e * down d) (sub f (fin s m e) (fin t n d))
  sub_rounded = rw (opened, ← plus_part, ← minus_part) (sum_is f s (m * up e * down d) (not t) (n * up d * down e) (down e * down d))

  sub_fin_number : Number (sub f (fin s m e) (fin t n d))
  sub_fin_number =
      let R = sub_rounded in
      rw R.is (round_number f (down e * down d) (positive e d) R.sign (gap (cross s m e t n d) (cross t n d s m e)))

  -- the same, the first over u times its denominator and the second over v times its
  sub_over : (u v : ℕ) → 0 < u → 0 < v
      → Rounded f (over s (m * up e) * u * (down d * v) + under t (n * up d) * v * (down e * u)) (over t (n * up d) * v * (down e * u) + under s (m * up e) * u * (down d * v))
      (down e * u * (down d * v)) (sub f (fin s m e) (fin t n d))
  sub_over u v P Q =
      rescaled f (cross s m e t n d) (cross t n d s m e) (down e * down d)
      (over s (m * up e) * u * (down d * v) + under t (n * up d) * v * (down e * u)) (over t (n * up d) * v * (down e * u) + under s (m * up e) * u * (down d * v))
      (down e * u * (down d * v)) (sub f (fin s m e) (fin t n d)) (positive e d) (mul-pos (mul-pos (down_pos e) P) (mul-pos (down_pos d) Q))
      (spread (over s (m * up e)) (under t (n * up d)) (down e) (down d) u v).0 (spread (under s (m * up e)) (over t (n * up d)) (down e) (down d) u v).1 sub_rounded

sub_fin_mono : (f : Format) (s : Bool) (m : ℕ) (e : ℤ) (t : Bool) (n : ℕ) (d : ℤ) (s' : Bool) (m' : ℕ) (e' : ℤ) (t' : Bool) (n' : ℕ) (d' : ℤ)
    → Le (fin t' n' d') (fin t n d) → Le (fin s m e) (fin s' m' e') → Le (sub f (fin s m e) (fin t n d)) (sub f (fin s' m' e') (fin t' n' d'))
sub_fin_mono f s m e t n d s' m' e' t' n' d' h k =
    let D = down e * down e' in
    let E = down d * down d' in
    let hp = over s (m * up e) * down e' in
    let hn = under s (m * up e) * down e' in
    let lp = over t (n * up d) * down d' in
    let ln = under t (n * up d) * down d' in
    let hp' = over s' (m' * up e') * down e in
    let hn' = under s' (m' * up e') * down e in
    let lp' = over t' (n' * up d') * down d in
    let ln' = under t' (n' * up d') * down d in
    rounded_mono f (D * E) (mul-pos (positive e e') (positive d d')) (hp * E + ln * D) (lp * D + hn * E) (hp' * E + ln' * D) (lp' * D + hn' * E)
    (wider hp hn hp' hn' lp ln lp' ln' D E (le_fin→ t' n' d' t n d h) (le_fin→ s m e s' m' e' k))
    (sub_over f s m e t n d (down e') (down d') (down_pos e') (down_pos d'))
    (rw (mul_comm (down e) (down e'), mul_comm (down d) (down d')) (sub_over f s' m' e' t' n' d' (down e) (down d) (down_pos e) (down_pos d)))

-- ---- a finite value that fits is (p - n) / 2 ^ low: a whole number of the format's smallest values
record Units (f : Format) (s : Bool) (m : ℕ) (e : ℤ) : Type 0 where
  p : ℕ
  n : ℕ
  plus : over s (m * up e) * 2 ^ low f ≡ p * down e
  minus : under s (m * up e) * 2 ^ low f ≡ n * down e

pow_cancel : (i j : ℕ) → 2 ^ i ≤ 2 ^ j → i ≤ j
pow_cancel i j h = elim (ℕ_le_or_lt i j) [ inl a ↦ a | inr b ↦ absurd (not-le_of_lt (pow-lt b) h) ]

abbrev pub factor : Format → ℤ → ℕ
factor f (pos k) = 2 ^ low f
factor f (negsuc k) = 2 ^ (low f - suc k)

pub factor_mul : (f : Format) (e : ℤ) → down e ≤ 2 ^ low f → 2 ^ low f ≡ factor f e * down e
factor_mul f (pos k) h = sym (mul-one (2 ^ low f))
factor_mul f (negsuc k) h = sym (sym (pow-add 2 (low f - suc k) (suc k)) ∙ ap (λ (x : ℕ). 2 ^ x) (back (low f) (suc k) (pow_cancel (suc k) (low f) h)))

alone : (e : ℤ) → up e * down e ≡ 1 → down e ≤ 1
alone (pos k) h = omega arith
alone (negsuc k) h = ℕ-le-of-eq (sym (one-mul (2 ^ suc k)) ∙ h)

pub fits_down : (f : Format) (s : Bool) (m : ℕ) (e : ℤ) → T (fits f (fin s m e)) → down e ≤ 2 ^ low f
unfolding fits
fits_down f s zero e h = ℕ-le-trans (alone e (eqb→eq (up e * down e) 1 h)) (pow_pos (low f))
fits_down f s (suc m) e h =
    leb→le (down e) (2 ^ low f)
    (and_r (eqb (suc m % 2) 1 && ltb (suc m) (2 ^ prec f)) (leb (down e) (2 ^ low f))
    (and_l (eqb (suc m % 2) 1 && ltb (suc m) (2 ^ prec f) && leb (down e) (2 ^ low f)) (ltb (suc m * up e) (2 ^ suc (emax f) * down e)) h))

units_of : (f : Format) (s : Bool) (m : ℕ) (e : ℤ) → T (fits f (fin s m e)) → Units f s m e
units_of f s m e h =
    let w = factor_mul f e (fits_down f s m e h) in
    record {
      p = over s (m * up e) * factor f e;
      n = under s (m * up e) * factor f e;
      plus = ap (λ (z : ℕ). over s (m * up e) * z) w ∙ sym (mul_assoc (over s (m * up e)) (factor f e) (down e));
      minus = ap (λ (z : ℕ). under s (m * up e) * z) w ∙ sym (mul_assoc (under s (m * up e)) (factor f e) (down e));
    }

-- two of them, added over the product of their denominators
join : (x d y g l u v : ℕ) → x * l ≡ u * d → y * l ≡ v * g → (x * g + y * d) * l ≡ (u + v) * (d * g)
join x d y g l u v e h = omega (arith, ap (λ (z : ℕ). z * g) e, ap (λ (z : ℕ). z * d) h)

module _ (f : Format) (s : Bool) (m : ℕ) (e : ℤ) (t : Bool) (n : ℕ) (d : ℤ) (X : Units f s m e) (Y : Units f t n d) where
  cross_units : cross s m e t n d * 2 ^ low f ≡ (X.p + Y.n) * (down e * down d)
  cross_units = join (over s (m * up e)) (down e) (under t (n * up d)) (down d) (2 ^ low f) X.p Y.n X.plus Y.minus

  cross_units' : cross t n d s m e * 2 ^ low f ≡ (Y.p + X.n) * (down e * down d)
  cross_units' =
      join (over t (n * up d)) (down d) (under s (m * up e)) (down e) (2 ^ low f) Y.p X.n Y.plus X.minus
      ∙ ap (λ (z : ℕ). (Y.p + X.n) * z) (mul_comm (down d) (down e))

  le_units→ : Le (fin s m e) (fin t n d) → X.p + Y.n ≤ Y.p + X.n
  le_units→ h =
      carry (cross s m e t n d) (cross t n d s m e) (down e * down d) (X.p + Y.n) (Y.p + X.n) (2 ^ low f) (positive e d) cross_units cross_units' (le_fin→ s m e t n d h)

  →le_units : X.p + Y.n ≤ Y.p + X.n → Le (fin s m e) (fin t n d)
  →le_units h =
      →le_fin s m e t n d
      (carry (X.p + Y.n) (Y.p + X.n) (2 ^ low f) (cross s m e t n d) (cross t n d s m e) (down e * down d) (pow_pos (low f)) (sym cross_units) (sym cross_units') h)

  -- the difference is rounded from a whole number of units
  sub_units : Rounded f (X.p + Y.n) (Y.p + X.n) (2 ^ low f) (sub f (fin s m e) (fin t n d))
  sub_units =
      rescaled f (cross s m e t n d) (cross t n d s m e) (down e * down d) (X.p + Y.n) (Y.p + X.n) (2 ^ low f) (sub f (fin s m e) (fin t n d))
      (positive e d) (pow_pos (low f)) cross_units cross_units' (sub_rounded f s m e t n d)

-- ---- its sign, where they fit
module _ (f : Format) (s : Bool) (m : ℕ) (e : ℤ) (t : Bool) (n : ℕ) (d : ℤ) (X : T (fits f (fin s m e))) (Y : T (fits f (fin t n d))) where
  U : Units f s m e
  U = units_of f s m e X

  W : Units f t n d
  W = units_of f t n d Y

  sub_fin_ge : Le (fin t n d) (fin s m e) → Le float.zero (sub f (fin s m e) (fin t n d))
  sub_fin_ge h = rounded_ge f (2 ^ low f) (pow_pos (low f)) (U.p + W.n) (W.p + U.n) (le_units→ f t n d s m e W U h) (sub_units f s m e t n d U W)

  sub_fin_lt : Lt (fin s m e) (fin t n d) → Lt (sub f (fin s m e) (fin t n d)) float.zero
  sub_fin_lt h =
      elim (ℕ_le_or_lt (W.p + U.n) (U.p + W.n)) [
        | inl a ↦ absurd (lt_not_le h (→le_units f t n d s m e W U a))
        | inr b ↦ rounded_lt f (2 ^ low f) (pow_pos (low f)) (U.p + W.n) (W.p + U.n) (ℕ-le-of-eq refl) b (sub_units f s m e t n d U W)
      ]

  sub_fin_gt : Lt (fin t n d) (fin s m e) → Lt float.zero (sub f (fin s m e) (fin t n d))
  sub_fin_gt h =
      elim (ℕ_le_or_lt (U.p + W.n) (W.p + U.n)) [
        | inl a ↦ absurd (lt_not_le h (→le_units f s m e t n d U W a))
        | inr b ↦ rounded_gt f (2 ^ low f) (pow_pos (low f)) (U.p + W.n) (W.p + U.n) (ℕ-le-of-eq refl) b (sub_units f s m e t n d U W)
      ]

-- ---- infinite operands: a difference that is a number is infinite
inf_sub : (f : Format) (s : Bool) (y : Float) → Number (sub f (inf s) y) → sub f (inf s) y ≡ inf s
unfolding sub
inf_sub f true (inf false) N = refl
inf_sub f false (inf true) N = refl
inf_sub f s (fin t n d) N = refl
inf_sub f s nan N = elim N [ ]
inf_sub f false (inf false) N = elim N [ ]
inf_sub f true (inf true) N = elim N [ ]

sub_inf : (f : Format) (x : Float) (t : Bool) → Number (sub f x (inf t)) → sub f x (inf t) ≡ inf (not t)
unfolding sub
sub_inf f (inf true) false N = refl
sub_inf f (inf false) true N = refl
sub_inf f (fin s m e) t N = refl
sub_inf f nan t N = elim N [ ]
sub_inf f (inf false) false N = elim N [ ]
sub_inf f (inf true) true N = elim N [ ]

-- a difference that is a number has numbers for operands
pub sub_number : (f : Format) (x y : Float) → Number (sub f x y) → Number x × Number y
unfolding sub
sub_number f (inf s) (inf t) N = (infinite, infinite)
sub_number f (inf s) (fin t n d) N = (infinite, finite)
sub_number f (fin s m e) (inf t) N = (finite, infinite)
sub_number f (fin s m e) (fin t n d) N = (finite, finite)
sub_number f nan y N = elim N [ ]
sub_number f (inf s) nan N = elim N [ ]
sub_number f (fin s m e) nan N = elim N [ ]

-- a difference of numbers is a NaN only between infinities of one sign
sub_nan : (f : Format) (x y : Float) → Number x → Number y → sub f x y ≡ nan → (s : Bool) × (x ≡ inf s) × (y ≡ inf s)
unfolding sub
sub_nan f (inf true) (inf true) X Y h = (true, refl, refl)
sub_nan f (inf true) (inf false) X Y h = absurd (number_no_nan infinite h)
sub_nan f (inf false) (inf true) X Y h = absurd (number_no_nan infinite h)
sub_nan f (inf false) (inf false) X Y h = (false, refl, refl)
sub_nan f (inf s) (fin t n d) X Y h = absurd (number_no_nan infinite h)
sub_nan f (fin s m e) (inf t) X Y h = absurd (number_no_nan infinite h)
sub_nan f (fin s m e) (fin t n d) X Y h = absurd (number_no_nan (sub_fin_number f s m e t n d) h)
sub_nan f nan y X Y h = elim X [ ]
sub_nan f (inf s) nan X Y h = elim Y [ ]
sub_nan f (fin s m e) nan X Y h = elim Y [ ]

-- ---- the laws of a rounded difference
module _ (f : Format) where
  -- it grows with the first and shrinks with the second
  mono : (hi lo hi' lo' : Float) → Number hi → Number lo → Number hi' → Number lo'
      → Le lo' lo → Le hi hi' → Number (sub f hi lo) → Number (sub f hi' lo') → Le (sub f hi lo) (sub f hi' lo')
  unfolding le
  mono (inf true) lo hi' lo' N M N' M' h k P Q = rw (inf_sub f true lo P) (bottom Q)
  mono (inf false) lo hi' lo' N M N' M' h k P Q =
      subst (λ (z : Float). Le (sub f (inf false) lo) (sub f z lo')) (sym (above_top k))
      (rw (inf_sub f false lo' (subst (λ (z : Float). Number (sub f z lo')) (above_top k) Q)) (top P))
  mono (fin s m e) (inf false) hi' lo' N M N' M' h k P Q = rw (sub_inf f (fin s m e) false P) (bottom Q)
  mono (fin s m e) (inf true) hi' lo' N M N' M' h k P Q =
      subst (λ (z : Float). Le (sub f (fin s m e) (inf true)) (sub f hi' z)) (sym (below_bottom h))
      (rw (sub_inf f hi' true (subst (λ (z : Float). Number (sub f hi' z)) (below_bottom h) Q)) (top P))
  mono (fin s m e) (fin t n d) (inf true) lo' N M N' M' h k P Q = absurd k.test
  mono (fin s m e) (fin t n d) (inf false) lo' N M N' M' h k P Q = rw (inf_sub f false lo' Q) (top P)
  mono (fin s m e) (fin t n d) (fin s' m' e') (inf true) N M N' M' h k P Q = rw (sub_inf f (fin s' m' e') true Q) (top P)
  mono (fin s m e) (fin t n d) (fin s' m' e') (inf false) N M N' M' h k P Q = absurd h.test
  mono (fin s m e) (fin t n d) (fin s' m' e') (fin t' n' d') N M N' M' h k P Q = sub_fin_mono f s m e t n d s' m' e' t' n' d' h k
  mono nan lo hi' lo' N M N' M' h k P Q = elim N [ ]
  mono (fin s m e) nan hi' lo' N M N' M' h k P Q = elim M [ ]
  mono (fin s m e) (fin t n d) nan lo' N M N' M' h k P Q = elim N' [ ]
  mono (fin s m e) (fin t n d) (fin s' m' e') nan N M N' M' h k P Q = elim M' [ ]

  pub sub_mono : {hi lo hi' lo' : Float} → Le lo' lo → Le hi hi' → Number (sub f hi lo) → Number (sub f hi' lo') → Le (sub f hi lo) (sub f hi' lo')
  sub_mono {hi} {lo} {hi'} {lo'} h k P Q =
      mono hi lo hi' lo' (le_number k).0 (le_number h).1 (le_number k).1 (le_number h).0 h k P Q

  -- lo ≤ hi: it is not below 0, and not −inf
  sub_ge : (hi lo : Float) → T (fits f hi) → T (fits f lo) → Le lo hi → Number (sub f hi lo) → Le float.zero (sub f hi lo)
  unfolding le sub
  sub_ge nan lo F G h P = absurd (number_no_nan (le_number h).1 refl)
  sub_ge (inf true) lo F G h P = absurd (number_no_nan (subst (λ (z : Float). Number (sub f (inf true) z)) (below_bottom h) P) refl)
  sub_ge (inf false) lo F G h P = rw (inf_sub f false lo P) (top finite)
  sub_ge (fin s m e) nan F G h P = absurd h.test
  sub_ge (fin s m e) (inf true) F G h P = top finite
  sub_ge (fin s m e) (inf false) F G h P = absurd h.test
  sub_ge (fin s m e) (fin t n d) F G h P = sub_fin_ge f s m e t n d F G h

  pub sub_not_neg : {hi lo : Float} → T (fits f hi) → T (fits f lo) → Le lo hi → Lt (sub f hi lo) float.zero → ⊥
  sub_not_neg {hi} {lo} F G h k = lt_not_le k (sub_ge hi lo F G h (lt_number k).0)

  pub sub_not_bottom : {hi lo : Float} → T (fits f hi) → T (fits f lo) → Le lo hi → sub f hi lo ≡ inf true → ⊥
  unfolding le
  sub_not_bottom {hi} {lo} F G h e =
      (subst (λ (z : Float). Le float.zero z) e (sub_ge hi lo F G h (subst (λ (z : Float). Number z) (sym e) infinite))).test

  -- hi < lo: it is below 0, however near the two are, by gradual underflow; and lo < hi: above
  neg_of_lt : (hi lo : Float) → T (fits f hi) → T (fits f lo) → Lt hi lo → Lt (sub f hi lo) float.zero
  unfolding sub lt
  neg_of_lt nan lo F G h = absurd h.test
  neg_of_lt (inf true) nan F G h = absurd h.test
  neg_of_lt (inf true) (inf true) F G h = absurd h.test
  neg_of_lt (inf true) (inf false) F G h = record { test = tt }
  neg_of_lt (inf true) (fin t n d) F G h = record { test = tt }
  neg_of_lt (inf false) lo F G h = absurd (lt_not_le h (top (lt_number h).1))
  neg_of_lt (fin s m e) nan F G h = absurd h.test
  neg_of_lt (fin s m e) (inf true) F G h = absurd h.test
  neg_of_lt (fin s m e) (inf false) F G h = record { test = tt }
  neg_of_lt (fin s m e) (fin t n d) F G h = sub_fin_lt f s m e t n d F G h

  pos_of_lt : (hi lo : Float) → T (fits f hi) → T (fits f lo) → Lt lo hi → Lt float.zero (sub f hi lo)
  unfolding sub lt
  pos_of_lt nan lo F G h = absurd (number_no_nan (lt_number h).1 refl)
  pos_of_lt (inf true) lo F G h = absurd (lt_not_le h (bottom (lt_number h).0))
  pos_of_lt (inf false) nan F G h = absurd h.test
  pos_of_lt (inf false) (inf true) F G h = record { test = tt }
  pos_of_lt (inf false) (inf false) F G h = absurd h.test
  pos_of_lt (inf false) (fin t n d) F G h = record { test = tt }
  pos_of_lt (fin s m e) nan F G h = absurd h.test
  pos_of_lt (fin s m e) (inf true) F G h = record { test = tt }
  pos_of_lt (fin s m e) (inf false) F G h = absurd h.test
  pos_of_lt (fin s m e) (fin t n d) F G h = sub_fin_gt f s m e t n d F G h

  pub sub_pos : {hi lo : Float} → T (fits f hi) → T (fits f lo) → Lt lo hi → Lt float.zero (sub f hi lo)
  sub_pos {hi} {lo} F G h = pos_of_lt hi lo F G h

  pub sub_neg : {hi lo : Float} → T (fits f hi) → T (fits f lo) → Lt hi lo → Lt (sub f hi lo) float.zero
  sub_neg {hi} {lo} F G h = neg_of_lt hi lo F G h

  pub lt_of_sub_neg : (hi lo : Float) → T (fits f hi) → T (fits f lo) → Lt (sub f hi lo) float.zero → Lt hi lo
  lt_of_sub_neg hi lo F G h =
      let N = sub_number f hi lo (lt_number h).0 in
      lt_of_not_le N.1 N.0 (λ k. sub_not_neg F G k h)

  -- a wider difference is not −inf where the narrower is not
  pub sub_wider : {hi lo hi' lo' : Float} → Le lo' lo → Le hi hi' → (sub f hi lo ≡ inf true → ⊥) → sub f hi' lo' ≡ inf true → ⊥
  sub_wider {hi} {lo} {hi'} {lo'} h k n e =
      elim (nan_or_number (sub f hi lo)) [
        | inr P ↦ n (below_bottom (subst (λ (z : Float). Le (sub f hi lo) z) e (sub_mono h k P Q)))
        | inl q ↦ apart (sub_nan f hi lo (le_number k).0 (le_number h).1 q)
      ]
    where
      Q : Number (sub f hi' lo')
      Q = subst (λ (z : Float). Number z) (sym e) infinite

      apart : (s : Bool) × (hi ≡ inf s) × (lo ≡ inf s) → ⊥
      apart w = go w.0 w.1 w.2
        where
          go : (s : Bool) → hi ≡ inf s → lo ≡ inf s → ⊥
          go false a b =
              let c : hi' ≡ inf false = above_top (subst (λ (z : Float). Le z hi') a k) in
              top_not_bottom (sym (inf_sub f false lo' (subst (λ (z : Float). Number (sub f z lo')) c Q)) ∙ ap (λ (z : Float). sub f z lo') (sym c) ∙ e)
          go true a b =
              let c : lo' ≡ inf true = below_bottom (subst (λ (z : Float). Le lo' z) b h) in
              top_not_bottom (sym (sub_inf f hi' true (subst (λ (z : Float). Number (sub f hi' z)) c Q)) ∙ ap (λ (z : Float). sub f hi' z) (sym c) ∙ e)
