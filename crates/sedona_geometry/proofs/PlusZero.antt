-- +0 for zero: what `plus_zero` gives, and that comparisons do not see a zero's sign. Assumes nothing.
use mathlib.Core.Path.{◌≡◌, refl, sym, ap, ap₂, ◌∙◌, subst}
use mathlib.Core.Bool.{Bool, true, false, ◌&&◌, ◌||◌, beq}
use Prim.Native.Nat.{ℕ, zero, suc, ◌*◌}
use native.Mathlib.Nat.{add-zero, zero-add, zero-mul}
use native.Mathlib.Omega.{arith}
use lib.IntN.{ℤ}
use lib.Dec.{T, ltb, eqb, ltb→lt}
use lib.Ieee.{Float, nan, inf, fin, Format, up, down, below, level, lt, eq, le, is_nan, fits}
use Rattle.sedona_geometry.specs.Float.{plus_zero, is_minus_zero}
use Rattle.sedona_geometry.proofs.Booleans.{fails, is_false}
use Rattle.sedona_geometry.proofs.Order.{Le, Lt}

-- ---- what it gives
pub never_minus : (x : Float) → is_minus_zero (plus_zero x) ≡ false
never_minus nan = refl
never_minus (inf s) = refl
never_minus (fin s zero e) = refl
never_minus (fin s (suc m) e) = refl

pub stays : (x : Float) → is_minus_zero x ≡ false → plus_zero x ≡ x
stays nan h = refl
stays (inf s) h = refl
stays (fin false zero e) h = refl
stays (fin true zero e) h = absurd (fails h tt)
stays (fin s (suc m) e) h = refl

pub twice : (x : Float) → plus_zero (plus_zero x) ≡ plus_zero x
twice x = stays (plus_zero x) (never_minus x)

-- ---- x and y differ at most in a zero's sign
pub data Alike : Float → Float → Type 0 where
  same : {x : Float} → Alike x x
  zeros : {s t : Bool} {e : ℤ} → Alike (fin s 0 e) (fin t 0 e)

pub alike_plus : (x : Float) → Alike (plus_zero x) x
alike_plus nan = same
alike_plus (inf s) = same
alike_plus (fin s zero e) = zeros
alike_plus (fin s (suc m) e) = same

-- made +0 they are equal
pub plus_alike : {x y : Float} → Alike x y → plus_zero x ≡ plus_zero y
plus_alike same = refl
plus_alike zeros = refl

pub fits_alike : (f : Format) {x y : Float} → Alike x y → fits f x ≡ fits f y
unfolding fits
fits_alike f same = refl
fits_alike f zeros = refl

pub nan_alike : {x y : Float} → Alike x y → is_nan x ≡ is_nan y
unfolding is_nan
nan_alike same = refl
nan_alike zeros = refl

-- ---- comparisons do not see it
by_signs : (P : Bool → Bool → Type 0) → ((s : Bool) → P s s) → P false true → P true false → (s t : Bool) → P s t
by_signs P d a b false false = d false
by_signs P d a b false true = a
by_signs P d a b true false = b
by_signs P d a b true true = d true

none_below : (b : ℕ) → ltb b 0 ≡ false
none_below b = is_false (ltb b 0) (λ h. omega (arith, ltb→lt b 0 h))

below_left : (s t u : Bool) (b : ℕ) → below s 0 u b ≡ below t 0 u b
below_left s t false b = by_signs (λ s t. below s 0 false b ≡ below t 0 false b) (λ s. refl) (sym (ap (ltb 0) (zero-add b))) (ap (ltb 0) (zero-add b)) s t
below_left s t true b = by_signs (λ s t. below s 0 true b ≡ below t 0 true b) (λ s. refl) (sym (none_below b)) (none_below b) s t

below_right : (s t u : Bool) (b : ℕ) → below u b s 0 ≡ below u b t 0
below_right s t false b = by_signs (λ s t. below false b s 0 ≡ below false b t 0) (λ s. refl) (none_below b) (sym (none_below b)) s t
below_right s t true b = by_signs (λ s t. below true b s 0 ≡ below true b t 0) (λ s. refl) (ap (ltb 0) (add-zero b)) (sym (ap (ltb 0) (add-zero b))) s t

level_left : (s t u : Bool) (b : ℕ) → level s 0 u b ≡ level t 0 u b
level_left s t false b = by_signs (λ s t. level s 0 false b ≡ level t 0 false b) (λ s. refl) refl refl s t
level_left s t true b = by_signs (λ s t. level s 0 true b ≡ level t 0 true b) (λ s. refl) refl refl s t

level_right : (s t u : Bool) (b : ℕ) → level u b s 0 ≡ level u b t 0
level_right s t u b = go (eqb b 0) u
  where
    go : (z u : Bool) → (z && (beq u s || z)) ≡ (z && (beq u t || z))
    go false u = refl
    go true false = by_signs (λ s t. (beq false s || true) ≡ (beq false t || true)) (λ s. refl) refl refl s t
    go true true = by_signs (λ s t. (beq true s || true) ≡ (beq true t || true)) (λ s. refl) refl refl s t

module _ (s t : Bool) (e : ℤ) where
  zero_lt : (y : Float) → (lt (fin s 0 e) y ≡ lt (fin t 0 e) y) × (eq (fin s 0 e) y ≡ eq (fin t 0 e) y)
  unfolding lt eq
  zero_lt nan = (refl, refl)
  zero_lt (inf u) = (refl, refl)
  zero_lt (fin u n d) = rw (zero-mul (up e), zero-mul (down d)) (below_left s t u (n * up d * down e), level_left s t u (n * up d * down e))

  lt_zero : (x : Float) → (lt x (fin s 0 e) ≡ lt x (fin t 0 e)) × (eq x (fin s 0 e) ≡ eq x (fin t 0 e))
  unfolding lt eq
  lt_zero nan = (refl, refl)
  lt_zero (inf u) = (refl, refl)
  lt_zero (fin u n d) = rw (zero-mul (up e), zero-mul (down d)) (below_right s t u (n * up d * down e), level_right s t u (n * up d * down e))

compare_left : {x x' : Float} → Alike x x' → (y : Float) → (lt x y ≡ lt x' y) × (eq x y ≡ eq x' y)
compare_left same y = (refl, refl)
compare_left (zeros {s} {t} {e}) y = zero_lt s t e y

compare_right : (x : Float) {y y' : Float} → Alike y y' → (lt x y ≡ lt x y') × (eq x y ≡ eq x y')
compare_right x same = (refl, refl)
compare_right x (zeros {s} {t} {e}) = lt_zero s t e x

module _ {x x' y y' : Float} (a : Alike x x') (b : Alike y y') where
  pub lt_alike : lt x y ≡ lt x' y'
  lt_alike = (compare_left a y).0 ∙ (compare_right x' b).0

  pub eq_alike : eq x y ≡ eq x' y'
  eq_alike = (compare_left a y).1 ∙ (compare_right x' b).1

  pub le_alike : le x y ≡ le x' y'
  unfolding le
  le_alike = ap₂ (λ (p q : Bool). p || q) lt_alike eq_alike

-- ---- the order, where one is made +0
pub plus_le : {x y : Float} → Le x y → Le (plus_zero x) y
plus_le {x} h = record { test = subst T (sym (le_alike (alike_plus x) same)) h.test }

pub le_plus : {x y : Float} → Le x y → Le x (plus_zero y)
le_plus {y = y} h = record { test = subst T (sym (le_alike same (alike_plus y))) h.test }

pub of_plus_le : {x y : Float} → Le (plus_zero x) y → Le x y
of_plus_le {x} h = record { test = subst T (le_alike (alike_plus x) same) h.test }

pub of_le_plus : {x y : Float} → Le x (plus_zero y) → Le x y
of_le_plus {y = y} h = record { test = subst T (le_alike same (alike_plus y)) h.test }

pub plus_le_plus : {x y : Float} → Le x y → Le (plus_zero x) (plus_zero y)
plus_le_plus h = plus_le (le_plus h)

pub plus_lt_plus : {x y : Float} → Lt x y → Lt (plus_zero x) (plus_zero y)
plus_lt_plus {x} {y} h = record { test = subst T (sym (lt_alike (alike_plus x) (alike_plus y))) h.test }

pub plus_fits : (f : Format) (x : Float) → T (fits f x) → T (fits f (plus_zero x))
plus_fits f x F = subst T (sym (fits_alike f (alike_plus x))) F
