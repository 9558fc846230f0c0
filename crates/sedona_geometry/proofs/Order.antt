-- The order of floats, of any format or none. What `le` and `lt` decide is put into records, so that a law's floats are seen from its hypotheses.
-- Assumes nothing.
use mathlib.Core.Path.{◌≡◌, refl, sym, subst}
use mathlib.Core.Logic.{◌⊎◌, inl, inr, ◌↔◌}
use mathlib.Core.Bool.{Bool, true, false, not, ◌&&◌}
use Prim.Native.Nat.{ℕ, ◌+◌, ◌*◌, ◌≤◌, ◌<◌}
use native.Mathlib.Nat.{zero-mul, mul-le-mul_right, le_of_mul-le-mul_right, eq-or-lt_of_le}
use native.Mathlib.Omega.{arith}
use lib.IntN.{ℤ}
use lib.Dec.{T, leb, eqb, ltb→lt, lt→ltb, eqb→eq, leb→le, nleb→lt}
use lib.Ieee.{Float, nan, inf, fin, up, down, below, level, lt, eq, le, ne, is_nan}
use lib.Ieee.Compare.{differs_from_itself}
use lib.Ieee.Fits.{down_pos, and_l, and_r, and_i, eq→eqb}
use Rattle.sedona_geometry.proofs.Booleans.{fails, is_false, or_left, or_right, or_cases}

-- x is no NaN
pub data Number : Float → Type 0 where
  infinite : {s : Bool} → Number (inf s)
  finite : {s : Bool} {m : ℕ} {e : ℤ} → Number (fin s m e)

-- x ≤ y
pub record Le (x y : Float) : Type 0 where
  pub test : T (le x y)

-- x < y
pub record Lt (x y : Float) : Type 0 where
  pub test : T (lt x y)

-- ---- a finite value is (over - under) / den
abbrev pub over : Bool → ℕ → ℕ
over false a = a
over true a = 0

abbrev pub under : Bool → ℕ → ℕ
under false a = 0
under true a = a

below↔ : (s : Bool) (a : ℕ) (t : Bool) (b : ℕ) → T (below s a t b) ↔ (over s a + under t b < over t b + under s a)
below↔ false a false b = (λ h. omega (arith, ltb→lt a b h), λ h. lt→ltb a b (omega arith))
below↔ false a true b = (λ h. absurd h, λ h. absurd (omega arith))
below↔ true a false b = (λ h. omega (arith, ltb→lt 0 (a + b) h), λ h. lt→ltb 0 (a + b) (omega arith))
below↔ true a true b = (λ h. omega (arith, ltb→lt b a h), λ h. lt→ltb b a (omega arith))

test_eq : (a b : ℕ) → a ≡ b → T (eqb a b)
test_eq a b h = eq→eqb h

alike↔ : (a b : ℕ) → T (eqb a b && true) ↔ (a ≡ b)
alike↔ a b = (λ h. eqb→eq a b (and_l (eqb a b) true h), λ h. and_i (eqb a b) true (test_eq a b h) tt)

zeros↔ : (a b : ℕ) → T (eqb a b && eqb a 0) ↔ ((a ≡ b) × (a ≡ 0))
zeros↔ a b = (
  λ h. (eqb→eq a b (and_l (eqb a b) (eqb a 0) h), eqb→eq a 0 (and_r (eqb a b) (eqb a 0) h)),
  λ h. and_i (eqb a b) (eqb a 0) (test_eq a b h.0) (test_eq a 0 h.1),
)

level↔ : (s : Bool) (a : ℕ) (t : Bool) (b : ℕ) → T (level s a t b) ↔ (over s a + under t b ≡ over t b + under s a)
level↔ false a false b = (λ h. omega (arith, (alike↔ a b).0 h), λ h. (alike↔ a b).1 (omega arith))
level↔ true a true b = (λ h. omega (arith, (alike↔ a b).0 h), λ h. (alike↔ a b).1 (omega arith))
level↔ false a true b = (λ h. let k = (zeros↔ a b).0 h in omega arith, λ h. (zeros↔ a b).1 (omega arith, omega arith))
level↔ true a false b = (λ h. let k = (zeros↔ a b).0 h in omega arith, λ h. (zeros↔ a b).1 (omega arith, omega arith))

pub over_mul : (s : Bool) (a d : ℕ) → over s (a * d) ≡ over s a * d
over_mul false a d = refl
over_mul true a d = sym (zero-mul d)

pub under_mul : (s : Bool) (a d : ℕ) → under s (a * d) ≡ under s a * d
under_mul true a d = refl
under_mul false a d = sym (zero-mul d)

-- Two finite values are compared by `cross` of the two and of the two exchanged: each over the product of their denominators.
abbrev pub cross : Bool → ℕ → ℤ → Bool → ℕ → ℤ → ℕ
cross s m e t n d = over s (m * up e) * down d + under t (n * up d) * down e

module _ (s : Bool) (m : ℕ) (e : ℤ) (t : Bool) (n : ℕ) (d : ℤ) where
  scaled : (over s (m * up e * down d) + under t (n * up d * down e) ≡ cross s m e t n d) × (over t (n * up d * down e) + under s (m * up e * down d) ≡ cross t n d s m e)
  scaled =
      let a = over_mul s (m * up e) (down d) in
      let b = under_mul t (n * up d) (down e) in
      let a' = over_mul t (n * up d) (down e) in
      let b' = under_mul s (m * up e) (down d) in
      (omega arith, omega arith)

  pub lt_fin : T (lt (fin s m e) (fin t n d)) ↔ (cross s m e t n d < cross t n d s m e)
  unfolding lt
  lt_fin =
      let k = scaled in
      let i = below↔ s (m * up e * down d) t (n * up d * down e) in
      (λ h. let l = i.0 h in omega arith, λ h. i.1 (omega arith))

  pub eq_fin : T (eq (fin s m e) (fin t n d)) ↔ (cross s m e t n d ≡ cross t n d s m e)
  unfolding eq
  eq_fin =
      let k = scaled in
      let i = level↔ s (m * up e * down d) t (n * up d * down e) in
      (λ h. let l = i.0 h in omega arith, λ h. i.1 (omega arith))

-- ---- `le` is `lt` or `eq`
le_cases : {x y : Float} → Le x y → T (lt x y) ⊎ T (eq x y)
unfolding le
le_cases {x} {y} h = or_cases (lt x y) (eq x y) h.test

pub le_of_lt : {x y : Float} → Lt x y → Le x y
unfolding le
le_of_lt {x} {y} h = record { test = or_left (lt x y) (eq x y) h.test }

pub le_of_eq : {x y : Float} → T (eq x y) → Le x y
unfolding le
le_of_eq {x} {y} h = record { test = or_right (lt x y) (eq x y) h }

module _ (s : Bool) (m : ℕ) (e : ℤ) (t : Bool) (n : ℕ) (d : ℤ) where
  pub le_fin→ : Le (fin s m e) (fin t n d) → cross s m e t n d ≤ cross t n d s m e
  le_fin→ h =
      elim (le_cases h) [
        | inl k ↦ let l = (lt_fin s m e t n d).0 k in omega arith
        | inr k ↦ let l = (eq_fin s m e t n d).0 k in omega arith
      ]

  pub →le_fin : cross s m e t n d ≤ cross t n d s m e → Le (fin s m e) (fin t n d)
  →le_fin h =
      elim (eq-or-lt_of_le h) [
        | inl p ↦ le_of_eq ((eq_fin s m e t n d).1 p)
        | inr q ↦ le_of_lt (record { test = (lt_fin s m e t n d).1 q })
      ]

-- ---- numbers
pub number_of_test : (x : Float) → is_nan x ≡ false → Number x
unfolding is_nan
number_of_test nan e = absurd (fails e tt)
number_of_test (inf s) e = infinite
number_of_test (fin s m e) h = finite

pub number_test : {x : Float} → Number x → is_nan x ≡ false
unfolding is_nan
number_test infinite = refl
number_test finite = refl

pub nan_or_number : (x : Float) → (x ≡ nan) ⊎ Number x
nan_or_number nan = inl refl
nan_or_number (inf s) = inr infinite
nan_or_number (fin s m e) = inr finite

pub number_no_nan : {x : Float} → Number x → x ≡ nan → ⊥
unfolding is_nan
number_no_nan X e = fails (number_test X) (subst (λ (z : Float). T (is_nan z)) (sym e) tt)

-- only a NaN differs from itself
pub ne_self : (x : Float) → ne x x ≡ is_nan x
unfolding is_nan ne
ne_self nan = refl
ne_self (inf s) = is_false (ne (inf s) (inf s)) (λ h. number_no_nan infinite (differs_from_itself (inf s) h))
ne_self (fin s m e) = is_false (ne (fin s m e) (fin s m e)) (λ h. number_no_nan finite (differs_from_itself (fin s m e) h))

-- what compares is a number
pub le_number : {x y : Float} → Le x y → Number x × Number y
unfolding le
le_number {x = nan} h = absurd h.test
le_number {x = inf s} {y = nan} h = absurd h.test
le_number {x = inf s} {y = inf t} h = (infinite, infinite)
le_number {x = inf s} {y = fin t n d} h = (infinite, finite)
le_number {x = fin s m e} {y = nan} h = absurd h.test
le_number {x = fin s m e} {y = inf t} h = (finite, infinite)
le_number {x = fin s m e} {y = fin t n d} h = (finite, finite)

pub lt_number : {x y : Float} → Lt x y → Number x × Number y
lt_number h = le_number (le_of_lt h)

pub bottom : {x : Float} → Number x → Le (inf true) x
unfolding le
bottom (infinite {s = true}) = record { test = tt }
bottom (infinite {s = false}) = record { test = tt }
bottom finite = record { test = tt }

pub top : {x : Float} → Number x → Le x (inf false)
unfolding le
top (infinite {s = true}) = record { test = tt }
top (infinite {s = false}) = record { test = tt }
top finite = record { test = tt }

pub above_top : {x : Float} → Le (inf false) x → x ≡ inf false
unfolding le
above_top {x = nan} h = absurd h.test
above_top {x = inf true} h = absurd h.test
above_top {x = inf false} h = refl
above_top {x = fin s m e} h = absurd h.test

pub below_bottom : {x : Float} → Le x (inf true) → x ≡ inf true
unfolding le
below_bottom {x = nan} h = absurd h.test
below_bottom {x = inf true} h = refl
below_bottom {x = inf false} h = absurd h.test
below_bottom {x = fin s m e} h = absurd h.test

pub eq_inf : (x : Float) (s : Bool) → T (eq x (inf s)) → x ≡ inf s
unfolding eq
eq_inf nan s h = absurd h
eq_inf (inf true) true h = refl
eq_inf (inf true) false h = absurd h
eq_inf (inf false) true h = absurd h
eq_inf (inf false) false h = refl
eq_inf (fin t m e) s h = absurd h

-- ---- a total preorder of the numbers
pub le_refl : {x : Float} → Number x → Le x x
unfolding le
le_refl (infinite {s = true}) = record { test = tt }
le_refl (infinite {s = false}) = record { test = tt }
le_refl (finite {s} {m} {e}) = →le_fin s m e s m e (omega arith)

-- what is equal is at most
pub le_back : {x y : Float} → T (eq x y) → Le y x
unfolding eq
le_back {x} {y} h = let n = le_number (le_of_eq {x = x} {y = y} h) in go h n.0 n.1
  where
    go : {x y : Float} → T (eq x y) → Number x → Number y → Le y x
    go {x} h X (infinite {s}) = rw (eq_inf x s h) (le_refl infinite)
    go h infinite finite = absurd h
    go h (finite {s} {m} {e}) (finite {s = t} {m = n} {e = d}) =
        let k = (eq_fin s m e t n d).0 h in
        →le_fin t n d s m e (omega arith)

pub top_not_bottom : inf false ≡ inf true → ⊥
unfolding le
top_not_bottom e = (subst (λ (z : Float). Le (inf false) z) e (le_refl infinite)).test

chain : (a p d b q f c r g : ℕ) → 0 < f → a * f + q * d ≤ b * d + p * f → b * g + r * f ≤ c * f + q * g → a * g + r * d ≤ c * d + p * g
chain a p d b q f c r g F h k = le_of_mul-le-mul_right (omega (arith, mul-le-mul_right g h, mul-le-mul_right d k)) F

pub le_trans : {x y z : Float} → Le x y → Le y z → Le x z
unfolding le
le_trans {x = nan} h k = absurd h.test
le_trans {x = inf true} h k = bottom (le_number k).1
le_trans {x = inf false} {z = z} h k = subst (λ y. Le y z) (above_top h) k
le_trans {x = fin s m e} {y = nan} h k = absurd h.test
le_trans {x = fin s m e} {y = inf true} h k = absurd h.test
le_trans {x = fin s m e} {y = inf false} h k = subst (λ z. Le (fin s m e) z) (sym (above_top k)) h
le_trans {x = fin s m e} {y = fin t n d} {z = nan} h k = absurd k.test
le_trans {x = fin s m e} {y = fin t n d} {z = inf true} h k = absurd k.test
le_trans {x = fin s m e} {y = fin t n d} {z = inf false} h k = top finite
le_trans {x = fin s m e} {y = fin t n d} {z = fin v o g} h k =
    →le_fin s m e v o g
    (chain (over s (m * up e)) (under s (m * up e)) (down e) (over t (n * up d)) (under t (n * up d)) (down d) (over v (o * up g)) (under v (o * up g)) (down g)
    (down_pos d) (le_fin→ s m e t n d h) (le_fin→ t n d v o g k))

pub ℕ_le_or_lt : (a b : ℕ) → (a ≤ b) ⊎ (b < a)
ℕ_le_or_lt a b = go (leb a b) (leb→le a b) (nleb→lt a b)
  where
    go : (t : Bool) → (T t → a ≤ b) → (T (not t) → b < a) → (a ≤ b) ⊎ (b < a)
    go true h k = inl (h tt)
    go false h k = inr (k tt)

pub le_or_lt : {x y : Float} → Number x → Number y → Le x y ⊎ Lt y x
unfolding lt
le_or_lt (infinite {s = true}) Y = inl (bottom Y)
le_or_lt (infinite {s = false}) (infinite {s = true}) = inr (record { test = tt })
le_or_lt (infinite {s = false}) (infinite {s = false}) = inl (top infinite)
le_or_lt (infinite {s = false}) finite = inr (record { test = tt })
le_or_lt finite (infinite {s = true}) = inr (record { test = tt })
le_or_lt finite (infinite {s = false}) = inl (top finite)
le_or_lt (finite {s} {m} {e}) (finite {s = t} {m = n} {e = d}) =
    elim (ℕ_le_or_lt (cross s m e t n d) (cross t n d s m e)) [
      | inl a ↦ inl (→le_fin s m e t n d a)
      | inr b ↦ inr (record { test = (lt_fin t n d s m e).1 b })
    ]

pub lt_not_le : {x y : Float} → Lt x y → Le y x → ⊥
unfolding le
lt_not_le {x = nan} h k = h.test
lt_not_le {x = inf true} {y = nan} h k = h.test
lt_not_le {x = inf true} {y = inf true} h k = h.test
lt_not_le {x = inf true} {y = inf false} h k = k.test
lt_not_le {x = inf true} {y = fin t n d} h k = k.test
lt_not_le {x = inf false} {y = nan} h k = h.test
lt_not_le {x = inf false} {y = inf t} h k = h.test
lt_not_le {x = inf false} {y = fin t n d} h k = h.test
lt_not_le {x = fin s m e} {y = nan} h k = h.test
lt_not_le {x = fin s m e} {y = inf true} h k = h.test
lt_not_le {x = fin s m e} {y = inf false} h k = k.test
lt_not_le {x = fin s m e} {y = fin t n d} h k =
    let a = (lt_fin s m e t n d).0 h.test in
    let b = le_fin→ t n d s m e k in
    omega arith

-- ---- what follows
pub lt_of_not_le : {x y : Float} → Number x → Number y → (Le x y → ⊥) → Lt y x
lt_of_not_le X Y n = elim (le_or_lt X Y) [ inl h ↦ absurd (n h) | inr h ↦ h ]

pub le_of_not_lt : {x y : Float} → Number x → Number y → (Lt x y → ⊥) → Le y x
le_of_not_lt X Y n = elim (le_or_lt Y X) [ inl h ↦ h | inr h ↦ absurd (n h) ]

pub lt_le_trans : {x y z : Float} → Lt x y → Le y z → Lt x z
lt_le_trans h k = lt_of_not_le (le_number k).1 (lt_number h).0 (λ l. lt_not_le h (le_trans k l))
