-- The smaller and the greater of two floats, where a NaN is passed over and a zero is +0. Assumes nothing.
use mathlib.Core.Path.{◌≡◌, refl, sym, subst}
use mathlib.Core.Bool.{Bool, true, false, cond}
use lib.Dec.{T}
use lib.Ieee.{Float, Format, lt, is_nan, fits}
use Rattle.sedona_geometry.specs.Float.{plus_zero, min_num, max_num}
use Rattle.sedona_geometry.proofs.Booleans.{fails, holds}
use Rattle.sedona_geometry.proofs.Order.{Number, Le, number_of_test, number_test, le_trans, le_of_lt, le_of_not_lt, le_number}
use Rattle.sedona_geometry.proofs.PlusZero.{plus_le, le_plus, plus_fits}

-- r is the one of x and y that comes first in the order R, where a NaN comes last; made +0.
data First (R : Float → Float → Type 0) (x y r : Float) : Type 0 where
  left : r ≡ plus_zero x → Number x → (Number y → R x y) → First R x y r
  right : r ≡ plus_zero y → (Number x → R y x) → First R x y r

abbrev Ge : Float → Float → Type 0
Ge x y = Le y x

choose : (R : Float → Float → Type 0) (x y : Float) (a b : Bool) → is_nan x ≡ a → (T b → R y x) → ((T b → ⊥) → Number x → Number y → R x y)
    → First R x y (plus_zero (cond a y (cond b y x)))
choose R x y true b e h k = right refl (λ X. absurd (fails (number_test X) (holds e)))
choose R x y false true e h k = right refl (λ X. h tt)
choose R x y false false e h k = left refl (number_of_test x e) (λ Y. k (λ z. z) (number_of_test x e) Y)

min_first : (x y : Float) → First Le x y (min_num x y)
unfolding min_num
min_first x y = choose Le x y (is_nan x) (lt y x) refl (λ h. le_of_lt (record { test = h })) (λ n X Y. le_of_not_lt Y X (λ h. n h.test))

max_first : (x y : Float) → First Ge x y (max_num x y)
unfolding max_num
max_first x y = choose Ge x y (is_nan x) (lt x y) refl (λ h. le_of_lt (record { test = h })) (λ n X Y. le_of_not_lt X Y (λ h. n h.test))

-- ---- what holds in either order
either : {R : Float → Float → Type 0} {x y r : Float} → First R x y r → (P : Float → Type 0) → P (plus_zero x) → P (plus_zero y) → P r
either (left e X h) P p q = subst P (sym e) p
either (right e h) P p q = subst P (sym e) q

module _ (R : Float → Float → Type 0) (trans : (x y z : Float) → R x y → R y z → R x z) (number : (x y : Float) → R x y → Number x) (plus : (x y : Float) → R x y → R (plus_zero x) y) where
  before_left : (x y r v : Float) → First R x y r → R x v → R r v
  before_left x y r v (left e X h) k = subst (λ z. R z v) (sym e) (plus x v k)
  before_left x y r v (right e h) k = subst (λ z. R z v) (sym e) (plus y v (trans y x v (h (number x v k)) k))

  before_right : (x y r v : Float) → First R x y r → R y v → R r v
  before_right x y r v (left e X h) k = subst (λ z. R z v) (sym e) (plus x v (trans x y v (h (number y v k)) k))
  before_right x y r v (right e h) k = subst (λ z. R z v) (sym e) (plus y v k)

-- ---- the smaller
pub min_le_left : {x v : Float} (y : Float) → Le x v → Le (min_num x y) v
min_le_left {x} {v} y h = before_left Le (λ x y z. le_trans) (λ x y k. (le_number k).0) (λ x y. plus_le) x y (min_num x y) v (min_first x y) h

pub min_le_right : (x : Float) {y v : Float} → Le y v → Le (min_num x y) v
min_le_right x {y} {v} h = before_right Le (λ x y z. le_trans) (λ x y k. (le_number k).0) (λ x y. plus_le) x y (min_num x y) v (min_first x y) h

pub min_greatest : {x y v : Float} → Le v x → Le v y → Le v (min_num x y)
min_greatest {x} {y} {v} h k = either (min_first x y) (λ z. Le v z) (le_plus h) (le_plus k)

pub min_fits : (f : Format) (x y : Float) → T (fits f x) → T (fits f y) → T (fits f (min_num x y))
min_fits f x y X Y = either (min_first x y) (λ z. T (fits f z)) (plus_fits f x X) (plus_fits f y Y)

-- ---- the greater
pub max_ge_left : {x v : Float} (y : Float) → Le v x → Le v (max_num x y)
max_ge_left {x} {v} y h = before_left Ge (λ x y z h k. le_trans k h) (λ x y k. (le_number k).1) (λ x y. le_plus) x y (max_num x y) v (max_first x y) h

pub max_ge_right : (x : Float) {y v : Float} → Le v y → Le v (max_num x y)
max_ge_right x {y} {v} h = before_right Ge (λ x y z h k. le_trans k h) (λ x y k. (le_number k).1) (λ x y. le_plus) x y (max_num x y) v (max_first x y) h

pub max_least : {x y v : Float} → Le x v → Le y v → Le (max_num x y) v
max_least {x} {y} {v} h k = either (max_first x y) (λ z. Le z v) (plus_le h) (plus_le k)

pub max_fits : (f : Format) (x y : Float) → T (fits f x) → T (fits f y) → T (fits f (max_num x y))
max_fits f x y X Y = either (max_first x y) (λ z. T (fits f z)) (plus_fits f x X) (plus_fits f y Y)
