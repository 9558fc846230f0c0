-- Request 6: two canonical boxes that are equal as numbers are equal, and so are their bits; and what is handed on is equal as numbers. Assumes nothing.
use Rattle.std.specs.Prelude.{Option, Some, None}
use mathlib.Core.Path.{◌≡◌, refl, sym, ap, ap₂, ◌∙◌}
use mathlib.Core.Bool.{true, false}
use lib.Dec.{T}
use lib.Ieee.{Float, binary64, eq, ne, fits}
use borrow.Author.Tests.{not-false}
use Rattle.sedona_geometry.specs.Float.{plus_zero, is_minus_zero}
use Rattle.sedona_geometry.specs.Interval as interval
use Rattle.sedona_geometry.specs.BoundingBox.{WhereKnown, KnownAlike, Doubles, Canonical, EqualNumbers, bits}
use Rattle.sedona_geometry.specs.declared.interval.Interval.{Interval}
use Rattle.sedona_geometry.specs.declared.bounding_box.BoundingBox.{BoundingBox}
use Rattle.sedona_geometry.proofs.Booleans.{holds}
use Rattle.sedona_geometry.proofs.Order.{Number, ne_self, number_test}
use Rattle.sedona_geometry.proofs.PlusZero.{same, alike_plus, stays, plus_alike, eq_alike}
use Rattle.sedona_geometry.proofs.Exact.{equal_alike}

-- ---- equal as numbers, and no −0
pub same_double : (x y : Float) → T (fits binary64 x) → T (fits binary64 y) → is_minus_zero x ≡ false → is_minus_zero y ≡ false → eq x y ≡ true → x ≡ y
same_double x y F G c d e = sym (stays x c) ∙ plus_alike (equal_alike binary64 x y F G (holds e)) ∙ stays y d

pub same_interval : {i j : Interval} → interval.Doubles i → interval.Doubles j → interval.Canonical i → interval.Canonical j → interval.EqualNumbers i j → i ≡ j
same_interval {i} {j} D E c d e =
    ap₂ (λ (l h : Float). record { lo = l; hi = h }) (same_double i.lo j.lo D.lo E.lo c.lo d.lo e.lo) (same_double i.hi j.hi D.hi E.hi c.hi d.hi e.hi)

same_dimension : (d e : Option Interval) → WhereKnown interval.Doubles d → WhereKnown interval.Doubles e → WhereKnown interval.Canonical d → WhereKnown interval.Canonical e → KnownAlike interval.EqualNumbers d e → d ≡ e
same_dimension None None D E c k h = refl
same_dimension None (Some j) D E c k h = absurd h
same_dimension (Some i) None D E c k h = absurd h
same_dimension (Some i) (Some j) D E c k h = ap (λ (l : Interval). Some l) (same_interval D E c k h)

-- "Two such boxes without NaN whose known dimensions are equal as numbers": the same box
pub same_box : {a b : BoundingBox}
    -- of doubles, as all in the code are
    → Doubles a → Doubles b
    -- "such boxes": with no −0, as every call gives them
    → Canonical a → Canonical b
    -- "equal as numbers", the same dimensions known; so "without NaN"
    → EqualNumbers a b
    → a ≡ b
same_box {a} {b} D E c d e =
    let x = same_interval D.x E.x c.x d.x e.x in
    let y = same_interval D.y E.y c.y d.y e.y in
    let z = same_dimension a.z b.z D.z E.z c.z d.z e.z in
    let m = same_dimension a.m b.m D.m E.m c.m d.m e.m in
    λ i. record { x = record { inner = x i }; y = y i; z = z i; m = m i }

-- and it has "equal bytes there"
pub same_bits : {a b : BoundingBox} → Doubles a → Doubles b → Canonical a → Canonical b → EqualNumbers a b → bits a ≡ bits b
same_bits D E c d e = ap bits (same_box D E c d e)

-- ---- what is handed on
equal_itself : {x : Float} → Number x → eq x x ≡ true
unfolding ne
equal_itself {x} X = not-false (eq x x) (ne_self x ∙ number_test X)

pub plus_equal : {x : Float} → Number x → eq (plus_zero x) x ≡ true
plus_equal {x} X = eq_alike (alike_plus x) (same {x = x}) ∙ equal_itself X

pub plus_equal_interval : {i : Interval} → Number i.lo → Number i.hi → interval.EqualNumbers (interval.plus_zero i) i
plus_equal_interval L H = record { lo = plus_equal L; hi = plus_equal H }
