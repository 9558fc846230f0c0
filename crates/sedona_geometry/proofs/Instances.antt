-- The hypotheses of the laws can be met: by a wrapped x, one that crosses its end, one with NaN and a value between its ends, and by two boxes
-- around a third. And what an x contains, and what calls give of −0, is computed. Assumes nothing.
use Rattle.std.specs.Prelude.{Some, None, Ok, Err}
use mathlib.Core.Path.{◌≡◌, refl, ap}
use mathlib.Core.Bool.{Bool, true, false, ◌&&◌}
use mathlib.Core.List.{List, [], ◌∷◌}
use mathlib.Core.Logic.{inl, inr}
use Prim.Native.Nat.{ℕ, ◌^◌}
use lib.IntN.{pos}
use lib.Dec.{T}
use lib.Ieee.{Float, nan, inf, fin, binary64, fits, add, sub, div, neg, sum, lt, le, eq, is_nan, round, of_int, of_bits, to_bits}
use Rattle.sedona_geometry.specs.Float as float
use Rattle.sedona_geometry.specs.Interval as interval
use Rattle.sedona_geometry.specs.Lists.{All}
use Rattle.sedona_geometry.specs.WraparoundInterval as wraparound
use Rattle.sedona_geometry.specs.BoundingBox.{xyzm, test_known, dimensions_contain, with_x, intersection, intersects, contains, merge_box, Doubles, EqualNumbers, bits, NoLess, Common}
use Rattle.sedona_geometry.specs.declared.interval.Interval.{Interval}
use Rattle.sedona_geometry.specs.declared.interval.WraparoundInterval.{WraparoundInterval}
use Rattle.sedona_geometry.specs.Error as error
use Rattle.sedona_geometry.specs.declared.error.Refusal.TheVariants.{TwoParts, Wrapped}
use Rattle.sedona_geometry.specs.declared.bounding_box.BoundingBox.{BoundingBox}
use Rattle.sedona_geometry.proofs.Booleans.{holds, fails}
use Rattle.sedona_geometry.proofs.Order.{Number, Lt, number_of_test}
use Rattle.sedona_geometry.proofs.PlusZero.{zeros}
use Rattle.sedona_geometry.proofs.Alike.{same_itself, boxes_merge_alike}
use Rattle.sedona_geometry.proofs.Canonical.{xyzm_canonical}
use Rattle.sedona_geometry.proofs.Keys.{same_bits}
use Rattle.sedona_geometry.proofs.Wrapping as wrapping
use Rattle.sedona_geometry.proofs.Contains.{Straight, ordered, one_by_one_contains, merge_contains, x_intersection_accepts}
use Rattle.sedona_geometry.proofs.Boxes as boxes
use Rattle.sedona_geometry.proofs.Boxes.{Parts, LowToHigh, met}

abbrev plus : ℕ → Float
plus n = of_int binary64 (pos n)

-- ---- x
abbrev pub wrapped : WraparoundInterval
wrapped = wraparound.new (plus 170) (plus 10)

abbrev crossing : WraparoundInterval
crossing = wraparound.new (plus 5) (plus 20)

wraps : wraparound.is_wraparound wrapped ≡ true
unfolding sub lt eq is_nan round of_int interval.is_empty wraparound.is_wraparound
wraps = refl

wrapped_doubles : interval.Doubles wrapped.inner
unfolding fits round of_int
wrapped_doubles = record { lo = tt; hi = tt }

crossing_doubles : interval.Doubles crossing.inner
unfolding fits round of_int
crossing_doubles = record { lo = tt; hi = tt }

pub common_x : wraparound.Common wrapped crossing
unfolding fits sub lt le eq is_nan round of_int interval.intersects_value interval.is_empty wraparound.is_wraparound wraparound.split wraparound.intersects_value
common_x = record { number = plus 7; double = tt; left = record { holds = refl }; right = record { holds = refl } }

pub they_intersect : wraparound.intersects_interval wrapped crossing ≡ true
they_intersect = wrapping.common_intersect common_x.left common_x.right

pub merged_accepts : wraparound.Accepts (wraparound.merge_interval wrapped crossing) common_x.number
merged_accepts = wrapping.merge_accepts wrapped_doubles crossing_doubles (inr common_x.right)

-- a value that the wrapped x does not accept: it lies between the ends, and both distances are above 0
abbrev pub value : Float
value = plus 90

value_fits : T (fits binary64 value)
unfolding fits round of_int
value_fits = tt

value_number : Number value
unfolding is_nan round of_int
value_number = number_of_test value refl

not_accepted : wraparound.intersects_value wrapped value ≡ false
unfolding sub lt le eq is_nan round of_int interval.intersects_value interval.is_empty wraparound.is_wraparound wraparound.split wraparound.intersects_value
not_accepted = refl

pub distances : Lt float.zero (sub binary64 value wrapped.inner.hi) × Lt float.zero (sub binary64 wrapped.inner.lo value)
distances = wrapping.distances_positive {x = wrapped} {v = value} wrapped_doubles value_fits wraps value_number (λ h. fails not_accepted (holds h.holds))

pub value_accepted : wraparound.Accepts (wraparound.merge_value wrapped value) value
value_accepted = wrapping.merge_value_accepts wrapped_doubles value_fits value_number

pub number_kept : wraparound.Accepts (wraparound.merge_value wrapped value) common_x.number
number_kept = wrapping.merge_value_keeps value wrapped_doubles value_fits common_x.left

-- ---- what an x contains, as request 5 has it: computed
abbrev Answers : WraparoundInterval → List (WraparoundInterval × Bool) → Type 0
Answers x [] = Unit {0}
Answers x ((k, b) ∷ ks) = (wraparound.contains_interval x k ≡ b) × Answers x ks

abbrev minus : ℕ → Float
minus n = neg (plus n)

-- (MAX, −MAX), empty since its width rounds to −inf
abbrev rounded_empty : WraparoundInterval
rounded_empty = wraparound.new (of_bits binary64 0x7fef_ffff_ffff_ffff) (neg (of_bits binary64 0x7fef_ffff_ffff_ffff))

-- the smallest double above 0
abbrev smallest : Float
smallest = of_bits binary64 1

pub of_a_strip : Answers (wraparound.new (plus 170) (minus 170))
    (
    (wraparound.new (plus 175) (plus 178), true)
    ∷ (wraparound.new (minus 178) (minus 175), true)
    ∷ (wraparound.new (plus 160) (plus 178), false)
    ∷ (wraparound.new (plus 170) (minus 170), true)
    ∷ (wraparound.new (plus 171) (minus 171), true)
    ∷ (wraparound.new (plus 169) (minus 170), false)
    ∷ (wraparound.full, false)
    ∷ (wraparound.empty, true)
    ∷ (rounded_empty, true)
    ∷ (wraparound.new (plus 175) nan, false)
    ∷ []
    )
unfolding sub neg lt le eq is_nan round of_int of_bits interval.contains_interval interval.is_empty wraparound.is_wraparound wraparound.split wraparound.pieces_contain wraparound.contains_interval
of_a_strip = (refl, (refl, (refl, (refl, (refl, (refl, (refl, (refl, (refl, (refl, tt))))))))))

pub of_the_plane : Answers (wraparound.new (minus 180) (plus 180)) ((wraparound.new (plus 170) (minus 170), false) ∷ (wraparound.new (minus 180) (plus 180), true) ∷ [])
unfolding sub neg lt le eq is_nan round of_int interval.contains_interval interval.is_empty wraparound.is_wraparound wraparound.split wraparound.pieces_contain wraparound.contains_interval
of_the_plane = (refl, (refl, tt))

pub of_all : Answers wraparound.full ((wraparound.new (plus 170) (minus 170), true) ∷ (wraparound.full, true) ∷ (wraparound.empty, true) ∷ (wraparound.new nan (plus 1), false) ∷ [])
unfolding sub neg lt le eq is_nan round of_int interval.contains_interval interval.is_empty wraparound.is_wraparound wraparound.split wraparound.pieces_contain wraparound.contains_interval
of_all = (refl, (refl, (refl, (refl, tt))))

pub of_nan : Answers (wraparound.new nan (plus 5)) ((wraparound.new (plus 1) (plus 2), false) ∷ (wraparound.new nan (plus 5), false) ∷ (wraparound.empty, true) ∷ (rounded_empty, true) ∷ [])
unfolding sub neg lt le eq is_nan round of_int of_bits interval.contains_interval interval.is_empty wraparound.is_wraparound wraparound.split wraparound.pieces_contain wraparound.contains_interval
of_nan = (refl, (refl, (refl, (refl, tt))))

-- No double lies in the gap, and yet (0, 1) lies in no piece.
pub of_a_gap_without_a_double : Answers (wraparound.new smallest (plus 0)) ((wraparound.new (plus 0) (plus 1), false) ∷ (wraparound.new (plus 0) (plus 0), true) ∷ [])
unfolding sub lt le eq is_nan round of_int of_bits interval.contains_interval interval.is_empty wraparound.is_wraparound wraparound.split wraparound.pieces_contain wraparound.contains_interval
of_a_gap_without_a_double = (refl, (refl, tt))

-- a merge keeps it: of a wrapped x and one with NaN, what lies across
abbrev pub across : WraparoundInterval
across = wraparound.new (plus 175) (plus 5)

abbrev pub half_known : WraparoundInterval
half_known = wraparound.new nan (plus 3)

half_known_doubles : interval.Doubles half_known.inner
unfolding fits round of_int
half_known_doubles = record { lo = tt; hi = tt }

one_by_one : wraparound.contains_one_by_one wrapped across ≡ true
unfolding sub lt le eq is_nan round of_int interval.contains_interval interval.is_empty wraparound.is_wraparound wraparound.split wraparound.contains_one_by_one
one_by_one = refl

pub across_kept : wraparound.contains_interval (wraparound.merge_interval half_known wrapped) across ≡ true
across_kept = merge_contains half_known_doubles wrapped_doubles across (inr (one_by_one_contains wrapped across one_by_one))

-- ---- boxes: a and b, of which one knows z and the other m, around k
abbrev pub a : BoundingBox
a = xyzm (wraparound.new (plus 0) (plus 10)) (interval.new (plus 0) (plus 10)) (Some (interval.new (plus 0) (plus 10))) None

abbrev pub b : BoundingBox
b = xyzm (wraparound.new (plus 1) (plus 20)) (interval.new (plus 0) (plus 20)) None (Some (interval.new (plus 1) (plus 4)))

abbrev k : BoundingBox
k = xyzm (wraparound.new (plus 2) (plus 3)) (interval.new (plus 2) (plus 3)) (Some (interval.new (plus 2) (plus 3))) (Some (interval.new (plus 2) (plus 3)))

pub a_doubles : Doubles a
unfolding fits round of_int
a_doubles = record { x = record { lo = tt; hi = tt }; y = record { lo = tt; hi = tt }; z = record { lo = tt; hi = tt }; m = tt }

pub b_doubles : Doubles b
unfolding fits round of_int
b_doubles = record { x = record { lo = tt; hi = tt }; y = record { lo = tt; hi = tt }; z = tt; m = record { lo = tt; hi = tt } }

k_doubles : Doubles k
unfolding fits round of_int
k_doubles = record { x = record { lo = tt; hi = tt }; y = record { lo = tt; hi = tt }; z = record { lo = tt; hi = tt }; m = record { lo = tt; hi = tt } }

a_straight : Straight a.x
unfolding lt le eq round of_int
a_straight = ordered (record { test = tt })

b_straight : Straight b.x
unfolding lt le eq round of_int
b_straight = ordered (record { test = tt })

k_low_to_high : LowToHigh k
unfolding lt le eq round of_int
k_low_to_high = record { x = record { test = tt }; y = record { test = tt }; z = record { test = tt }; m = record { test = tt } }

a_contains : Parts a k
unfolding sub lt le eq is_nan round of_int interval.contains_interval interval.is_empty wraparound.is_wraparound wraparound.split wraparound.pieces_contain wraparound.contains_interval test_known
a_contains = record { x = refl; y = record { holds = refl }; z = refl; m = refl }

b_contains : Parts b k
unfolding sub lt le eq is_nan round of_int interval.contains_interval interval.is_empty wraparound.is_wraparound wraparound.split wraparound.pieces_contain wraparound.contains_interval test_known
b_contains = record { x = refl; y = record { holds = refl }; z = refl; m = refl }

pub a_contains_as_the_rust : contains a k
    ≡ (wraparound.contains_one_by_one a.x k.x && interval.contains_interval a.y k.y && dimensions_contain a.z k.z && dimensions_contain a.m k.m)
unfolding sub lt eq is_nan round of_int interval.is_empty wraparound.is_wraparound
a_contains_as_the_rust = boxes.contains_as_the_rust a k refl refl refl

pub common : Common a b
unfolding fits sub lt le eq is_nan round of_int interval.intersects_value interval.is_empty wraparound.is_wraparound wraparound.split wraparound.intersects_value
common = record {
  x = record { number = plus 2; double = tt; left = record { holds = refl }; right = record { holds = refl } };
  y = record { number = plus 2; double = tt; left = record { holds = refl }; right = record { holds = refl } };
  z = tt;
  m = tt;
}

pub boxes_intersect : intersects a b ≡ true
boxes_intersect = boxes.common_intersect common

pub merged_no_less : NoLess (merge_box a b) a
merged_no_less = boxes.merge_no_less_left a_doubles b_doubles

pub merged_contains : Parts (merge_box a b) k
merged_contains = boxes.merge_contains a_doubles b_doubles (inl a_contains)

pub met_contains : Parts (met a b) k
met_contains = boxes.intersection_contains a_doubles b_doubles k_doubles a_straight b_straight k_low_to_high a_contains b_contains

pub met_accepts : wraparound.Accepts (met a b).x common.x.number
unfolding lt le eq round of_int
met_accepts = (x_intersection_accepts a_doubles.x b_doubles.x (record { test = tt }) (record { test = tt })).1 (common.x.left, common.x.right)

-- ---- request 6: −0, as a caller fills it in, and what calls give of it
abbrev minus_zero : Float
minus_zero = fin true 0 (pos 0)

-- it is the double with the sign's bit alone, and the one that `is_minus_zero` names
pub minus_zero_bits : (to_bits binary64 minus_zero ≡ 2 ^ 63) × (of_bits binary64 (2 ^ 63) ≡ minus_zero) × (float.is_minus_zero minus_zero ≡ true)
unfolding to_bits of_bits
minus_zero_bits = (refl, refl, refl)

abbrev pub signed : Interval
signed = record { lo = minus_zero; hi = minus_zero }

abbrev pub unsigned : Interval
unsigned = record { lo = float.zero; hi = float.zero }

abbrev pub signed_x : WraparoundInterval
signed_x = record { inner = signed }

abbrev pub unsigned_x : WraparoundInterval
unsigned_x = record { inner = unsigned }

-- −0 is no +0 as data, so what follows says something
pub they_differ : signed ≡ unsigned → ⊥
they_differ e = fails (ap (λ (i : Interval). float.is_minus_zero i.lo) e) tt

-- every zero that a call gives of it is +0: computed
pub plus_zeros : All (λ (c : Interval × Interval). c.0 ≡ c.1) (
    -- made, handed on by an expansion that changes nothing, expanded by −0
    (interval.new minus_zero minus_zero, unsigned) ∷
    (interval.expand_by signed nan, unsigned) ∷
    (interval.expand_by signed minus_zero, unsigned) ∷
    -- merged, in either order, and with a value; what both hold
    (interval.merge_interval signed unsigned, unsigned) ∷
    (interval.merge_interval unsigned signed, unsigned) ∷
    (interval.merge_value signed minus_zero, unsigned) ∷
    (interval.merge_value (record { lo = nan; hi = nan }) minus_zero, unsigned) ∷
    (interval.intersection signed signed, unsigned) ∷
    -- an x made, made of an interval, merged with an empty one on either side, with a value that it accepts, and with NaN
    ((wraparound.new minus_zero minus_zero).inner, unsigned) ∷
    ((wraparound.from_interval signed).inner, unsigned) ∷
    ((wraparound.merge_interval wraparound.empty signed_x).inner, unsigned) ∷
    ((wraparound.merge_interval signed_x wraparound.empty).inner, unsigned) ∷
    ((wraparound.merge_interval signed_x signed_x).inner, unsigned) ∷
    ((wraparound.merge_value signed_x minus_zero).inner, unsigned) ∷
    ((wraparound.merge_value signed_x nan).inner, unsigned) ∷
    ((wraparound.expand_by signed_x nan).inner, unsigned) ∷
    -- its piece, and those of a wrapped one
    ((wraparound.split signed_x).left, unsigned) ∷
    ((wraparound.split (record { inner = record { lo = plus 1; hi = minus_zero } })).left, record { lo = inf true; hi = float.zero }) ∷
    ((wraparound.split (record { inner = record { lo = minus_zero; hi = minus 1 } })).right, record { lo = float.zero; hi = inf false }) ∷
    [])
unfolding add sub div neg sum round lt le eq is_nan of_int float.min_num float.max_num interval.intersects_value interval.is_empty interval.is_unmoved_by interval.expand_by interval.merge_interval interval.merge_value interval.intersection wraparound.is_wraparound wraparound.split wraparound.intersects_value wraparound.merge_non_empty wraparound.merge_interval wraparound.merge_value wraparound.expand_by
plus_zeros = (refl, (refl, (refl, (refl, (refl, (refl, (refl, (refl, (refl, (refl, (refl, (refl, (refl, (refl, (refl, (refl, (refl, (refl, (refl, tt)))))))))))))))))))

pub plus_zero_converted : wraparound.try_into_interval signed_x ≡ Ok unsigned
unfolding sub neg sum round lt eq interval.is_empty wraparound.is_wraparound wraparound.try_into_interval
plus_zero_converted = refl

-- what a wrapped x holds of another that wraps at −0 as well
pub plus_zero_met : wraparound.intersection (record { inner = record { lo = plus 1; hi = minus_zero } }) (record { inner = record { lo = plus 1; hi = minus_zero } }) ≡ Ok (record { inner = record { lo = plus 1; hi = float.zero } })
unfolding sub neg sum round lt le eq is_nan of_int float.min_num float.max_num interval.is_empty interval.intersects_interval interval.merge_interval wraparound.is_wraparound wraparound.intersect_wrapped wraparound.intersection
plus_zero_met = refl

-- two boxes of the same numbers: made of −0, and of +0. They are canonical, so they are one, and have the same bits
abbrev of_minus : BoundingBox
of_minus = xyzm signed_x signed (Some signed) None

abbrev of_plus : BoundingBox
of_plus = xyzm unsigned_x unsigned (Some unsigned) None

zeros_double : {a : BoundingBox} → a ≡ of_plus → Doubles a
unfolding fits
zeros_double e = rw e (record { x = record { lo = tt; hi = tt }; y = record { lo = tt; hi = tt }; z = record { lo = tt; hi = tt }; m = tt })

equal_numbers : EqualNumbers of_minus of_plus
unfolding eq
equal_numbers = record { x = record { lo = refl; hi = refl }; y = record { lo = refl; hi = refl }; z = record { lo = refl; hi = refl }; m = tt }

pub one_key : bits of_minus ≡ bits of_plus
one_key = same_bits (zeros_double refl) (zeros_double refl) (xyzm_canonical signed_x signed (Some signed) None) (xyzm_canonical unsigned_x unsigned (Some unsigned) None) equal_numbers

-- and a call that is lent −0 does what it does of +0
pub merged_alike : merge_box (record { x = signed_x; y = signed; z = Some signed; m = None }) a ≡ merge_box (record { x = unsigned_x; y = unsigned; z = Some unsigned; m = None }) a
merged_alike =
    boxes_merge_alike
    (record { x = record { lo = zeros; hi = zeros }; y = record { lo = zeros; hi = zeros }; z = record { lo = zeros; hi = zeros }; m = tt })
    (same_itself a)

-- ---- the numbers, as numerals: 2 for an x that wraps and should not, 1 for what would have two parts, of an x and of a box
pub two_of_wrapped : (wraparound.try_into_interval (wraparound.new (plus 20) (plus 10)) ≡ Err Wrapped) × (error.number Wrapped ≡ 2)
unfolding sub neg sum round lt eq of_int interval.is_empty wraparound.is_wraparound wraparound.try_into_interval
two_of_wrapped = (refl, refl)

pub one_of_parts : (wraparound.intersection (wraparound.new (plus 0) (plus 30)) (wraparound.new (plus 20) (plus 10)) ≡ Err TwoParts)
    × (wraparound.intersection (wraparound.new (plus 20) (plus 10)) (wraparound.new (plus 50) (plus 40)) ≡ Err TwoParts)
    × (error.number TwoParts ≡ 1)
    × ((intersection (xyzm (wraparound.new (plus 0) (plus 30)) interval.full None None) (xyzm (wraparound.new (plus 20) (plus 10)) interval.full None None)).number ≡ 1)
unfolding sub neg sum round lt le eq is_nan of_int float.min_num float.max_num interval.is_empty interval.intersects_interval interval.merge_interval wraparound.is_wraparound wraparound.split wraparound.intersect_plain wraparound.intersect_wrapped wraparound.intersection with_x intersection
one_of_parts = (refl, refl, refl, refl)
