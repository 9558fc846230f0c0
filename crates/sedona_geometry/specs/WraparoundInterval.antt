-- `WraparoundInterval` of interval.rs, method by method; but what an x contains is by request 5.
use Rattle.std.specs.Prelude.{◌≡◌, Bool, true, false, not, ◌&&◌, ◌||◌, cond, T, Float, Result, Ok, Err}
use Rattle.std.specs.Float.{inf, binary64}
use Rattle.std.specs.Float.Ieee.{add, sub, lt, le, is_nan, fits}
use Rattle.sedona_geometry.specs.Float as float
use Rattle.sedona_geometry.specs.Interval as interval
use Rattle.sedona_geometry.specs.declared.interval.Interval.{Interval}
use Rattle.sedona_geometry.specs.declared.interval.WraparoundInterval.{WraparoundInterval}
use Rattle.sedona_geometry.specs.declared.interval.Pieces.{Pieces}
use Rattle.sedona_geometry.specs.declared.error.Refusal.{Refusal}
use Rattle.sedona_geometry.specs.declared.error.Refusal.TheVariants.{TwoParts, Wrapped}

abbrev pub new : Float → Float → WraparoundInterval
new lo hi = record { inner = interval.new lo hi }

abbrev pub from_interval : Interval → WraparoundInterval
from_interval i = new i.lo i.hi

-- An x as a call hands it on.
abbrev pub plus_zero : WraparoundInterval → WraparoundInterval
plus_zero x = from_interval x.inner

abbrev pub empty : WraparoundInterval
empty = from_interval interval.empty

abbrev pub full : WraparoundInterval
full = from_interval interval.full

abbrev pub is_empty : WraparoundInterval → Bool
is_empty x = interval.is_empty x.inner

abbrev pub is_full : WraparoundInterval → Bool
is_full x = interval.is_full x.inner

-- Wrapping: not empty, and the rounded width is below 0.
unfoldable pub is_wraparound : WraparoundInterval → Bool
is_wraparound x = not (is_empty x) && lt (interval.width x.inner) float.zero

-- A wrapped x is refused with 2.
unfoldable pub try_into_interval : WraparoundInterval → Result Interval Refusal
try_into_interval x = cond (is_wraparound x) (Err Wrapped) (Ok (interval.plus_zero x.inner))

-- The pieces of a wrapped x: (−inf, hi) and (lo, inf).
abbrev pub wrapped_pieces : Interval → Pieces
wrapped_pieces i = record { left = interval.new (inf true) i.hi; right = interval.new i.lo (inf false) }

unfoldable pub split : WraparoundInterval → Pieces
split x = cond (is_wraparound x) (wrapped_pieces x.inner) (record { left = interval.plus_zero x.inner; right = interval.empty })

-- The x accepts the value: one of its pieces does.
unfoldable pub intersects_value : WraparoundInterval → Float → Bool
intersects_value x v = interval.intersects_value (split x).left v || interval.intersects_value (split x).right v

-- 01's "accepts".
pub record Accepts (x : WraparoundInterval) (v : Float) : Type 0 where
  pub holds : intersects_value x v ≡ true

-- 01's "common number": a double that both accept.
pub record Common (x y : WraparoundInterval) : Type 0 where
  pub number : Float
  pub double : T (fits binary64 number)
  pub left : Accepts x number
  pub right : Accepts y number

-- The interval intersects one of the pieces.
unfoldable pub pieces_intersect : Pieces → Interval → Bool
pieces_intersect p i = interval.intersects_interval i p.left || interval.intersects_interval i p.right

-- Some pair of pieces intersects.
unfoldable pub intersects_interval : WraparoundInterval → WraparoundInterval → Bool
intersects_interval x y = pieces_intersect (split y) (split x).left || pieces_intersect (split y) (split x).right

-- The interval is empty, or lies inside one of the pieces. One with NaN is not empty, and lies in none.
unfoldable pub pieces_contain : Pieces → Interval → Bool
pieces_contain p i = interval.is_empty i || interval.contains_interval p.left i || interval.contains_interval p.right i

-- Request 5: "every non-empty piece of the other lies inside some piece of the first by plain `contains_interval`".
unfoldable pub contains_interval : WraparoundInterval → WraparoundInterval → Bool
contains_interval x y = pieces_contain (split x) (split y).left && pieces_contain (split x) (split y).right

-- As the Rust has it: the first piece contains the first, the second the second.
unfoldable pub contains_one_by_one : WraparoundInterval → WraparoundInterval → Bool
contains_one_by_one x y =
    interval.contains_interval (split x).left (split y).left && interval.contains_interval (split x).right (split y).right

unfoldable pub width : WraparoundInterval → Float
width x = cond (is_wraparound x) (inf false) (interval.width x.inner)

unfoldable pub mid : WraparoundInterval → Float
mid x = cond (is_wraparound x) (inf false) (interval.mid x.inner)

-- The wrapped x of two pieces; full where they meet.
unfoldable pub from_pieces : Interval → Interval → WraparoundInterval
from_pieces left right = cond (interval.intersects_interval left right) full (new right.lo left.hi)

-- Two wrapped x: left pieces merged, right pieces merged.
unfoldable pub merge_wrapped : WraparoundInterval → WraparoundInterval → WraparoundInterval
merge_wrapped x y =
    from_pieces (interval.merge_interval (split x).left (split y).left) (interval.merge_interval (split x).right (split y).right)

-- The plain y is nearer the left piece of the wrapped x than the right one. Equal or NaN distances are not.
unfoldable pub nearer_left : WraparoundInterval → WraparoundInterval → Bool
nearer_left x y = lt (float.abs (sub binary64 (mid y) (split x).left.hi)) (float.abs (sub binary64 (mid y) (split x).right.lo))

-- A wrapped x and a plain y, which joins the nearer piece.
unfoldable pub merge_plain : WraparoundInterval → WraparoundInterval → WraparoundInterval
merge_plain x y =
    cond (nearer_left x y)
    (from_pieces (interval.merge_interval (split x).left y.inner) (split x).right)
    (from_pieces (split x).left (interval.merge_interval (split x).right y.inner))

-- By which of the two wrap.
unfoldable pub merge_non_empty : WraparoundInterval → WraparoundInterval → WraparoundInterval
merge_non_empty x y =
    cond (is_wraparound x)
    (cond (is_wraparound y) (merge_wrapped x y) (merge_plain x y))
    (cond (is_wraparound y) (merge_plain y x) (from_interval (interval.merge_interval x.inner y.inner)))

-- An empty operand yields the other.
unfoldable pub merge_interval : WraparoundInterval → WraparoundInterval → WraparoundInterval
merge_interval x y = cond (is_empty x) (plus_zero y) (cond (is_empty y) (plus_zero x) (merge_non_empty x y))

-- A wrapped x moves the end that is nearer the value, at a tie lo.
unfoldable pub move_end : WraparoundInterval → Float → WraparoundInterval
move_end x v =
    cond (lt (sub binary64 v x.inner.hi) (sub binary64 x.inner.lo v)) (new x.inner.lo v) (new v x.inner.hi)

unfoldable pub merge_value : WraparoundInterval → Float → WraparoundInterval
merge_value x v =
    cond (intersects_value x v || is_nan v) (plus_zero x)
    (cond (not (is_wraparound x)) (from_interval (interval.merge_value x.inner v)) (move_end x v))

-- The x that leaves out what lies between lo and hi; full where nothing does.
unfoldable pub excluding : Float → Float → WraparoundInterval
excluding lo hi = cond (le hi lo) full (new hi lo)

unfoldable pub expand_by : WraparoundInterval → Float → WraparoundInterval
expand_by x d =
    cond (interval.is_unmoved_by x.inner d) (plus_zero x)
    (cond (not (is_wraparound x)) (from_interval (interval.expand_by x.inner d))
    (excluding (add binary64 x.inner.hi d) (sub binary64 x.inner.lo d)))

-- A plain x and a wrapped y: refused with 1 where x meets both pieces of y.
unfoldable pub intersect_plain : WraparoundInterval → WraparoundInterval → Result WraparoundInterval Refusal
intersect_plain x y =
    cond (interval.intersects_interval x.inner (split y).left)
    (cond (interval.intersects_interval x.inner (split y).right) (Err TwoParts)
    (Ok (from_interval (interval.intersection x.inner (split y).left))))
    (cond (interval.intersects_interval x.inner (split y).right)
    (Ok (from_interval (interval.intersection x.inner (split y).right)))
    (Ok empty))

-- What a wrapped x leaves out, its ends taken in.
abbrev pub excluded : WraparoundInterval → Interval
excluded x = interval.new x.inner.hi x.inner.lo

abbrev pub complement : Interval → WraparoundInterval
complement i = new i.hi i.lo

-- Two wrapped x: refused with 1 where what they leave out is apart.
unfoldable pub intersect_wrapped : WraparoundInterval → WraparoundInterval → Result WraparoundInterval Refusal
intersect_wrapped x y =
    cond (interval.intersects_interval (excluded x) (excluded y))
    (Ok (complement (interval.merge_interval (excluded x) (excluded y))))
    (Err TwoParts)

unfoldable pub intersection : WraparoundInterval → WraparoundInterval → Result WraparoundInterval Refusal
intersection x y =
    cond (is_wraparound x)
    (cond (is_wraparound y) (intersect_wrapped x y) (intersect_plain y x))
    (cond (is_wraparound y) (intersect_plain x y) (Ok (from_interval (interval.intersection x.inner y.inner))))
