-- `Interval` of interval.rs, method by method.
use Rattle.std.specs.Prelude.{◌≡◌, Bool, true, false, ◌&&◌, ◌||◌, cond, T, Float}
use Rattle.std.specs.Float.{inf, binary64}
use Rattle.std.specs.Float.Ieee.{add, sub, div, lt, le, eq, is_nan, fits}
use Rattle.sedona_geometry.specs.Float as float
use Rattle.sedona_geometry.specs.declared.interval.Interval.{Interval}

-- Both ends are doubles, as they are of every interval in the code.
pub record Doubles (i : Interval) : Type 0 where
  pub lo : T (fits binary64 i.lo)
  pub hi : T (fits binary64 i.hi)

-- Request 6: neither end is −0.
pub record Canonical (i : Interval) : Type 0 where
  pub lo : float.is_minus_zero i.lo ≡ false
  pub hi : float.is_minus_zero i.hi ≡ false

-- Equal as numbers, end by end. A NaN is equal to nothing.
pub record EqualNumbers (i j : Interval) : Type 0 where
  pub lo : eq i.lo j.lo ≡ true
  pub hi : eq i.hi j.hi ≡ true

-- 01's "having NaN": at either end.
abbrev pub has_nan : Interval → Bool
has_nan i = is_nan i.lo || is_nan i.hi

-- Every interval that a call gives is made here.
abbrev pub new : Float → Float → Interval
new lo hi = record { lo = float.plus_zero lo; hi = float.plus_zero hi }

-- An interval as a call hands it on.
abbrev pub plus_zero : Interval → Interval
plus_zero i = new i.lo i.hi

abbrev pub empty : Interval
empty = new (inf false) (inf true)

abbrev pub full : Interval
full = new (inf true) (inf false)

-- The interval accepts the value.
unfoldable pub intersects_value : Interval → Float → Bool
intersects_value i v = le i.lo v && le v i.hi

-- 01's "accepts".
pub record Accepts (i : Interval) (v : Float) : Type 0 where
  pub holds : intersects_value i v ≡ true

-- 01's "common number": a double that both accept.
pub record Common (i j : Interval) : Type 0 where
  pub number : Float
  pub double : T (fits binary64 number)
  pub left : Accepts i number
  pub right : Accepts j number

unfoldable pub intersects_interval : Interval → Interval → Bool
intersects_interval i j = le i.lo j.hi && le j.lo i.hi

unfoldable pub contains_interval : Interval → Interval → Bool
contains_interval i j = le i.lo j.lo && le j.hi i.hi

-- The width: hi − lo, rounded once.
abbrev pub width : Interval → Float
width i = sub binary64 i.hi i.lo

-- The midpoint: lo + (hi − lo) / 2, rounded at each of the three operations.
abbrev pub mid : Interval → Float
mid i = add binary64 i.lo (div binary64 (width i) float.two)

-- Empty: the width is −inf. (MAX, −MAX) is empty too, since its width rounds there.
unfoldable pub is_empty : Interval → Bool
is_empty i = eq (width i) (inf true)

unfoldable pub is_full : Interval → Bool
is_full i = eq i.lo (inf true) && eq i.hi (inf false)

unfoldable pub merge_interval : Interval → Interval → Interval
merge_interval i j = new (float.min_num i.lo j.lo) (float.max_num i.hi j.hi)

unfoldable pub merge_value : Interval → Float → Interval
merge_value i v = new (float.min_num i.lo v) (float.max_num i.hi v)

-- Expanding changes nothing: the interval is empty, or the distance is NaN or negative.
unfoldable pub is_unmoved_by : Interval → Float → Bool
is_unmoved_by i d = is_empty i || is_nan d || lt d float.zero

unfoldable pub expand_by : Interval → Float → Interval
expand_by i d = cond (is_unmoved_by i d) (plus_zero i) (new (sub binary64 i.lo d) (add binary64 i.hi d))

-- The interval from lo to hi, empty where hi is below lo.
abbrev pub ordered : Float → Float → Interval
ordered lo hi = cond (lt hi lo) empty (new lo hi)

unfoldable pub intersection : Interval → Interval → Interval
intersection i j = ordered (float.max_num i.lo j.lo) (float.min_num i.hi j.hi)
