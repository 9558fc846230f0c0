-- How a record crosses: as ten doubles (the eight of its box, the two lengths), seven totals, a type set, and flags: 1, 2, 4 of the box, and behind
-- them a bit each for the types (8), the totals (16 to 1,024) and the lengths (2,048 and 4,096). 0 stands for what is missing.
use Rattle.std.specs.Prelude.{◌≡◌, Bool, true, not, ◌&&◌, ◌||◌, cond, List, [], ◌∷◌, ℕ, zero, suc, ◌+◌, ◌*◌, ◌/◌, ◌%◌, eqb, ltb, ℤ, pos, length, get_or, drop, Float, Option, Some, None, is_some}
use Rattle.std.specs.Option.{unwrap_or}
use Rattle.std.specs.Float.{nan, binary64}
use Rattle.std.specs.Float.Ieee.{of_bits}
use Rattle.sedona_geometry.specs.Lists.{are_all}
use Rattle.sedona_geometry.specs.Interval as interval
use Rattle.sedona_geometry.specs.WraparoundInterval as wraparound
use Rattle.sedona_geometry.specs.BoundingBox as bounding_box
use Rattle.sedona_geometry.specs.Bits.{has_bit}
use Rattle.sedona_geometry.specs.Types as set
use Rattle.sedona_geometry.specs.declared.bounding_box.BoundingBox.{BoundingBox}
use Rattle.sedona_expr.specs.Error as error
use Rattle.sedona_expr.specs.Statistics as statistics
use Rattle.sedona_expr.specs.Tables.{ends, flag_limit, boxes, box_at}
use Rattle.sedona_expr.specs.Refusals.{good_flag, refuse_if}
use Rattle.sedona_expr.specs.declared.statistics.GeoStatistics.{GeoStatistics}
use Rattle.sedona_expr.specs.Statistics.{Merged}
use Rattle.johikape.specs.Boxes.{low, high, flag, unless_refused}
use Rattle.sedona_geometry.specs.declared.types.GeometryTypeAndDimensionsSet.{GeometryTypeAndDimensionsSet}

-- ---- from C

-- So many doubles a record: those of its box, and the two lengths.
abbrev pub width : ℕ
width = ends + 2

-- Behind the box's flags there are ten more, one for each part: the flags have part k.
abbrev pub has : ℕ → ℕ → Bool
has flags k = has_bit (flags / flag_limit) k

abbrev pub types_of : Bool → ℕ → Option GeometryTypeAndDimensionsSet
types_of known n = cond known (Some (set.from_bits n)) None

abbrev pub total_of : Bool → ℤ → Option ℤ
total_of known n = cond known (Some n) None

abbrev pub extent_of : Bool → Float → Option Float
extent_of known x = cond known (Some x) None

unfoldable pub read : List Float → List ℤ → ℕ → ℕ → GeoStatistics
read ds ts n f = record {
  bbox = box_at (boxes ds (f % flag_limit ∷ [])) 0;
  geometry_types = types_of (has f 0) n;
  total_geometries = total_of (has f 1) (get_or ts 0 (pos 0));
  total_size_bytes = total_of (has f 2) (get_or ts 1 (pos 0));
  total_points = total_of (has f 3) (get_or ts 2 (pos 0));
  puntal_count = total_of (has f 4) (get_or ts 3 (pos 0));
  lineal_count = total_of (has f 5) (get_or ts 4 (pos 0));
  polygonal_count = total_of (has f 6) (get_or ts 5 (pos 0));
  collection_count = total_of (has f 7) (get_or ts 6 (pos 0));
  total_envelope_width = extent_of (has f 8) (get_or ds ends nan);
  total_envelope_height = extent_of (has f 9) (get_or ds (ends + 1) nan);
}

-- The flags of the box are good, and there are no others than these.
unfoldable pub good_flags : ℕ → Bool
good_flags f = ltb f (flag_limit * 1024) && good_flag true (f % flag_limit)

-- ---- to C

-- The box, and zeros for none.
abbrev pub or_zero : Option BoundingBox → BoundingBox
or_zero None = bounding_box.xy (wraparound.new (of_bits binary64 0) (of_bits binary64 0)) (interval.new (of_bits binary64 0) (of_bits binary64 0))
or_zero (Some b) = b

abbrev pub extent : Option Float → Float
extent e = unwrap_or e (of_bits binary64 0)

abbrev pub total : Option ℤ → ℤ
total t = unwrap_or t (pos 0)

abbrev pub types : Option GeometryTypeAndDimensionsSet → ℕ
types None = 0
types (Some s) = set.bits s

-- The flags of a box, and 0 for none.
abbrev pub bbox_flag : Option BoundingBox → ℕ
bbox_flag None = 0
bbox_flag (Some b) = flag b

-- Which parts are known.
abbrev pub knows_types : Option GeometryTypeAndDimensionsSet → Bool
knows_types t = is_some t

abbrev pub knows_total : Option ℤ → Bool
knows_total t = is_some t

abbrev pub knows_extent : Option Float → Bool
knows_extent t = is_some t

-- The doubles of the box, and the two lengths.
abbrev pub box_doubles : Option BoundingBox → Float → Float → List Float
box_doubles c w h =
    let b = or_zero c in
    b.x.inner.lo ∷ b.x.inner.hi ∷ b.y.lo ∷ b.y.hi ∷ low b.z ∷ high b.z ∷ low b.m ∷ high b.m ∷ w ∷ h ∷ []

abbrev pub doubles : GeoStatistics → List Float
doubles s = box_doubles s.bbox (extent s.total_envelope_width) (extent s.total_envelope_height)

abbrev pub totals : GeoStatistics → List ℤ
totals s =
    total s.total_geometries ∷ total s.total_size_bytes ∷ total s.total_points ∷ total s.puntal_count
    ∷ total s.lineal_count ∷ total s.polygonal_count ∷ total s.collection_count ∷ []

-- The types, the seven totals and the two lengths.
abbrev pub known : GeoStatistics → List Bool
known s =
    knows_types s.geometry_types ∷ knows_total s.total_geometries ∷ knows_total s.total_size_bytes ∷ knows_total s.total_points
    ∷ knows_total s.puntal_count ∷ knows_total s.lineal_count ∷ knows_total s.polygonal_count ∷ knows_total s.collection_count
    ∷ knows_extent s.total_envelope_width ∷ knows_extent s.total_envelope_height ∷ []

-- The number whose bits these are, from the lowest on.
abbrev pub of_bools : List Bool → ℕ
of_bools [] = 0
of_bools (b ∷ bs) = cond b 1 0 + 2 * of_bools bs

unfoldable pub flags : GeoStatistics → ℕ
flags s = bbox_flag s.bbox + flag_limit * of_bools (known s)

-- ---- what a call answers, and what it leaves

-- What a lent record holds: its four parts.
pub record Parts : Type 0 where
  pub doubles : List Float
  pub totals : List ℤ
  pub types : ℕ
  pub flags : ℕ

abbrev pub parts : List Float → List ℤ → ℕ → ℕ → Parts
parts ds ts n f = record { doubles = ds; totals = ts; types = n; flags = f }

abbrev pub written : GeoStatistics → Parts
written s = parts (doubles s) (totals s) (types s.geometry_types) (flags s)

-- The number is answered, and the record left where it is 0.
abbrev pub Gives : Merged → ℕ → Parts → Parts → Type 0
Gives a r old new = (r ≡ a.number) × (new ≡ unless_refused a.number (written a.rec) old)

abbrev pub read_parts : Parts → GeoStatistics
read_parts p = read p.doubles p.totals p.types p.flags

-- `merge_value` of the two; or 8 alone, where flags are bad.
unfoldable pub merged : Parts → Parts → Merged
merged p q = cond (good_flags p.flags && good_flags q.flags) (statistics.merge_value (read_parts p) (read_parts q)) (statistics.refused error.bad_lists)

-- ---- lists

-- Ten doubles, seven totals, a type set and flags for each record.
pub record Lists : Type 0 where
  pub doubles : List Float
  pub totals : List ℤ
  pub types : List ℕ
  pub flags : List ℕ

abbrev pub lists : List Float → List ℤ → List ℕ → List ℕ → Lists
lists ds ts ns fs = record { doubles = ds; totals = ts; types = ns; flags = fs }

-- 8: the lengths do not fit, or flags are bad.
unfoldable pub lists_refusal : Lists → ℕ
lists_refusal l =
    refuse_if
    (not (eqb (length l.doubles) (length l.flags * width))
    || not (eqb (length l.totals) (length l.flags * 7))
    || not (eqb (length l.types) (length l.flags))
    || not (are_all good_flags l.flags))
    error.bad_lists

-- The record at a place.
abbrev pub at : Lists → ℕ → GeoStatistics
at l i = read (drop (width * i) l.doubles) (drop (7 * i) l.totals) (get_or l.types i 0) (get_or l.flags i 0)

-- So many records from a place on.
abbrev pub from : Lists → ℕ → ℕ → List GeoStatistics
from l i zero = []
from l i (suc n) = at l i ∷ from l (suc i) n

abbrev pub records : Lists → List GeoStatistics
records l = from l 0 (length l.flags)

-- The fold of the records; or 8 alone.
unfoldable pub folded : Lists → Merged
folded l =
    cond (eqb (lists_refusal l) 0) (record { number = (statistics.fold (records l)).number; rec = (statistics.fold (records l)).rec }) (statistics.refused (lists_refusal l))
