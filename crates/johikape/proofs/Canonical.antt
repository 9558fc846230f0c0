-- Request 6: what a C call gives, or leaves where it is not refused, has no −0 in an interval or a box. What `johikape_filter_bbox`, `_box_to_geoparquet`,
-- `_box_from_geoparquet` and `_box_from_wkb` leave, the crates that give it say so of: `filter_bbox_canonical`, `to_geoparquet_canonical`,
-- `from_geoparquet_canonical` and `wkb_bounds_canonical`, with `doubles_canonical` here. Assumes nothing.
use Rattle.std.specs.Prelude.{Option, Some, None}
use mathlib.Core.Path.{◌≡◌, refl, ap}
use mathlib.Core.Bool.{Bool, true, false, ◌&&◌, cond}
use mathlib.Core.List.{map}
use lib.ListN.{take}
use lib.Dec.{eqb}
use lib.Ieee.{Float, binary64, of_bits, to_bits}
use Rattle.sedona_geometry.specs.Float.{is_minus_zero}
use Rattle.sedona_geometry.specs.Interval as interval
use Rattle.sedona_geometry.specs.WraparoundInterval as wraparound
use Rattle.sedona_geometry.specs.BoundingBox as bounding_box
use Rattle.sedona_geometry.specs.BoundingBox.{Canonical, WhereKnown}
use Rattle.sedona_geometry.specs.declared.interval.Interval.{Interval}
use Rattle.sedona_geometry.specs.declared.bounding_box.BoundingBox.{BoundingBox}
use Rattle.sedona_geometry.proofs.Canonical as canonical
use Rattle.sedona_geometry.proofs.Canonical.{CanonicalWhereSingle}
use Rattle.sedona_geometry.proofs.Keys.{same_box}
use Rattle.sedona_expr.specs.Error as error
use Rattle.sedona_expr.specs.Statistics as statistics
use Rattle.sedona_expr.specs.Tables as tables
use Rattle.sedona_expr.specs.declared.statistics.GeoStatistics.{GeoStatistics}
use Rattle.sedona_expr.proofs.Canonical.{CanonicalRecord, merge_value_canonical, fold_canonical}
use Rattle.geoparquet_bbox.specs.Layout.{NoMinusZero}
use Rattle.johikape.specs.Boxes as box
use Rattle.johikape.specs.Intervals.{plain, x, ends}
use Rattle.johikape.specs.Records as rec
use Rattle.johikape.specs.declared.intervals.JohikapeInterval.{JohikapeInterval}

-- ---- intervals
abbrev PlusZeros : JohikapeInterval → Type 0
PlusZeros i = (is_minus_zero i.lo ≡ false) × (is_minus_zero i.hi ≡ false)

ends_canonical : {i : Interval} → interval.Canonical i → PlusZeros (ends i)
unfolding ends
ends_canonical c = (c.lo, c.hi)

module _ (a b : JohikapeInterval) (v : Float) where
  pub interval_merge : PlusZeros (ends (interval.merge_interval (plain a) (plain b)))
  interval_merge = ends_canonical (canonical.merge_canonical (plain a) (plain b))

  pub interval_merge_value : PlusZeros (ends (interval.merge_value (plain a) v))
  interval_merge_value = ends_canonical (canonical.merge_value_canonical (plain a) v)

  pub interval_intersection : PlusZeros (ends (interval.intersection (plain a) (plain b)))
  interval_intersection = ends_canonical (canonical.intersection_canonical (plain a) (plain b))

  pub interval_expand_by : PlusZeros (ends (interval.expand_by (plain a) v))
  interval_expand_by = ends_canonical (canonical.expand_canonical (plain a) v)

  pub x_merge : PlusZeros (ends (wraparound.merge_interval (x a) (x b)).inner)
  x_merge = ends_canonical (canonical.merge_x_canonical (x a) (x b))

  pub x_merge_value : PlusZeros (ends (wraparound.merge_value (x a) v).inner)
  x_merge_value = ends_canonical (canonical.merge_value_x_canonical (x a) v)

  pub x_expand_by : PlusZeros (ends (wraparound.expand_by (x a) v).inner)
  x_expand_by = ends_canonical (canonical.expand_x_canonical (x a) v)

  -- it has written what both hold; or it is refused, and what was there stays
  pub x_intersection : CanonicalWhereSingle (wraparound.intersection (x a) (x b))
  x_intersection = canonical.intersection_x_canonical (x a) (x b)

-- ---- boxes: the eight doubles, with 0 for what is missing
low_canonical : (d : Option Interval) → WhereKnown interval.Canonical d → is_minus_zero (box.low d) ≡ false
unfolding of_bits
low_canonical None c = refl
low_canonical (Some i) c = c.lo

high_canonical : (d : Option Interval) → WhereKnown interval.Canonical d → is_minus_zero (box.high d) ≡ false
unfolding of_bits
high_canonical None c = refl
high_canonical (Some i) c = c.hi

pub doubles_canonical : {b : BoundingBox} → Canonical b → NoMinusZero (box.doubles b)
doubles_canonical {b} c = (
  c.x.lo,
  (
    c.x.hi,
    (c.y.lo, (c.y.hi, (low_canonical b.z c.z, (high_canonical b.z c.z, (low_canonical b.m c.m, (high_canonical b.m c.m, tt)))))),
  ),
)

-- "have equal bytes there": what is written of canonical boxes that are equal as numbers
pub same_bytes : {a b : BoundingBox} → bounding_box.Doubles a → bounding_box.Doubles b → Canonical a → Canonical b → bounding_box.EqualNumbers a b
    → (map (to_bits binary64) (box.doubles a) ≡ map (to_bits binary64) (box.doubles b)) × (box.flag a ≡ box.flag b)
same_bytes D E c d e =
    let same = same_box D E c d e in
    (ap (λ (k : BoundingBox). map (to_bits binary64) (box.doubles k)) same, ap box.flag same)

pub merged_canonical : (a b : Option BoundingBox) → Canonical (box.merged a b).bounds
unfolding box.join
merged_canonical None b = canonical.empty_box_canonical
merged_canonical (Some a) None = canonical.empty_box_canonical
merged_canonical (Some a) (Some b) = canonical.accepted_canonical (bounding_box.merge_box a b)

pub met_canonical : (a b : Option BoundingBox) → Canonical (box.met a b).bounds
unfolding box.join
met_canonical None b = canonical.empty_box_canonical
met_canonical (Some a) None = canonical.empty_box_canonical
met_canonical (Some a) (Some b) = canonical.intersection_box_canonical a b

pub expanded_canonical : (a : Option BoundingBox) (d : Float) → Canonical (box.expanded a d).bounds
unfolding box.expanded
expanded_canonical None d = canonical.empty_box_canonical
expanded_canonical (Some a) d = canonical.accepted_canonical (bounding_box.expand_by a d)

-- ---- records: the first eight doubles; the two lengths behind them are no intervals
pub record_doubles_canonical : (s : GeoStatistics) → CanonicalRecord s → NoMinusZero (take tables.ends (rec.doubles s))
unfolding of_bits
record_doubles_canonical s c = go s.bbox c
  where
    w : Float
    w = rec.extent s.total_envelope_width

    h : Float
    h = rec.extent s.total_envelope_height

    go : (b : Option BoundingBox) → statistics.CanonicalWhereKnown b → NoMinusZero (take tables.ends (rec.box_doubles b w h))
    go None c = (refl, (refl, (refl, (refl, (refl, (refl, (refl, (refl, tt))))))))
    go (Some b) c = doubles_canonical c

pub merged_record_canonical : (p q : rec.Parts) → CanonicalRecord (rec.merged p q).rec
unfolding rec.merged
merged_record_canonical p q = go (rec.good_flags p.flags && rec.good_flags q.flags)
  where
    go : (good : Bool) → CanonicalRecord (cond good (statistics.merge_value (rec.read_parts p) (rec.read_parts q)) (statistics.refused error.bad_lists)).rec
    go true = merge_value_canonical (rec.read_parts p) (rec.read_parts q)
    go false = tt

pub folded_canonical : (l : rec.Lists) → CanonicalRecord (rec.folded l).rec
unfolding rec.folded
folded_canonical l = go (eqb (rec.lists_refusal l) 0)
  where
    go : (good : Bool)
        → CanonicalRecord (cond good (record { number = (statistics.fold (rec.records l)).number; rec = (statistics.fold (rec.records l)).rec }) (statistics.refused (rec.lists_refusal l))).rec
    go true = fold_canonical (rec.records l)
    go false = tt
