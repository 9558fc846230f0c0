-- The hypotheses of the theorems on what crosses can be met: by boxes made of −0 and of +0, and by a record of such a box; and what the
-- definitions of fees answer, computed. Assumes nothing.
use Rattle.std.specs.Prelude.{Some, None}
use mathlib.Core.Path.{◌≡◌, refl}
use mathlib.Core.List.{List, [], ◌∷◌, map}
use Prim.Native.Nat.{ℕ, ◌+◌, ◌*◌}
use lib.IntN.{ℤ, pos}
use lib.Ieee.{Float, binary64, neg, sum, sub, lt, le, eq, is_nan, fits, round, of_int, to_bits}
use Rattle.std.specs.Prelude.{Err}
use Rattle.sedona_geometry.specs.Float.{min_num, max_num}
use Rattle.sedona_geometry.specs.Interval as interval
use Rattle.sedona_geometry.specs.WraparoundInterval as wraparound
use Rattle.sedona_geometry.specs.Types.{from_bits}
use Rattle.sedona_geometry.specs.BoundingBox.{Doubles, Canonical, EqualNumbers, xyzm, test_known, intersects, with_x, intersection}
use Rattle.sedona_geometry.specs.declared.bounding_box.BoundingBox.{BoundingBox}
use Rattle.sedona_geometry.proofs.Canonical.{xyzm_canonical}
use Rattle.sedona_geometry.proofs.Instances as zeros
use Rattle.sedona_expr.specs.Statistics as statistics
use Rattle.sedona_expr.specs.Tables.{box_with, box_at, types_at, table, records, by_position}
use Rattle.sedona_expr.specs.Refusals.{good_flag, or_else, words_refusal, table_refusal, refusal}
use Rattle.sedona_expr.specs.Calls.{outcome, evaluate}
use Rattle.sedona_expr.specs.declared.statistics.GeoStatistics.{GeoStatistics}
use Rattle.sedona_expr.proofs.Instances.{reading}
use Rattle.scan_tariff.specs.Tariff as scan
use Rattle.scan_tariff.specs.Tariff.{Fee}
use Rattle.johikape.specs.Boxes as box
use Rattle.johikape.specs.Filters.{code, decode}
use Rattle.johikape.specs.Records as rec
use Rattle.johikape.specs.Tariff as tariff
use Rattle.johikape.proofs.Canonical.{same_bytes}
use Rattle.johikape.proofs.ThereAndBack.{box_back_same, record_back_same}

abbrev of_minus : BoundingBox
of_minus = xyzm zeros.signed_x zeros.signed (Some zeros.signed) None

abbrev of_plus : BoundingBox
of_plus = xyzm zeros.unsigned_x zeros.unsigned (Some zeros.unsigned) None

minus_canonical : Canonical of_minus
minus_canonical = xyzm_canonical zeros.signed_x zeros.signed (Some zeros.signed) None

pub box_crosses : box.read (box.doubles of_minus) (box.flag of_minus) ≡ Some of_minus
box_crosses = box_back_same of_minus minus_canonical

abbrev with_box : GeoStatistics
with_box = reading (Some of_minus) None (pos 3)

pub record_crosses : rec.read_parts (rec.written with_box) ≡ with_box
record_crosses = record_back_same with_box minus_canonical

doubles : Doubles of_plus
unfolding fits
doubles = record { x = record { lo = tt; hi = tt }; y = record { lo = tt; hi = tt }; z = record { lo = tt; hi = tt }; m = tt }

equal_numbers : EqualNumbers of_minus of_plus
unfolding eq
equal_numbers = record { x = record { lo = refl; hi = refl }; y = record { lo = refl; hi = refl }; z = record { lo = refl; hi = refl }; m = tt }

pub one_key : (map (to_bits binary64) (box.doubles of_minus) ≡ map (to_bits binary64) (box.doubles of_plus)) × (box.flag of_minus ≡ box.flag of_plus)
one_key =
    same_bytes {a = of_minus} {b = of_plus} doubles doubles minus_canonical
    (xyzm_canonical zeros.unsigned_x zeros.unsigned (Some zeros.unsigned) None) equal_numbers

-- ---- fees
abbrev costs : ℕ → Fee
costs n = record { number = 0; cents = n }

-- 64 GiB at the first rate, 448 at the second and 256 at the third
abbrev bytes : ℕ
bytes = 768 * scan.gib

-- The rates are in their order; a size whose byte is 0 is missing; other bytes, and counts that differ, are 8 before all else.
pub sizes_cross : (tariff.fee_of_sizes (pos bytes ∷ []) (1 ∷ []) (tariff.rates 3 50 700) ≡ costs (64 * 3 + 448 * 50 + 256 * 700))
    × (tariff.fee_of_sizes (pos bytes ∷ []) (0 ∷ []) (tariff.rates 3 50 700) ≡ scan.refused 18)
    × (tariff.fee_of_sizes (pos bytes ∷ []) (2 ∷ []) (tariff.rates 3 50 10001) ≡ scan.refused 8)
    × (tariff.fee_of_sizes (pos bytes ∷ []) [] (tariff.rates 3 50 10001) ≡ scan.refused 8)
unfolding scan.exact scan.nearest_cent scan.is_billed scan.sizes_refusal scan.rates_refusal scan.fee scan.fee_of_sizes or_else tariff.sizes_refusal tariff.fee_of_sizes
sizes_cross = (refl, refl, refl, refl)

-- A record's bytes are its second total, by the flag 32; the box flag 2 alone is bad.
pub records_cost : (tariff.fee_of_record (rec.parts [] (pos 5 ∷ pos bytes ∷ pos 7 ∷ []) 0 32) (tariff.rates 3 50 700) ≡ costs (64 * 3 + 448 * 50 + 256 * 700))
    × (tariff.fee_of_record (rec.parts [] (pos 5 ∷ pos bytes ∷ pos 7 ∷ []) 0 16) (tariff.rates 3 50 700) ≡ scan.refused 18)
    × (tariff.fee_of_record (rec.parts [] (pos 5 ∷ pos bytes ∷ pos 7 ∷ []) 0 34) (tariff.rates 3 50 10001) ≡ scan.refused 8)
unfolding scan.exact scan.nearest_cent scan.is_billed scan.total_refusal scan.rates_refusal scan.fee scan.fee_of_total or_else good_flag rec.good_flags rec.read tariff.fee_of_record
records_cost = (refl, refl, refl)

-- ---- the numbers of boxes and records over C, as numerals
-- 8: a bad flag, of either box; a flag past the limit; no box. 1: an x of two parts; behind 8
abbrev ends : Float → Float → List Float
ends lo hi = let z = of_int binary64 (pos 0) in lo ∷ hi ∷ z ∷ z ∷ z ∷ z ∷ z ∷ z ∷ []

abbrev around : List Float
around = ends (of_int binary64 (pos 0)) (of_int binary64 (pos 30))

abbrev wrapping : List Float
wrapping = ends (of_int binary64 (pos 20)) (of_int binary64 (pos 10))

pub boxes_numbered : (box.test intersects (box.read around 2) (box.read around 1) ≡ 8) × (box.test intersects (box.read around 1) (box.read around 9) ≡ 8)
    × (box.test intersects (box.read around 1) (box.read around 7) ≡ 1)
    × ((box.merged (box.read around 0) (box.read around 1)).number ≡ 8) × ((box.expanded (box.read around 4) (of_int binary64 (pos 1))).number ≡ 8)
    × ((box.met (box.read around 1) (box.read wrapping 1)).number ≡ 1) × ((box.met (box.read around 2) (box.read wrapping 1)).number ≡ 8)
unfolding box.test box.join box.expanded box.read good_flag box_at box_with sub neg sum round lt le eq is_nan of_int min_num max_num interval.is_empty interval.intersects_interval wraparound.is_wraparound wraparound.split wraparound.pieces_intersect wraparound.intersects_interval wraparound.intersect_plain wraparound.intersection test_known intersects with_x intersection
boxes_numbered = (refl, refl, refl, refl, refl, refl, refl)

-- a record: flags at their limit, and of a box without bit 1; 3 where a total leaves its range, behind 8
abbrev counted : ℤ → ℕ → rec.Parts
counted n f = rec.parts [] (n ∷ []) 0 f

pub records_numbered : ((rec.merged (counted (pos 1) 16) (counted (pos 1) 8192)).number ≡ 8) × ((rec.merged (counted (pos 1) 18) (counted (pos 1) 16)).number ≡ 8)
    × ((rec.merged (counted statistics.most 16) (counted (pos 1) 16)).number ≡ 3) × ((rec.merged (counted statistics.most 16) (counted (pos 1) 18)).number ≡ 8)
    × ((rec.merged (counted statistics.most 16) (counted (pos 0) 16)).number ≡ 0)
unfolding good_flag rec.good_flags rec.read rec.merged box_at types_at statistics.is_outside statistics.sum_is_outside statistics.totals_overflow statistics.counts_overflow statistics.merge_value
records_numbered = (refl, refl, refl, refl, refl)

-- lists: 8 for doubles that are not ten a record, and for bad flags
pub lists_numbered : ((rec.folded (rec.lists [] (pos 0 ∷ []) (0 ∷ []) (0 ∷ []))).number ≡ 8) × ((rec.folded (rec.lists [] [] [] [])).number ≡ 0)
unfolding rec.lists_refusal rec.folded good_flag rec.good_flags statistics.fold_from
lists_numbered = (refl, refl)

-- ---- the flags of a record, part by part: 8 types, 16 to 1,024 the totals, 2,048 the width, 4,096 the height
abbrev numbered_doubles : List Float
numbered_doubles = map (λ n. of_int binary64 (pos n)) (0 ∷ 1 ∷ 2 ∷ 3 ∷ 4 ∷ 5 ∷ 6 ∷ 7 ∷ 8 ∷ 9 ∷ [])

abbrev with_flags : ℕ → GeoStatistics
with_flags f = rec.read numbered_doubles (pos 0 ∷ pos 1 ∷ pos 2 ∷ pos 3 ∷ pos 4 ∷ pos 5 ∷ pos 6 ∷ []) 5 f

pub parts_numbered : ((with_flags 8).geometry_types ≡ Some (from_bits 5)) × ((with_flags 16).total_geometries ≡ Some (pos 0))
    × ((with_flags 32).total_size_bytes ≡ Some (pos 1)) × ((with_flags 64).total_points ≡ Some (pos 2))
    × ((with_flags 128).puntal_count ≡ Some (pos 3)) × ((with_flags 256).lineal_count ≡ Some (pos 4))
    × ((with_flags 512).polygonal_count ≡ Some (pos 5)) × ((with_flags 1024).collection_count ≡ Some (pos 6))
    × ((with_flags 2048).total_envelope_width ≡ Some (of_int binary64 (pos 8))) × ((with_flags 4096).total_envelope_height ≡ Some (of_int binary64 (pos 9)))
unfolding rec.read
parts_numbered = (refl, refl, refl, refl, refl, refl, refl, refl, refl, refl)

-- ---- an answer is told from a refusal: a filter that is refused by 4
pub told_apart : decode (code (evaluate by_position (table [] [] []) (records [] [] [] []))) ≡ Err 4
unfolding or_else words_refusal table_refusal refusal outcome
told_apart = refl
