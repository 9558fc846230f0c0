-- The marked readings P1 to P10 of 01, as one table.
use Rattle.std.specs.Prelude.{◌≡◌, Bool, true, false, List, [], ◌∷◌, ℕ, pos, Float, Result, Ok}
use Rattle.std.specs.Float.{binary64}
use Rattle.std.specs.Float.Ieee.{neg, of_int, of_bits}
use Rattle.sedona_geometry.specs.Interval as interval
use Rattle.sedona_geometry.specs.WraparoundInterval as wraparound
use Rattle.sedona_geometry.specs.declared.interval.Interval.{Interval}
use Rattle.sedona_geometry.specs.declared.interval.WraparoundInterval.{WraparoundInterval}
use Rattle.sedona_geometry.specs.declared.error.Refusal.{Refusal}
use Rattle.sedona_expr.specs.Tables.{Records, Table, records, table, by_position}
use Rattle.sedona_expr.specs.Calls.{evaluate, filter_bbox}
use Rattle.sedona_expr.specs.declared.spatial_filter.Evaluation.{Evaluation}

-- A call and its answer.
pub data Reading : Type 0 where
  merge : WraparoundInterval → WraparoundInterval → WraparoundInterval → Reading
  contain : WraparoundInterval → WraparoundInterval → Bool → Reading
  intersect : WraparoundInterval → WraparoundInterval → Result WraparoundInterval Refusal → Reading
  accept : WraparoundInterval → Float → Bool → Reading
  expand : WraparoundInterval → Float → WraparoundInterval → Reading
  plain_intersect : Interval → Interval → Bool → Reading
  empty_accepts_nothing : WraparoundInterval → Reading
  may_match_in_no_x : Table → Records → Reading

-- The call has this answer.
abbrev pub Holds : Reading → Type 0
Holds (merge x y z) = wraparound.merge_interval x y ≡ z
Holds (contain x y b) = wraparound.contains_interval x y ≡ b
Holds (intersect x y r) = wraparound.intersection x y ≡ r
Holds (accept x v b) = wraparound.intersects_value x v ≡ b
Holds (expand x d y) = wraparound.expand_by x d ≡ y
Holds (plain_intersect i j b) = interval.intersects_interval i j ≡ b
Holds (may_match_in_no_x t r) =
    (evaluate by_position t r ≡ Ok Evaluation.MayMatch) × ((filter_bbox t 0).number ≡ 0) × (wraparound.is_empty (filter_bbox t 0).bounds.x ≡ true)
Holds (empty_accepts_nothing x) = (wraparound.is_empty x ≡ true) × ((v : Float) → wraparound.Accepts x v → ⊥)

abbrev pub AllHold : List Reading → Type 0
AllHold [] = Unit {0}
AllHold (r ∷ rs) = Holds r × AllHold rs

-- n, −n and the largest finite double.
abbrev plus : ℕ → Float
plus n = of_int binary64 (pos n)

abbrev minus : ℕ → Float
minus n = neg (plus n)

abbrev largest : Float
largest = of_bits binary64 0x7fef_ffff_ffff_ffff

abbrev x : Float → Float → WraparoundInterval
x lo hi = wraparound.new lo hi

-- The doubles of a box with y (0, 1), z and m missing.
abbrev ends : Float → Float → List Float → List Float
ends lo hi ds = lo ∷ hi ∷ plus 0 ∷ plus 1 ∷ plus 0 ∷ plus 0 ∷ plus 0 ∷ plus 0 ∷ ds

abbrev pub marked : List Reading
marked =
    -- P1 (170, −170) merged with (−100, 100)
    merge (x (plus 170) (minus 170)) (x (minus 100) (plus 100)) (x (minus 100) (minus 170))
    -- P2 (−100, −170) with (−180, 0)
    ∷ merge (x (minus 100) (minus 170)) (x (minus 180) (plus 0)) wraparound.full
    -- P3 (170, −170) with (−160, −150)
    ∷ merge (x (plus 170) (minus 170)) (x (minus 160) (minus 150)) (x (plus 170) (minus 150))
    -- P4 (170, −170) contains (−178, −175), and by request 5 (175, 178)
    ∷ contain (x (plus 170) (minus 170)) (x (minus 178) (minus 175)) true
    ∷ contain (x (plus 170) (minus 170)) (x (plus 175) (plus 178)) true
    -- P5 (20, 10) intersected with (10, 0), though both accept 10
    ∷ intersect (x (plus 20) (plus 10)) (x (plus 10) (plus 0)) (Ok (x (plus 20) (plus 0)))
    ∷ accept (x (plus 20) (plus 10)) (plus 10) true
    ∷ accept (x (plus 10) (plus 0)) (plus 10) true
    ∷ accept (x (plus 20) (plus 0)) (plus 10) false
    -- P6 (MAX, −MAX)
    ∷ empty_accepts_nothing (x largest (neg largest))
    -- P7 plain full and plain empty
    ∷ plain_intersect interval.full interval.empty true
    -- P8 (20, 10) expanded by 4 and by 5
    ∷ expand (x (plus 20) (plus 10)) (plus 4) (x (plus 16) (plus 14))
    ∷ expand (x (plus 20) (plus 10)) (plus 5) wraparound.full
    -- P9 (0, 10) intersected with (20, 5)
    ∷ intersect (x (plus 0) (plus 10)) (x (plus 20) (plus 5)) (Ok (x (plus 0) (plus 5)))
    -- P10 And of Intersects x (1, 2) and x (5, 6), both y (0, 1), against record x (0, 10), y (0, 1): may match, yet the filter box has empty x
    ∷ may_match_in_no_x (table (0 ∷ 0 ∷ 0 ∷ 0 ∷ 0 ∷ 0 ∷ 0 ∷ 1 ∷ 3 ∷ 0 ∷ 1 ∷ 0 ∷ []) (ends (plus 1) (plus 2) (ends (plus 5) (plus 6) [])) (1 ∷ 1 ∷ []))
    (records (ends (plus 0) (plus 10) []) (1 ∷ []) (0 ∷ []) (0 ∷ []))
    ∷ []
