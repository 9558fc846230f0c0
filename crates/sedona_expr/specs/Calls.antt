-- The two calls of a filter: what refuses it (Refusals), or else the answer or the box (SpatialFilter) of the tree that its table spells (Tables).
use Rattle.std.specs.Prelude.{Bool, cond, ℕ, eqb, Result, Ok, Err}
use Rattle.sedona_geometry.specs.BoundingBox.{numbered}
use Rattle.sedona_geometry.specs.BoundingBox.{NumberedBox}
use Rattle.sedona_expr.specs.SpatialFilter.{answer, box_for}
use Rattle.sedona_expr.specs.Tables.{Records, Table, root, Lookup, record_of}
use Rattle.sedona_expr.specs.Refusals.{refusal, box_refusal}
use Rattle.sedona_expr.specs.declared.spatial_filter.Evaluation.{Evaluation}

-- The answer where the number is 0, and else the number.
unfoldable pub outcome : ℕ → Bool → Result Evaluation ℕ
outcome n b = cond (eqb n 0) (cond b (Ok Evaluation.MayMatch) (Ok Evaluation.CannotMatch)) (Err n)

-- `evaluate`, by position or by name.
abbrev pub evaluate : Lookup → Table → Records → Result Evaluation ℕ
evaluate l t r = outcome (refusal l t r) (answer (record_of l r) (root t))

-- `filter_bbox`, for the column of a name.
abbrev pub filter_bbox : Table → ℕ → NumberedBox
filter_bbox t name = numbered (box_refusal t) (box_for name (root t))
