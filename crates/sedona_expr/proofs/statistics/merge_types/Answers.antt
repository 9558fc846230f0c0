-- `statistics::merge_types` meets its contract. Assumes nothing.
use Rattle.sedona_expr.specs.Statistics.{merge_types}
use Rattle.sedona_expr.proofs.statistics.merge_types.Goals as goal
use Rattle.sedona_expr.proofs.statistics.merge_types.Goals.{in_default-via-in-Some+in_default, in_default-via-in_default}

pub returns-in-Some-Some : goal.returns-in-Some-Some
unfolding merge_types
returns-in-Some-Some c = rw (c.in-Some-Some.is-0, c.in-Some-Some.is-1, c.merge.ensures)

pub returns-in_default : goal.returns-in_default
unfolding merge_types
returns-in_default c = elim c.in_default.branch [
  | in_default-via-in-Some+in_default w ↦ rw (c.or.ensures, w.in_default.is-0, w.in_default.is-1)
  | in_default-via-in_default w ↦ rw (c.or.ensures, w.in_default.is-0)
]
