-- `statistics::merge_bboxes` meets its contract. Assumes nothing.
use Rattle.sedona_expr.specs.Statistics.{merge_bboxes}
use Rattle.sedona_expr.proofs.Parts.{handed_on}
use Rattle.sedona_expr.proofs.statistics.merge_bboxes.Goals as goal
use Rattle.sedona_expr.proofs.statistics.merge_bboxes.Goals.{in_default-via-in-Some+in_default, in_default-via-in_default}

pub returns-in-Some-Some : goal.returns-in-Some-Some
unfolding merge_bboxes
returns-in-Some-Some c = rw (c.in-Some-Some.is-0, c.in-Some-Some.is-1, c.merge_box.ensures)

pub returns-in_default : goal.returns-in_default
unfolding merge_bboxes
returns-in_default c = elim c.in_default.branch [
  | in_default-via-in-Some+in_default w ↦ rw (handed_on c.or.result c.map.ensures.cases, c.or.ensures, w.in_default.is-0, w.in_default.is-1)
  | in_default-via-in_default w ↦ rw (handed_on c.or.result c.map.ensures.cases, c.or.ensures, w.in_default.is-0)
]
