-- `statistics::fold_step` meets its contract. Assumes nothing.
use Rattle.sedona_expr.specs.Statistics.{step}
use Rattle.sedona_expr.proofs.statistics.fold_step.Goals as goal

pub returns-in-Some : goal.returns-in-Some
unfolding step
returns-in-Some c = rw (c.in-Some.is, c.merge_value.ensures)

pub returns-in-None : goal.returns-in-None
unfolding step
returns-in-None c = rw (c.in-None.is, c.plus_zero.ensures)
