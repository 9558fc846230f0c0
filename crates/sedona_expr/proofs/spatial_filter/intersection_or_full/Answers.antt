-- `spatial_filter::intersection_or_full` meets its contract. Assumes nothing.
use Rattle.sedona_expr.specs.SpatialFilter.{or_full}
use Rattle.sedona_expr.proofs.Parts.{all_if_refused}
use Rattle.sedona_expr.proofs.spatial_filter.intersection_or_full.Goals as goal

pub returns-in-Ok : goal.returns-in-Ok
unfolding or_full
returns-in-Ok c = rw (← c.intersection.ensures, c.in-Ok.is)

pub returns-in-Err : goal.returns-in-Err
returns-in-Err c = rw (← c.intersection.ensures, c.in-Err.is, all_if_refused) c.full.ensures
