-- `spatial_filter::may_have_z` meets its contract. Assumes nothing.
use Rattle.sedona_expr.specs.SpatialFilter.{may_have_z}
use Rattle.sedona_expr.proofs.spatial_filter.may_have_z.Goals as goal

pub returns-then-has_empty_z : goal.returns-then-has_empty_z
unfolding may_have_z
returns-then-has_empty_z c = rw (← c.has_empty_z.ensures, c.if-has_empty_z.true)

pub returns : goal.returns
unfolding may_have_z
returns c = rw (← c.has_empty_z.ensures, c.if-has_empty_z.false, c.may_be_z.ensures)
