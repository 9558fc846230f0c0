-- `spatial_filter::full` meets its contract. Assumes nothing.
use Rattle.sedona_expr.proofs.spatial_filter.full.Goals as goal

pub returns : goal.returns
returns c = rw (c.xy.ensures, c.full-2.ensures, c.full.ensures)
