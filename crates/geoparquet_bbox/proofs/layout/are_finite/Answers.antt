-- `layout::are_finite` meets its contract. Assumes nothing.
use Rattle.geoparquet_bbox.specs.Layout.{are_finite}
use Rattle.geoparquet_bbox.proofs.layout.are_finite.Goals as goal

pub returns-then-is_finite : goal.returns-then-is_finite
unfolding are_finite
returns-then-is_finite c = rw (← c.is_finite.ensures, c.if-is_finite.true, c.is_finite-then-is_finite.ensures)

pub returns-else-is_finite : goal.returns-else-is_finite
unfolding are_finite
returns-else-is_finite c = rw (← c.is_finite.ensures, c.if-is_finite.false)
