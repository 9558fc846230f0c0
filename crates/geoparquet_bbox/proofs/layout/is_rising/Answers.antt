-- `layout::is_rising` meets its contract. Assumes nothing.
use Rattle.geoparquet_bbox.specs.Layout.{is_rising}
use Rattle.geoparquet_bbox.proofs.layout.is_rising.Goals as goal

pub returns-then-are_finite : goal.returns-then-are_finite
unfolding is_rising
returns-then-are_finite c = rw (← c.are_finite.ensures, c.if-are_finite.true)

pub returns-else-are_finite : goal.returns-else-are_finite
unfolding is_rising
returns-else-are_finite c = rw (← c.are_finite.ensures, c.if-are_finite.false)
