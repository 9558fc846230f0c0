-- `layout::check_numbers` meets its contract. Assumes nothing.
use Rattle.geoparquet_bbox.specs.Layout.{numbers_refusal}
use Rattle.geoparquet_bbox.proofs.layout.check_numbers.Goals as goal

pub returns-then-not-are_finite : goal.returns-then-not-are_finite
unfolding numbers_refusal
returns-then-not-are_finite c = rw (← c.are_finite.ensures, c.if-not-are_finite.true)

pub returns-then-not-is_rising : goal.returns-then-not-is_rising
unfolding numbers_refusal
returns-then-not-is_rising c = rw (← c.are_finite.ensures, c.if-not-are_finite.false, ← c.is_rising.ensures, c.if-not-is_rising.true)

pub returns-then-rises_where_known : goal.returns-then-rises_where_known
unfolding numbers_refusal
returns-then-rises_where_known c =
    rw (← c.are_finite.ensures, c.if-not-are_finite.false, ← c.is_rising.ensures, c.if-not-is_rising.false, ← c.rises_where_known.ensures, c.if-rises_where_known.true)

pub returns-else-rises_where_known : goal.returns-else-rises_where_known
unfolding numbers_refusal
returns-else-rises_where_known c =
    rw (← c.are_finite.ensures, c.if-not-are_finite.false, ← c.is_rising.ensures, c.if-not-is_rising.false, ← c.rises_where_known.ensures, c.if-rises_where_known.false)
