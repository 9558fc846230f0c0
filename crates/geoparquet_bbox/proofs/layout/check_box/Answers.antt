-- `layout::check_box` meets its contract. Assumes nothing.
use Rattle.geoparquet_bbox.specs.Layout.{box_refusal}
use Rattle.geoparquet_bbox.proofs.Passing.{known_is_some}
use Rattle.geoparquet_bbox.proofs.layout.check_box.Goals as goal

pub returns-then-is_some : goal.returns-then-is_some
unfolding box_refusal
returns-then-is_some c = rw (known_is_some c.args.b.m, ← c.if-is_some.ensures)

pub returns : goal.returns
unfolding box_refusal
returns c = rw (known_is_some c.args.b.m, ← c.if-is_some.ensures) c.check_numbers.ensures
