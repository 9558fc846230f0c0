-- `layout::is_finite` meets its contract. Assumes nothing.
use Rattle.geoparquet_bbox.proofs.Finite.{below_infinity}
use Rattle.geoparquet_bbox.proofs.layout.is_finite.Goals as goal

pub returns : goal.returns
returns c = rw (c.abs.ensures, c.infinity.ensures) (below_infinity c.args.v)
