-- `layout::laid_out` meets its contract. Assumes nothing.
use lib.Ieee.{of_bits}
use Rattle.geoparquet_bbox.specs.Layout.{lows_then_highs}
use Rattle.geoparquet_bbox.proofs.layout.laid_out.Goals as goal

pub returns-in-None : goal.returns-in-None
unfolding lows_then_highs of_bits
returns-in-None c = rw c.in-None.is

pub returns-in-Some : goal.returns-in-Some
unfolding lows_then_highs
returns-in-Some c = rw c.in-Some.is
