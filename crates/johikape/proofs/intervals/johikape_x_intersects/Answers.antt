-- `johikape_x_intersects` meets its contract. Assumes nothing.
use Rattle.johikape.proofs.intervals.johikape_x_intersects.Goals as goal

pub returns : goal.returns
returns c = rw (c.intersects_interval.ensures, c.x.ensures, c.x-2.ensures)
