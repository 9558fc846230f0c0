-- `johikape_interval_intersects` meets its contract. Assumes nothing.
use Rattle.johikape.proofs.intervals.johikape_interval_intersects.Goals as goal

pub returns : goal.returns
returns c = rw (c.intersects_interval.ensures, c.plain.ensures, c.plain-2.ensures)
