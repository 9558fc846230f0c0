-- `johikape_interval_intersection` meets its contract. Assumes nothing.
use Rattle.johikape.proofs.intervals.johikape_interval_intersection.Goals as goal

pub returns : goal.returns
returns c = rw (c.ends.ensures, c.intersection.ensures, c.plain.ensures, c.plain-2.ensures)
