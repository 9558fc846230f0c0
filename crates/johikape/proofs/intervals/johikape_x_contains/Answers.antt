-- `johikape_x_contains` meets its contract. Assumes nothing.
use Rattle.johikape.proofs.intervals.johikape_x_contains.Goals as goal

pub returns : goal.returns
returns c = rw (c.contains_interval.ensures, c.x.ensures, c.x-2.ensures)
