-- `johikape_interval_contains` meets its contract. Assumes nothing.
use Rattle.johikape.proofs.intervals.johikape_interval_contains.Goals as goal

pub returns : goal.returns
returns c = rw (c.contains_interval.ensures, c.plain.ensures, c.plain-2.ensures)
