-- `johikape_interval_accepts` meets its contract. Assumes nothing.
use Rattle.johikape.proofs.intervals.johikape_interval_accepts.Goals as goal

pub returns : goal.returns
returns c = rw (c.intersects_value.ensures, c.plain.ensures)
