-- `johikape_x_wraps` meets its contract. Assumes nothing.
use Rattle.johikape.proofs.intervals.johikape_x_wraps.Goals as goal

pub returns : goal.returns
returns c = rw (c.is_wraparound.ensures, c.x.ensures)
