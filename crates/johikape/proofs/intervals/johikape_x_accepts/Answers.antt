-- `johikape_x_accepts` meets its contract. Assumes nothing.
use Rattle.johikape.proofs.intervals.johikape_x_accepts.Goals as goal

pub returns : goal.returns
returns c = rw (c.intersects_value.ensures, c.x.ensures)
