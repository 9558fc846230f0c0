-- `johikape_x_is_empty` meets its contract. Assumes nothing.
use Rattle.johikape.proofs.intervals.johikape_x_is_empty.Goals as goal

pub returns : goal.returns
returns c = rw (c.is_empty.ensures, c.x.ensures)
