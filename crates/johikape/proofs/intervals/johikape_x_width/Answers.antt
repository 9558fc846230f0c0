-- `johikape_x_width` meets its contract. Assumes nothing.
use Rattle.johikape.proofs.intervals.johikape_x_width.Goals as goal

pub returns : goal.returns
returns c = rw (c.width.ensures, c.x.ensures)
