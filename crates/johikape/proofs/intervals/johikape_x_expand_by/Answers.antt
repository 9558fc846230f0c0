-- `johikape_x_expand_by` meets its contract. Assumes nothing.
use Rattle.johikape.proofs.intervals.johikape_x_expand_by.Goals as goal

pub returns : goal.returns
returns c = rw (c.ends.ensures, c.expand_by.ensures, c.x.ensures)
