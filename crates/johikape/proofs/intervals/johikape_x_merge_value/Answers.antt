-- `johikape_x_merge_value` meets its contract. Assumes nothing.
use Rattle.johikape.proofs.intervals.johikape_x_merge_value.Goals as goal

pub returns : goal.returns
returns c = rw (c.ends.ensures, c.merge_value.ensures, c.x.ensures)
