-- `johikape_x_merge` meets its contract. Assumes nothing.
use Rattle.johikape.proofs.intervals.johikape_x_merge.Goals as goal

pub returns : goal.returns
returns c = rw (c.ends.ensures, c.merge_interval.ensures, c.x.ensures, c.x-2.ensures)
