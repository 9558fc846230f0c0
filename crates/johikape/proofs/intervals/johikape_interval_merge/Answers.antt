-- `johikape_interval_merge` meets its contract. Assumes nothing.
use Rattle.johikape.proofs.intervals.johikape_interval_merge.Goals as goal

pub returns : goal.returns
returns c = rw (c.ends.ensures, c.merge_interval.ensures, c.plain.ensures, c.plain-2.ensures)
