-- `johikape_interval_mid` meets its contract. Assumes nothing.
use Rattle.johikape.proofs.intervals.johikape_interval_mid.Goals as goal

pub returns : goal.returns
returns c = rw (c.mid.ensures, c.plain.ensures)
