-- `intervals::x` meets its contract. Assumes nothing.
use Rattle.johikape.specs.Intervals.{x}
use Rattle.johikape.proofs.intervals.x.Goals as goal

pub returns : goal.returns
unfolding x
returns c = rw c.new.ensures
