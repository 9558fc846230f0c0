-- `intervals::plain` meets its contract. Assumes nothing.
use Rattle.johikape.specs.Intervals.{plain}
use Rattle.johikape.proofs.intervals.plain.Goals as goal

pub returns : goal.returns
unfolding plain
returns c = rw c.new.ensures
