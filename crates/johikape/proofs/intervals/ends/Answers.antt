-- `intervals::ends` meets its contract. Assumes nothing.
use mathlib.Core.Path.{refl}
use Rattle.johikape.specs.Intervals.{ends}
use Rattle.johikape.proofs.intervals.ends.Goals as goal

pub returns : goal.returns
unfolding ends
returns c = refl
