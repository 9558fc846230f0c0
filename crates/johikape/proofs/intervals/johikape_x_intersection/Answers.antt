-- `johikape_x_intersection` meets its contract. Assumes nothing.
use mathlib.Core.Path.{refl}
use Rattle.johikape.specs.Intervals.{Gives}
use Rattle.johikape.proofs.intervals.johikape_x_intersection.Goals as goal

pub returns-in-Ok : goal.returns-in-Ok
unfolding Gives
returns-in-Ok c = rw (← c.x.ensures, ← c.x-2.ensures, ← c.intersection.ensures, c.in-Ok.is) (refl, (refl, refl))

pub returns-in-Err : goal.returns-in-Err
unfolding Gives
returns-in-Err c = rw (← c.x.ensures, ← c.x-2.ensures, ← c.intersection.ensures, c.in-Err.is) (c.number.ensures, (refl, refl))
