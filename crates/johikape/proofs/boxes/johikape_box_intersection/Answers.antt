-- `johikape_box_intersection` meets its contract. Assumes nothing.
use mathlib.Core.Path.{refl}
use Rattle.johikape.specs.Boxes.{join, unless_refused}
use Rattle.johikape.proofs.boxes.johikape_box_intersection.Goals as goal

pub returns-in_default : goal.returns-in_default
unfolding join unless_refused
returns-in_default c = rw (← c.read.ensures, c.in_default.is) (c.number.ensures, (refl, refl))

pub returns-in_default-read : goal.returns-in_default-read
unfolding join unless_refused
returns-in_default-read c = rw (← c.read.ensures, c.in-Some.is, ← c.read-2.ensures, c.in_default-read.is) (c.number-in_default-read.ensures, (refl, refl))

pub returns : goal.returns
unfolding join
returns c = rw (← c.read.ensures, c.in-Some.is, ← c.read-2.ensures, c.in-Some-read.is, ← c.intersection.ensures) c.put_box.ensures
