-- `johikape_box_intersects` meets its contract. Assumes nothing.
use Rattle.johikape.specs.Boxes.{test}
use Rattle.johikape.proofs.boxes.johikape_box_intersects.Goals as goal

pub returns-in_default : goal.returns-in_default
unfolding test
returns-in_default c = rw (← c.read.ensures, c.in_default.is, c.number.ensures)

pub returns-in_default-read : goal.returns-in_default-read
unfolding test
returns-in_default-read c = rw (← c.read.ensures, c.in-Some.is, ← c.read-2.ensures, c.in_default-read.is, c.number-in_default-read.ensures)

pub returns-then-intersects : goal.returns-then-intersects
unfolding test
returns-then-intersects c = rw (← c.read.ensures, c.in-Some.is, ← c.read-2.ensures, c.in-Some-read.is, ← c.intersects.ensures, c.if-intersects.true)

pub returns-else-intersects : goal.returns-else-intersects
unfolding test
returns-else-intersects c = rw (← c.read.ensures, c.in-Some.is, ← c.read-2.ensures, c.in-Some-read.is, ← c.intersects.ensures, c.if-intersects.false)
