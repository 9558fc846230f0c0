-- `johikape_box_contains` meets its contract. Assumes nothing.
use Rattle.johikape.specs.Boxes.{test}
use Rattle.johikape.proofs.boxes.johikape_box_contains.Goals as goal

pub returns-in_default : goal.returns-in_default
unfolding test
returns-in_default c = rw (← c.read.ensures, c.in_default.is, c.number.ensures)

pub returns-in_default-read : goal.returns-in_default-read
unfolding test
returns-in_default-read c = rw (← c.read.ensures, c.in-Some.is, ← c.read-2.ensures, c.in_default-read.is, c.number-in_default-read.ensures)

pub returns-then-contains : goal.returns-then-contains
unfolding test
returns-then-contains c = rw (← c.read.ensures, c.in-Some.is, ← c.read-2.ensures, c.in-Some-read.is, ← c.contains.ensures, c.if-contains.true)

pub returns-else-contains : goal.returns-else-contains
unfolding test
returns-else-contains c = rw (← c.read.ensures, c.in-Some.is, ← c.read-2.ensures, c.in-Some-read.is, ← c.contains.ensures, c.if-contains.false)
