-- `BoundingBox::is_empty` meets its contract. Assumes nothing.
use Rattle.sedona_geometry.specs.BoundingBox.{is_empty}
use Rattle.sedona_geometry.proofs.bounding_box.BoundingBox.is_empty.Goals as goal

pub returns-then-is_empty : goal.returns-then-is_empty
unfolding is_empty
returns-then-is_empty c = rw (← c.is_empty.ensures, c.if-is_empty.true)

pub returns-else-is_empty : goal.returns-else-is_empty
unfolding is_empty
returns-else-is_empty c = rw (← c.is_empty.ensures, c.if-is_empty.false, c.is_empty-else-is_empty.ensures)
