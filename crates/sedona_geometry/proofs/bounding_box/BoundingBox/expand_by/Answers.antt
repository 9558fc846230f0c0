-- `BoundingBox::expand_by` meets its contract. Assumes nothing.
use Rattle.sedona_geometry.specs.BoundingBox.{expand_by}
use Rattle.sedona_geometry.proofs.bounding_box.BoundingBox.expand_by.Goals as goal

pub returns : goal.returns
unfolding expand_by
returns c = rw (c.xyzm.ensures, c.expand_by.ensures, c.expand_by-2.ensures)
