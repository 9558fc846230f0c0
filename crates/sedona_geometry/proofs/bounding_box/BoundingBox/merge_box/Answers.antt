-- `BoundingBox::merge_box` meets its contract. Assumes nothing.
use Rattle.sedona_geometry.specs.BoundingBox.{merge_box}
use Rattle.sedona_geometry.proofs.bounding_box.BoundingBox.merge_box.Goals as goal

pub returns : goal.returns
unfolding merge_box
returns c =
    rw (
      c.xyzm.ensures,
      c.merge_interval.ensures,
      c.merge_interval-2.ensures,
      c.merge_dimensions.ensures,
      c.merge_dimensions-2.ensures,
    )
