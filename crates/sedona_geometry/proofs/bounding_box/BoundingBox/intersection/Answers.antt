-- `BoundingBox::intersection` meets its contract. Assumes nothing.
use Rattle.std.proofs.Common.{rules}
use Rattle.sedona_geometry.specs.BoundingBox.{intersection, with_x, intersect_dimensions}
use Rattle.sedona_geometry.specs.Interval as interval
use Rattle.sedona_geometry.proofs.Canonical.{stays_box, xyzm_canonical}
use Rattle.sedona_geometry.proofs.bounding_box.BoundingBox.intersection.Goals as goal

pub returns-in_err-x : goal.returns-in_err-x
unfolding intersection with_x
returns-in_err-x c = rw (← c.intersection.ensures, c.in_err-x.was) (search rules)

pub returns : goal.returns
unfolding intersection with_x
returns c =
    let a = c.args.self in
    let b = c.args.other in
    rw (
      ← c.intersection.ensures,
      c.in_ok-x.was,
      stays_box (xyzm_canonical c.in_ok-x.x (interval.intersection a.y b.y) (intersect_dimensions a.z b.z) (intersect_dimensions a.m b.m)),
      c.xyzm.ensures,
      c.intersection-2.ensures,
      c.intersect_dimensions.ensures,
      c.intersect_dimensions-2.ensures,
    )
