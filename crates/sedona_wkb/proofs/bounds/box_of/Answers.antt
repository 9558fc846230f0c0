-- `bounds::box_of` meets its contract. Assumes nothing.
use Rattle.sedona_wkb.specs.Bounds.{box_of}
use Rattle.sedona_geometry.proofs.Options.{by_flag}
use Rattle.sedona_wkb.proofs.bounds.box_of.Goals as goal

pub returns : goal.returns
unfolding box_of
returns c =
    rw (
      c.xyzm.ensures,
      c.from_interval-x.ensures,
      c.then_some-z.ensures,
      c.has_z.ensures,
      c.then_some-m.ensures,
      c.has_m.ensures,
      by_flag,
      by_flag,
    )
