-- `WraparoundInterval::merge_wrapped` meets its contract. Assumes nothing.
use Rattle.sedona_geometry.specs.WraparoundInterval.{merge_wrapped}
use Rattle.sedona_geometry.proofs.interval.WraparoundInterval.merge_wrapped.Goals as goal

pub returns : goal.returns
unfolding merge_wrapped
returns c =
    rw (
      c.from_pieces.ensures,
      c.merge_interval.ensures,
      c.merge_interval-2.ensures,
      c.split-a.ensures,
      c.split-b.ensures,
    )
