-- `WraparoundInterval::contains_by_pieces` meets its contract. Assumes nothing.
use Rattle.sedona_geometry.specs.WraparoundInterval.{contains_interval}
use Rattle.sedona_geometry.proofs.interval.WraparoundInterval.contains_by_pieces.Goals as goal

pub returns-then-contain : goal.returns-then-contain
unfolding contains_interval
returns-then-contain c =
    rw (
      ← c.split-a.ensures,
      ← c.split-b.ensures,
      ← c.contain.ensures,
      c.if-contain.true,
      c.contain-then-contain.ensures,
    )

pub returns-else-contain : goal.returns-else-contain
unfolding contains_interval
returns-else-contain c =
    rw (
      ← c.split-a.ensures,
      ← c.split-b.ensures,
      ← c.contain.ensures,
      c.if-contain.false,
    )
