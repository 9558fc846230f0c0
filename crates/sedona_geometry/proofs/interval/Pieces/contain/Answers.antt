-- `Pieces::contain` meets its contract. Assumes nothing.
use Rattle.sedona_geometry.specs.WraparoundInterval.{pieces_contain}
use Rattle.sedona_geometry.proofs.interval.Pieces.contain.Goals as goal

pub returns-then-is_empty : goal.returns-then-is_empty
unfolding pieces_contain
returns-then-is_empty c = rw (← c.is_empty.ensures, c.if-is_empty.true)

pub returns-then-contains_interval : goal.returns-then-contains_interval
unfolding pieces_contain
returns-then-contains_interval c =
    rw (← c.is_empty.ensures, c.if-is_empty.false, ← c.contains_interval.ensures, c.if-contains_interval.true)

pub returns-else-contains_interval : goal.returns-else-contains_interval
unfolding pieces_contain
returns-else-contains_interval c =
    rw (
      ← c.is_empty.ensures,
      c.if-is_empty.false,
      ← c.contains_interval.ensures,
      c.if-contains_interval.false,
      c.contains_interval-else-contains_interval.ensures,
    )
