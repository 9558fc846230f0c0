-- `Interval::is_full` meets its contract. Assumes nothing.
use lib.Ieee.{neg}
use Rattle.sedona_geometry.specs.Interval.{is_full}
use Rattle.sedona_geometry.proofs.interval.Interval.is_full.Goals as goal

pub returns-then-self-infinity : goal.returns-then-self-infinity
unfolding is_full neg
returns-then-self-infinity c =
    rw (
      c.infinity-then-self-infinity.ensures,
      rw c.infinity.ensures at c.if-self-infinity.true,
    )

pub returns-else-self-infinity : goal.returns-else-self-infinity
unfolding is_full neg
returns-else-self-infinity c = rw (c.infinity.ensures, rw c.infinity.ensures at c.if-self-infinity.false)
