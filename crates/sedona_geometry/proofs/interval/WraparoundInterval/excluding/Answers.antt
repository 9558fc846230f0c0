-- `WraparoundInterval::excluding` meets its contract. Assumes nothing.
use Rattle.sedona_geometry.specs.WraparoundInterval.{excluding}
use Rattle.sedona_geometry.proofs.interval.WraparoundInterval.excluding.Goals as goal

pub returns-then-lo-hi : goal.returns-then-lo-hi
unfolding excluding
returns-then-lo-hi c = rw (c.full.ensures, c.if-lo-hi.true)

pub returns : goal.returns
unfolding excluding
returns c = rw (c.new.ensures, c.if-lo-hi.false)
