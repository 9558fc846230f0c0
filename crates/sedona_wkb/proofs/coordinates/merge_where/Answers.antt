-- `coordinates::merge_where` meets its contract. Assumes nothing.
use Rattle.sedona_wkb.specs.Extents.{merge_where}
use Rattle.sedona_wkb.specs.Places.{double_where, width_where}
use Rattle.sedona_wkb.proofs.coordinates.merge_where.Goals as goal

pub double_at-requires : goal.double_at-requires
unfolding width_where
double_at-requires c = rw c.if-has.true at c.requires

pub returns-then-has : goal.returns-then-has
unfolding merge_where double_where
returns-then-has c = rw (c.merge_value.ensures, c.double_at.ensures, c.if-has.true)

pub returns : goal.returns
unfolding merge_where double_where
returns c = rw c.if-has.false
