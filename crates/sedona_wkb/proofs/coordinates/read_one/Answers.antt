-- `coordinates::read_one` meets its contract. Assumes nothing.
use borrow.Author.Tests.{eq-eqb, ne_eqb}
use Rattle.sedona_wkb.specs.Wkb.{read_one}
use Rattle.sedona_wkb.proofs.coordinates.read_one.Goals as goal

pub returns-then-head-eq-POINT : goal.returns-then-head-eq-POINT
unfolding read_one
returns-then-head-eq-POINT c = rw (eq-eqb _ 1 c.if-head-eq-POINT.true) c.read_point.ensures

pub returns-then-head-eq-LINE_STRING : goal.returns-then-head-eq-LINE_STRING
unfolding read_one
returns-then-head-eq-LINE_STRING c = rw (ne_eqb _ 1 c.if-head-eq-POINT.false, eq-eqb _ 2 c.if-head-eq-LINE_STRING.true) c.read_line.ensures

pub returns : goal.returns
unfolding read_one
returns c = rw (ne_eqb _ 1 c.if-head-eq-POINT.false, ne_eqb _ 2 c.if-head-eq-LINE_STRING.false) c.read_polygon.ensures
