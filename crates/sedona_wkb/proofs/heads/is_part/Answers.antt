-- `heads::is_part` meets its contract. Assumes nothing.
use borrow.Author.Tests.{eq-eqb, ne_eqb}
use Rattle.sedona_wkb.specs.Wkb.{is_part}
use Rattle.sedona_wkb.proofs.heads.is_part.Goals as goal

pub returns-then-parent-eq-COLLECTION : goal.returns-then-parent-eq-COLLECTION
unfolding is_part
returns-then-parent-eq-COLLECTION c = rw (eq-eqb _ _ c.if-head-parent.true, eq-eqb _ _ c.if-parent-eq-COLLECTION.true)

pub returns-else-parent-eq-COLLECTION : goal.returns-else-parent-eq-COLLECTION
unfolding is_part
returns-else-parent-eq-COLLECTION c = rw (eq-eqb _ _ c.if-head-parent.true, ne_eqb _ _ c.if-parent-eq-COLLECTION.false)

pub returns-else-head-parent : goal.returns-else-head-parent
unfolding is_part
returns-else-head-parent c = rw (ne_eqb _ _ c.if-head-parent.false)
