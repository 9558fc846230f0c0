-- `heads::is_type` meets its contract. Assumes nothing.
use borrow.Author.Tests.{lt-ltb, le-ltb, le-leb, lt-leb}
use Rattle.sedona_wkb.specs.Wkb.{is_type}
use Rattle.sedona_wkb.proofs.heads.is_type.Goals as goal

pub returns-then-head-le-COLLECTION : goal.returns-then-head-le-COLLECTION
unfolding is_type
returns-then-head-le-COLLECTION c = rw (lt-ltb _ _ c.if-head-gt0.true, le-leb _ _ c.if-head-le-COLLECTION.true)

pub returns-else-head-le-COLLECTION : goal.returns-else-head-le-COLLECTION
unfolding is_type
returns-else-head-le-COLLECTION c = rw (lt-ltb _ _ c.if-head-gt0.true, lt-leb _ _ c.if-head-le-COLLECTION.false)

pub returns-else-head-gt0 : goal.returns-else-head-gt0
unfolding is_type
returns-else-head-gt0 c = rw (le-ltb _ _ c.if-head-gt0.false)
