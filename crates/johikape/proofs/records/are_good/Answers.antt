-- `records::are_good` meets its contract. Assumes nothing.
use borrow.Author.Tests.{le-ltb, lt-ltb}
use Rattle.johikape.specs.Records.{good_flags}
use Rattle.johikape.proofs.records.are_good.Goals as goal

pub returns-then-flags-ge-ALL : goal.returns-then-flags-ge-ALL
unfolding good_flags
returns-then-flags-ge-ALL c = rw (le-ltb _ _ c.if-flags-ge-ALL.true)

pub returns : goal.returns
unfolding good_flags
returns c = rw (lt-ltb _ _ c.if-flags-ge-ALL.false, c.is_good_flag.ensures)
