-- `refusals::literals_refusal` meets its contract. Assumes nothing.
use Rattle.sedona_expr.specs.Refusals.{literals_refusal}
use Rattle.sedona_expr.proofs.refusals.literals_refusal.Goals as goal

pub returns-then-not-are_whole : goal.returns-then-not-are_whole
unfolding literals_refusal
returns-then-not-are_whole c = rw (← c.are_whole.ensures, c.if-not-are_whole.true)

pub returns-then-are_good_flags : goal.returns-then-are_good_flags
unfolding literals_refusal
returns-then-are_good_flags c =
    rw (← c.are_whole.ensures, c.if-not-are_whole.false, ← c.are_good_flags.ensures, c.if-are_good_flags.true)

pub returns-else-are_good_flags : goal.returns-else-are_good_flags
unfolding literals_refusal
returns-else-are_good_flags c =
    rw (← c.are_whole.ensures, c.if-not-are_whole.false, ← c.are_good_flags.ensures, c.if-are_good_flags.false)
