-- `refusals::values_refusal` meets its contract. Assumes nothing.
use Rattle.sedona_expr.specs.Refusals.{values_refusal}
use Rattle.sedona_expr.proofs.refusals.values_refusal.Goals as goal

pub returns-then-not-are_good_flags : goal.returns-then-not-are_good_flags
unfolding values_refusal
returns-then-not-are_good_flags c = rw (← c.are_good_flags.ensures, c.if-not-are_good_flags.true)

pub returns-then-are_zero_or_one : goal.returns-then-are_zero_or_one
unfolding values_refusal
returns-then-are_zero_or_one c = rw (← c.are_good_flags.ensures, c.if-not-are_good_flags.false, ← c.are_zero_or_one.ensures, c.if-are_zero_or_one.true)

pub returns-else-are_zero_or_one : goal.returns-else-are_zero_or_one
unfolding values_refusal
returns-else-are_zero_or_one c = rw (← c.are_good_flags.ensures, c.if-not-are_good_flags.false, ← c.are_zero_or_one.ensures, c.if-are_zero_or_one.false)
