-- `bounds::wkb_bounds` meets its contract. Assumes nothing.
use Rattle.std.proofs.Common.{rules}
use mathlib.Core.Path.{sym, ap, ◌∙◌}
use Rattle.sedona_wkb.specs.Bounds.{answer}
use Rattle.sedona_wkb.specs.Outcome.{headed}
use Rattle.sedona_wkb.proofs.Answers.{too_long, head_refused, head_found}
use Rattle.sedona_wkb.proofs.Only.{head_known}
use Rattle.sedona_wkb.proofs.bounds.wkb_bounds.Goals as goal

pub returns-then-bytes-gt-MOST_BYTES : goal.returns-then-bytes-gt-MOST_BYTES
returns-then-bytes-gt-MOST_BYTES c = too_long _ c.if-bytes-gt-MOST_BYTES.true

pub bounds_of-requires : goal.bounds_of-requires
unfolding headed
bounds_of-requires c = head_known c.args.bytes.now _ _ c.in_ok-head.ensures

pub returns-in_err-head : goal.returns-in_err-head
unfolding headed
returns-in_err-head c = rw (← head_refused c.args.bytes.now c.if-bytes-gt-MOST_BYTES.false _ c.in_err-head.ensures) (search rules)

pub returns : goal.returns
unfolding headed
returns c = c.bounds_of.ensures ∙ ap answer (sym (head_found c.args.bytes.now c.if-bytes-gt-MOST_BYTES.false _ _ c.in_ok-head.ensures))
