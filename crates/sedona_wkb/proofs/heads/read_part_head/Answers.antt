-- `heads::read_part_head` meets its contract. Assumes nothing.
use Rattle.std.proofs.Common.{rules}
use mathlib.Core.Path.{sym, ◌∙◌}
use Rattle.sedona_wkb.specs.Outcome.{headed}
use Rattle.sedona_wkb.proofs.Readers.{part_head_refused, part_head_found, tested_passes, tested_fails}
use Rattle.sedona_wkb.proofs.heads.read_part_head.Goals as goal

pub returns-in_err-head : goal.returns-in_err-head
unfolding headed
returns-in_err-head c = rw (part_head_refused c.args.parent _ _ c.in_err-head.ensures) (search rules)

pub returns-then-is_part : goal.returns-then-is_part
unfolding headed
returns-then-is_part c =
    part_head_found c.args.parent _ _ _ c.in_ok-head.ensures
    ∙ tested_passes _ _ _ (sym c.is_part.ensures ∙ c.if-is_part.true)

pub returns : goal.returns
unfolding headed
returns c =
    part_head_found c.args.parent _ _ _ c.in_ok-head.ensures
    ∙ tested_fails _ _ _ (sym c.is_part.ensures ∙ c.if-is_part.false)
