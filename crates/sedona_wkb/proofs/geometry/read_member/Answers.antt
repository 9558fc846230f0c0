-- `geometry::read_member` meets its contract. Assumes nothing.
use Rattle.std.proofs.Common.{rules}
use mathlib.Core.Path.{◌∙◌}
use Rattle.sedona_wkb.specs.Outcome.{headed, reached}
use Rattle.sedona_wkb.specs.Wkb.{read_one}
use Rattle.sedona_wkb.proofs.Readers.{within_refused, within_found}
use Rattle.sedona_wkb.proofs.geometry.read_member.Goals as goal

pub returns-in_err-head : goal.returns-in_err-head
unfolding headed reached
returns-in_err-head c = rw (within_refused c.args.parent _ read_one c.args.e _ c.in_err-head.ensures) (search rules)

pub returns : goal.returns
unfolding headed
returns c = within_found c.args.parent _ read_one c.args.e _ _ c.in_ok-head.ensures ∙ c.read_one.ensures
