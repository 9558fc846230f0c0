-- `tables::Kind::try_from` meets its contract. Assumes nothing.
use mathlib.Core.Path.{◌∙◌}
use native.Mathlib.Omega.{arith}
use Rattle.sedona_expr.proofs.NodeKinds.{same_word}
use Rattle.sedona_expr.proofs.tables.KindTryFromU32.try_from.Goals as goal

pub returns : goal.returns
returns c = c.of.ensures ∙ same_word _ (omega (arith, c.if-word-gt-LAST_KIND.false))
