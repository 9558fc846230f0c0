-- `statistics::add_extents` meets its contract. Assumes nothing.
use Rattle.std.proofs.Common.{rules}
use Rattle.sedona_expr.proofs.Parts.{extents_added}
use Rattle.sedona_expr.proofs.statistics.add_extents.Goals as goal

pub returns : goal.returns
returns c = extents_added c.args.a c.args.b c.zip.ensures c.map.ensures.cases (λ p x e. search rules)
