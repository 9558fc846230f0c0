-- `dimensions_contain` meets its contract. Assumes nothing.
use Rattle.std.proofs.Common.{rules}
use Rattle.sedona_geometry.proofs.Dimensions.{tested}
use Rattle.sedona_geometry.proofs.bounding_box.dimensions_contain.Goals as goal

pub returns : goal.returns
returns c = tested _ c.args.a c.args.b c.zip.ensures c.is_none_or.ensures (λ p e. search rules)
