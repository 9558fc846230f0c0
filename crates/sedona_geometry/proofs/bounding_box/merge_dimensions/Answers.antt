-- `merge_dimensions` meets its contract. Assumes nothing.
use Rattle.std.proofs.Common.{rules}
use Rattle.sedona_geometry.proofs.Dimensions.{joined}
use Rattle.sedona_geometry.proofs.bounding_box.merge_dimensions.Goals as goal

pub returns : goal.returns
returns c = joined _ c.args.a c.args.b c.zip.ensures c.map.ensures.cases (λ p i e. search rules)
