-- `is_known_empty` meets its contract. Assumes nothing.
use Rattle.std.proofs.Common.{rules, refl}
use Rattle.sedona_expr.specs.SpatialFilter.{is_known_empty}
use Rattle.sedona_geometry.proofs.Options.{some_and}
use Rattle.sedona_expr.proofs.spatial_filter.is_known_empty.Goals as goal

pub returns : goal.returns
unfolding is_known_empty
returns c = some_and is_known_empty refl c.args.d c.is_some_and.ensures (λ x e. search rules)
