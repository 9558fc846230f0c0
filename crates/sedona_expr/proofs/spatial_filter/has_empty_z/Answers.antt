-- `has_empty_z` meets its contract. Assumes nothing.
use Rattle.std.proofs.Common.{rules, refl}
use Rattle.sedona_expr.specs.SpatialFilter.{has_empty_z}
use Rattle.sedona_geometry.proofs.Options.{some_and}
use Rattle.sedona_expr.proofs.spatial_filter.has_empty_z.Goals as goal

pub returns : goal.returns
unfolding has_empty_z
returns c = some_and has_empty_z refl c.args.b c.is_some_and.ensures (λ x e. search rules)
