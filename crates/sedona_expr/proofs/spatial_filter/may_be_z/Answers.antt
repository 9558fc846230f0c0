-- `may_be_z` meets its contract. Assumes nothing.
use Rattle.std.proofs.Common.{rules, refl}
use Rattle.sedona_expr.specs.SpatialFilter.{may_be_z}
use Rattle.sedona_geometry.proofs.Options.{none_or}
use Rattle.sedona_expr.proofs.spatial_filter.may_be_z.Goals as goal

pub returns : goal.returns
unfolding may_be_z
returns c = none_or may_be_z refl c.args.types c.is_none_or.ensures (λ s e. search rules)
