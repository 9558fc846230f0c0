-- `may_intersect` meets its contract. Assumes nothing.
use Rattle.std.proofs.Common.{rules, refl}
use Rattle.sedona_expr.specs.SpatialFilter.{may_intersect}
use Rattle.sedona_geometry.proofs.Options.{none_or}
use Rattle.sedona_expr.proofs.spatial_filter.may_intersect.Goals as goal

pub returns : goal.returns
unfolding may_intersect
returns c = none_or (λ b. may_intersect b c.args.literal) refl c.args.b c.is_none_or.ensures (λ b e. search rules)
