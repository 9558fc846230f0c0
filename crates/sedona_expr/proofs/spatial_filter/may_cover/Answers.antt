-- `may_cover` meets its contract. Assumes nothing.
use Rattle.std.proofs.Common.{rules, refl}
use Rattle.sedona_expr.specs.SpatialFilter.{may_cover}
use Rattle.sedona_geometry.proofs.Options.{none_or}
use Rattle.sedona_expr.proofs.spatial_filter.may_cover.Goals as goal

pub returns : goal.returns
unfolding may_cover
returns c = none_or (λ b. may_cover b c.args.literal) refl c.args.b c.is_none_or.ensures (λ b e. search rules)
