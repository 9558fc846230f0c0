-- `layout::rises_where_known` meets its contract. Assumes nothing.
use Rattle.std.proofs.Common.{rules, refl}
use Rattle.sedona_geometry.proofs.Options.{none_or}
use Rattle.geoparquet_bbox.specs.Layout.{rises_where_known}
use Rattle.geoparquet_bbox.proofs.layout.rises_where_known.Goals as goal

pub returns : goal.returns
unfolding rises_where_known
returns c = none_or rises_where_known refl c.args.d c.is_none_or.ensures (λ i e. search rules)
