-- `records::read` meets its contract. Assumes nothing.
use Rattle.johikape.specs.Records.{read}
use Rattle.sedona_geometry.proofs.Options.{by_flag}
use Rattle.johikape.proofs.records.read.Goals as goal

pub returns : goal.returns
unfolding read
returns c = λ i. record {
  bbox = (rw (c.new.ensures.0, c.new.ensures.1) at c.at.ensures) i;
  geometry_types = (rw (by_flag, c.from_bits-set.ensures) at c.then_some.ensures) i;
  total_geometries = c.total_at.ensures i;
  total_size_bytes = c.total_at-2.ensures i;
  total_points = c.total_at-3.ensures i;
  puntal_count = c.total_at-4.ensures i;
  lineal_count = c.total_at-5.ensures i;
  polygonal_count = c.total_at-6.ensures i;
  collection_count = c.total_at-7.ensures i;
  total_envelope_width = (rw by_flag at c.then_some-2.ensures) i;
  total_envelope_height = (rw by_flag at c.then_some-3.ensures) i;
}
