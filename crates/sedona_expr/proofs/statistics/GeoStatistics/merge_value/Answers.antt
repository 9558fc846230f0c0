-- `GeoStatistics::merge_value` meets its contract. Assumes nothing.
use Rattle.std.proofs.Common.{rules, ◌≡◌, false}
use Rattle.sedona_expr.specs.Statistics.{Which, total, sum_is_outside, merge_value, merge_parts, geometries, size_bytes, points, puntal, lineal, polygonal, collection}
use Rattle.sedona_expr.proofs.Checked.{refused_at, stays_at, all_stay}
use Rattle.sedona_expr.proofs.statistics.GeoStatistics.merge_value.Goals as goal

pub returns-in_err-total_geometries : goal.returns-in_err-total_geometries
returns-in_err-total_geometries c = rw (refused_at geometries c.args.self c.args.other c.add_totals.ensures c.in_err-total_geometries.was) (search rules)

pub returns-in_err-total_size_bytes : goal.returns-in_err-total_size_bytes
returns-in_err-total_size_bytes c = rw (refused_at size_bytes c.args.self c.args.other c.add_totals-2.ensures c.in_err-total_size_bytes.was) (search rules)

pub returns-in_err-total_points : goal.returns-in_err-total_points
returns-in_err-total_points c = rw (refused_at points c.args.self c.args.other c.add_totals-3.ensures c.in_err-total_points.was) (search rules)

pub returns-in_err-puntal_count : goal.returns-in_err-puntal_count
returns-in_err-puntal_count c = rw (refused_at puntal c.args.self c.args.other c.add_totals-4.ensures c.in_err-puntal_count.was) (search rules)

pub returns-in_err-lineal_count : goal.returns-in_err-lineal_count
returns-in_err-lineal_count c = rw (refused_at lineal c.args.self c.args.other c.add_totals-5.ensures c.in_err-lineal_count.was) (search rules)

pub returns-in_err-polygonal_count : goal.returns-in_err-polygonal_count
returns-in_err-polygonal_count c = rw (refused_at polygonal c.args.self c.args.other c.add_totals-6.ensures c.in_err-polygonal_count.was) (search rules)

pub returns-in_err-collection_count : goal.returns-in_err-collection_count
returns-in_err-collection_count c = rw (refused_at collection c.args.self c.args.other c.add_totals-7.ensures c.in_err-collection_count.was) (search rules)

pub returns : goal.returns
unfolding merge_value merge_parts
returns c =
    let s0 = stays_at geometries c.args.self c.args.other c.add_totals.ensures c.in_ok-total_geometries.was in
    let s1 = stays_at size_bytes c.args.self c.args.other c.add_totals-2.ensures c.in_ok-total_size_bytes.was in
    let s2 = stays_at points c.args.self c.args.other c.add_totals-3.ensures c.in_ok-total_points.was in
    let s3 = stays_at puntal c.args.self c.args.other c.add_totals-4.ensures c.in_ok-puntal_count.was in
    let s4 = stays_at lineal c.args.self c.args.other c.add_totals-5.ensures c.in_ok-lineal_count.was in
    let s5 = stays_at polygonal c.args.self c.args.other c.add_totals-6.ensures c.in_ok-polygonal_count.was in
    let s6 = stays_at collection c.args.self c.args.other c.add_totals-7.ensures c.in_ok-collection_count.was in
    let stay : (w : Which) → sum_is_outside (total w c.args.self) (total w c.args.other) ≡ false =
    elim [
      | geometries ↦ s0.0
      | size_bytes ↦ s1.0
      | points ↦ s2.0
      | puntal ↦ s3.0
      | lineal ↦ s4.0
      | polygonal ↦ s5.0
      | collection ↦ s6.0
    ] in
    rw (
      all_stay c.args.self c.args.other stay,
      c.merge_bboxes.ensures,
      c.merge_types.ensures,
      s0.1,
      s1.1,
      s2.1,
      s3.1,
      s4.1,
      s5.1,
      s6.1,
      c.add_extents.ensures,
      c.add_extents-2.ensures,
    )
