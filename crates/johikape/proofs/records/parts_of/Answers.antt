-- `records::parts_of` meets its contract. Assumes nothing.
use mathlib.Core.Path.{◌≡◌}
use mathlib.Core.Bool.{Bool, true, false, cond}
use mathlib.Core.List.{[], ◌∷◌}
use Prim.Native.Nat.{ℕ, ◌+◌, ◌*◌}
use native.Mathlib.Omega.{arith}
use Rattle.sedona_expr.specs.declared.statistics.GeoStatistics.{GeoStatistics}
use Rattle.johikape.specs.Records.{knows_types, knows_total, knows_extent, known, of_bools}
use Rattle.johikape.proofs.records.parts_of.Goals as goal

-- a flag is so many times its bit
times : (b : Bool) (n : ℕ) → cond b n 0 ≡ n * cond b 1 0
times true n = omega arith
times false n = omega arith

sum_is : (a b c d e f g h i j : Bool)
    → cond a 1 0 + cond b 2 0 + cond c 4 0 + cond d 8 0 + cond e 16 0 + cond f 32 0 + cond g 64 0 + cond h 128 0 + cond i 256 0 + cond j 512 0
    ≡ of_bools (a ∷ b ∷ c ∷ d ∷ e ∷ f ∷ g ∷ h ∷ i ∷ j ∷ [])
sum_is a b c d e f g h i j = omega (arith, times b 2, times c 4, times d 8, times e 16, times f 32, times g 64, times h 128, times i 256, times j 512)

-- of a record
sum_of : (s : GeoStatistics)
    → cond (knows_types s.geometry_types) 1 0 + cond (knows_total s.total_geometries) 2 0 + cond (knows_total s.total_size_bytes) 4 0 + cond (knows_total s.total_points) 8 0 + cond (knows_total s.puntal_count) 16 0 + cond (knows_total s.lineal_count) 32 0 + cond (knows_total s.polygonal_count) 64 0 + cond (knows_total s.collection_count) 128 0 + cond (knows_extent s.total_envelope_width) 256 0 + cond (knows_extent s.total_envelope_height) 512 0
    ≡ of_bools (known s)
sum_of s = sum_is (knows_types s.geometry_types) (knows_total s.total_geometries) (knows_total s.total_size_bytes) (knows_total s.total_points) (knows_total s.puntal_count) (knows_total s.lineal_count) (knows_total s.polygonal_count) (knows_total s.collection_count) (knows_extent s.total_envelope_width) (knows_extent s.total_envelope_height)

pub returns : goal.returns
returns c = (
  rw (c.flag_of.ensures.0, c.flag_of-2.ensures.0, c.flag_of-3.ensures.0, c.flag_of-4.ensures.0, c.flag_of-5.ensures.0, c.flag_of-6.ensures.0, c.flag_of-7.ensures.0, c.flag_of-8.ensures.0, c.flag_of-9.ensures.0, c.flag_of-10.ensures.0) (sum_of c.args.r),
  omega (arith, c.flag_of.ensures.1, c.flag_of-2.ensures.1, c.flag_of-3.ensures.1, c.flag_of-4.ensures.1, c.flag_of-5.ensures.1, c.flag_of-6.ensures.1, c.flag_of-7.ensures.1, c.flag_of-8.ensures.1, c.flag_of-9.ensures.1, c.flag_of-10.ensures.1),
)
