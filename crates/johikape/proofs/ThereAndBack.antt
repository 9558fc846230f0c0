-- What crosses comes back: a box, and a record, that is put into C's lists and read again is the same, with +0 for zero; and so it is itself where it
-- has no −0, as every one has that a call gives. Assumes nothing.
use Rattle.std.specs.Prelude.{Option, Some, None, ℤ}
use mathlib.Core.Path.{◌≡◌, refl, sym, ap, ◌∙◌}
use mathlib.Core.List.{List, [], ◌∷◌}
use mathlib.Core.Bool.{Bool, true, false, cond}
use Prim.Native.Nat.{ℕ, zero, suc, ◌+◌, ◌*◌, ◌/◌, ◌%◌, ◌^◌, ◌<◌}
use native.Mathlib.Nat.{zero-div, pow-suc, mul_comm, div-div-eq-div-mul}
use native.Mathlib.Omega.{arith}
use borrow.Author.Tests.{eq-eqb, ne_eqb}
use lib.ListN.{get_or}
use lib.Ieee.{Float}
use Rattle.sedona_geometry.specs.BoundingBox.{Canonical, plus_zero}
use Rattle.sedona_geometry.specs.declared.bounding_box.BoundingBox.{BoundingBox}
use Rattle.sedona_geometry.proofs.Canonical.{stays_box}
use Rattle.sedona_geometry.proofs.PlusZero.{twice}
use Rattle.sedona_expr.specs.Statistics as statistics
use Rattle.sedona_expr.proofs.Canonical.{stays_record}
use Rattle.sedona_geometry.specs.Bits.{has_bit}
use Rattle.sedona_expr.specs.Tables.{flag_limit, boxes, box_with, box_at}
use Rattle.sedona_expr.specs.Refusals.{good_flag}
use Rattle.sedona_expr.specs.declared.statistics.GeoStatistics.{GeoStatistics}
use Rattle.johikape.specs.Boxes as box
use Rattle.johikape.specs.Records as rec
use Rattle.sedona_geometry.specs.declared.types.GeometryTypeAndDimensionsSet.{GeometryTypeAndDimensionsSet}
use Rattle.sedona_geometry.specs.declared.interval.Interval.{Interval}

-- ---- a box
abbrev with : BoundingBox → Option Interval → Option Interval → BoundingBox
with b z m = record { x = b.x; y = b.y; z = z; m = m }

pub box_back : (b : BoundingBox) → box.read (box.doubles b) (box.flag b) ≡ Some (plus_zero b)
unfolding box.read good_flag box_at box_with
box_back b = go b.z b.m
  where
    go : (z m : Option Interval) → box.read (box.doubles (with b z m)) (box.flag (with b z m)) ≡ Some (plus_zero (with b z m))
    go None None = simp twice
    go None (Some j) = simp twice
    go (Some i) None = simp twice
    go (Some i) (Some j) = simp twice

pub box_back_same : (b : BoundingBox) → Canonical b → box.read (box.doubles b) (box.flag b) ≡ Some b
box_back_same b c = box_back b ∙ ap (λ (d : BoundingBox). Some d) (stays_box c)

-- ---- a record: behind the box's flags a bit each for its parts
bbox_small : (b : Option BoundingBox) → rec.bbox_flag b < flag_limit
bbox_small None = omega arith
bbox_small (Some b) = go b.z b.m
  where
    go : (z m : Option Interval) → 1 + box.known z 2 + box.known m 4 < flag_limit
    go None None = omega arith
    go None (Some j) = omega arith
    go (Some i) None = omega arith
    go (Some i) (Some j) = omega arith

behind_box : {low : ℕ} (n : ℕ) → low < flag_limit → (low + flag_limit * n) / flag_limit ≡ n
behind_box n h = omega (arith, h)

-- the bits of a number that is made of them
bit_of : (bs : List Bool) (k : ℕ) → has_bit (rec.of_bools bs) k ≡ get_or bs k false
bit_of [] k = rw (zero-div (2 ^ k))
bit_of (true ∷ bs) zero = eq-eqb ((1 + 2 * rec.of_bools bs) / 1 % 2) 1 (omega arith)
bit_of (false ∷ bs) zero = ne_eqb ((0 + 2 * rec.of_bools bs) / 1 % 2) 1 (λ e. absurd (omega arith))
bit_of (b ∷ bs) (suc k) = rw (halved b) (bit_of bs k)
  where
    bit_small : (b : Bool) → cond b 1 0 < 2
    bit_small true = omega arith
    bit_small false = omega arith

    halved : (b : Bool) → (cond b 1 0 + 2 * rec.of_bools bs) / 2 ^ suc k ≡ rec.of_bools bs / 2 ^ k
    halved b =
        ap (λ (d : ℕ). (cond b 1 0 + 2 * rec.of_bools bs) / d) (pow-suc 2 k ∙ mul_comm (2 ^ k) 2)
        ∙ sym (div-div-eq-div-mul (cond b 1 0 + 2 * rec.of_bools bs) 2 (2 ^ k))
        ∙ ap (λ (n : ℕ). n / 2 ^ k) (omega (arith, bit_small b))

-- a part is what its bit says
types_back : (t : Option GeometryTypeAndDimensionsSet) {k : Bool} → k ≡ rec.knows_types t → rec.types_of k (rec.types t) ≡ t
types_back None e = rw e
types_back (Some s) e = rw e

total_back : (t : Option ℤ) {k : Bool} → k ≡ rec.knows_total t → rec.total_of k (rec.total t) ≡ t
total_back None e = rw e
total_back (Some n) e = rw e

extent_back : (x : Option Float) {k : Bool} → k ≡ rec.knows_extent x → rec.extent_of k (rec.extent x) ≡ x
extent_back None e = rw e
extent_back (Some x) e = rw e

-- the box, of the first eight of any doubles that begin with its own
bbox_back : (c : Option BoundingBox) (v w : Float) → box_at (boxes (rec.box_doubles c v w) (rec.bbox_flag c ∷ [])) 0 ≡ statistics.plus_zero_where_known c
unfolding box_at box_with
bbox_back None v w = refl
bbox_back (Some b) v w = go b.z b.m
  where
    go : (z m : Option Interval) → box_at (boxes (rec.box_doubles (Some (with b z m)) v w) (rec.bbox_flag (Some (with b z m)) ∷ [])) 0 ≡ Some (plus_zero (with b z m))
    go None None = simp twice
    go None (Some j) = simp twice
    go (Some i) None = simp twice
    go (Some i) (Some j) = simp twice

-- ---- the whole record
module _ (s : GeoStatistics) where
  part : (k : ℕ) → rec.has (rec.flags s) k ≡ get_or (rec.known s) k false
  unfolding rec.flags
  part k = rw (behind_box (rec.of_bools (rec.known s)) (bbox_small s.bbox)) (bit_of (rec.known s) k)

  bbox_flags : rec.flags s % flag_limit ≡ rec.bbox_flag s.bbox
  unfolding rec.flags
  bbox_flags = omega (arith, bbox_small s.bbox)

  bbox_again : box_at (boxes (rec.doubles s) (rec.flags s % flag_limit ∷ [])) 0 ≡ statistics.plus_zero_where_known s.bbox
  bbox_again = rw bbox_flags (bbox_back s.bbox (rec.extent s.total_envelope_width) (rec.extent s.total_envelope_height))

  pub record_back : rec.read_parts (rec.written s) ≡ statistics.plus_zero s
  unfolding rec.read box_at box_with
  record_back = λ i. record {
    bbox = bbox_again i;
    geometry_types = types_back s.geometry_types (part 0) i;
    total_geometries = total_back s.total_geometries (part 1) i;
    total_size_bytes = total_back s.total_size_bytes (part 2) i;
    total_points = total_back s.total_points (part 3) i;
    puntal_count = total_back s.puntal_count (part 4) i;
    lineal_count = total_back s.lineal_count (part 5) i;
    polygonal_count = total_back s.polygonal_count (part 6) i;
    collection_count = total_back s.collection_count (part 7) i;
    total_envelope_width = extent_back s.total_envelope_width (part 8) i;
    total_envelope_height = extent_back s.total_envelope_height (part 9) i;
  }

pub record_back_same : (s : GeoStatistics) → statistics.CanonicalWhereKnown s.bbox → rec.read_parts (rec.written s) ≡ s
record_back_same s c = record_back s ∙ stays_record c
