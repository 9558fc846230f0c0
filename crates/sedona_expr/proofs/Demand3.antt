-- Demand 3: its two halves, of the laws of folds and of filter boxes, and the whole. Assumes nothing.
use Rattle.std.specs.Prelude.{Option, Some, None}
use mathlib.Core.Path.{◌≡◌, refl, sym, ◌∙◌}
use mathlib.Core.Bool.{true}
use mathlib.Core.List.{List}
use Prim.Native.Nat.{ℕ, ◌-◌, ◌<◌}
use native.Mathlib.Omega.{arith}
use lib.ListN.{length, get_or}
use Rattle.sedona_geometry.specs.BoundingBox as bounding_box
use Rattle.sedona_geometry.specs.BoundingBox.{Each, Doubles, numbered}
use Rattle.sedona_geometry.specs.declared.bounding_box.BoundingBox.{BoundingBox}
use Rattle.sedona_geometry.proofs.Boxes.{each_map, plus_contains, contains_of_parts}
use Rattle.sedona_expr.specs.Tables.{Records, record_at, Table, count, root, Lookup, place}
use Rattle.sedona_expr.specs.Refusals.{box_refusal}
use Rattle.sedona_expr.specs.SpatialFilter.{box_for}
use Rattle.sedona_expr.specs.Calls.{outcome, filter_bbox}
use Rattle.sedona_expr.specs.Demand.{Row, WhereBox, Holds, EachLeaf, OfLiteral, Wanted, is_point, low_to_high, Pointed, MayMatch, Reaches, Demand3}
use Rattle.sedona_expr.specs.declared.statistics.GeoStatistics.{GeoStatistics}
use Rattle.sedona_expr.proofs.Points.{point, ordered}
use Rattle.sedona_expr.proofs.Leaves.{leaves_zip, literal_zip, literal_map, leaves_of_table, literal_doubles}
use Rattle.sedona_expr.proofs.MayMatch.{may_match}
use Rattle.sedona_expr.proofs.Passing.{box_not_refused}
use Rattle.sedona_expr.proofs.Reaches.{Literal, Literals, reaches}

-- ---- the first half
may_match_folds : (l : Lookup) (t : Table) (r : Records) (row : Row) (lists : ℕ → List GeoStatistics) → Wanted l t r row lists → MayMatch l t r
unfolding outcome
may_match_folds l t r row lists W =
    rw (W.well_formed, may_match (λ c. row (place l c)) (λ c. record_at r (place l c)) (λ c. lists (place l c)) (root t) W.folds W.holds)

-- ---- the second half
module _ (l : Lookup) (t : Table) (r : Records) (row : Row) (names : List ℕ) (P : Pointed l t r row names) where
  literals : Literals (root t)
  literals =
      leaves_zip (λ f c. OfLiteral Doubles f) (λ f c. OfLiteral (Each (λ i. low_to_high i ≡ true)) f) (λ f c. OfLiteral Literal f)
      (λ f c. literal_zip Doubles (Each (λ i. low_to_high i ≡ true)) Literal (λ k d o. record { doubles = d; ordered = each_map ordered o }) f)
      (root t) (leaves_of_table t Doubles (literal_doubles t.literals P.literals) (count t.nodes - 1)) P.low_to_high

  -- a leaf of a column's name is that column's
  of_name : EachLeaf (λ f c. place l c < length r.boxes.flags) (root t) → (i : ℕ) (b : BoundingBox) → i < length names → (row i).bbox ≡ Some b
      → EachLeaf (λ f c. OfLiteral (λ k. c.name ≡ get_or names i 0 → (row (place l c)).bbox ≡ Some b) f) (root t)
  of_name E i b h e =
      leaves_zip (λ f c. place l c < length r.boxes.flags) (λ f c. OfLiteral (λ k. c.name ≡ get_or names (place l c) 0) f)
      (λ f c. OfLiteral (λ k. c.name ≡ get_or names i 0 → (row (place l c)).bbox ≡ Some b) f)
      (λ f c x. literal_map (λ k. c.name ≡ get_or names (place l c) 0) (λ k. c.name ≡ get_or names i 0 → (row (place l c)).bbox ≡ Some b)
      (λ k o n. rw (P.differ (place l c) i (omega (arith, P.columns)) h (sym o ∙ n)) e) f)
      (root t) E P.own_names

  -- It asks nothing of the records but how many there are.
  pub filter_box_reaches : box_refusal t ≡ 0 → EachLeaf (λ f c. place l c < length r.boxes.flags) (root t) → Holds (λ c. row (place l c)) (root t) → Reaches t row names
  unfolding numbered
  filter_box_reaches w E H i h = go (row i).bbox refl (P.doubles i h) (P.point i h)
    where
      n : ℕ
      n = get_or names i 0

      go : (o : Option BoundingBox) → (row i).bbox ≡ o → WhereBox Doubles o → WhereBox (Each is_point) o
          → WhereBox (λ b. ((filter_bbox t n).number ≡ 0) × (bounding_box.contains (filter_bbox t n).bounds b ≡ true)) o
      go None e D p = tt
      go (Some b) e D p =
          rw w (refl, plus_contains (box_for n (root t)) b (contains_of_parts (reaches n (λ c. row (place l c)) b D (each_map point p) (root t) literals (of_name E i b h e) H)))

-- ---- the whole
-- Demand 3: against the folds of its columns' records the filter of a row of which it holds answers "may match", by position and by name; and
-- where the row is a point, each column's filter box contains the row's box there.
pub demand-3 : Demand3
demand-3 l t r row lists W =
    (may_match_folds l t r row lists W, λ names P. filter_box_reaches l t r row names P (box_not_refused l t r W.well_formed) W.exist W.holds)
