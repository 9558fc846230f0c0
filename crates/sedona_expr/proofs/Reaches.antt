-- A filter's box for a column: its x runs straight, and it contains the column's point where the filter holds of the row. Assumes nothing.
use Rattle.std.specs.Prelude.{Some}
use mathlib.Core.Path.{◌≡◌, refl}
use mathlib.Core.Logic.{inl, inr, ⊎_elim}
use mathlib.Core.Bool.{Bool, true, false, cond}
use Prim.Native.Nat.{ℕ}
use borrow.Author.Tests.{eqb-true}
use lib.Dec.{eqb}
use Rattle.sedona_geometry.specs.BoundingBox as bounding_box
use Rattle.sedona_geometry.specs.BoundingBox.{Each, Doubles}
use Rattle.sedona_geometry.specs.declared.bounding_box.BoundingBox.{BoundingBox}
use Rattle.sedona_geometry.proofs.Contains.{Straight}
use Rattle.sedona_geometry.proofs.Boxes.{Parts, Rising, parts_of_contains, merge_contains}
use Rattle.sedona_geometry.proofs.Booleans.{of_cond}
use Rattle.sedona_expr.specs.SpatialFilter.{Column, Filter, intersects, covers, has_z, and, or, literal_false, unknown, full, box_for}
use Rattle.sedona_expr.specs.Demand.{Cell, HasBox, Holds, EachLeaf, OfLiteral}
use Rattle.sedona_expr.proofs.Points.{Point, point_low_to_high, full_reaches, common_reaches, contained_reaches}
use Rattle.sedona_expr.proofs.StraightBoxes.{StraightBox, empty_straight, full_straight, merge_straight, intersection_straight, intersection_contains}

-- ---- the literals asked for
pub record Literal (k : BoundingBox) : Type 0 where
  pub doubles : Doubles k
  pub ordered : Each Rising k

abbrev pub Literals : Filter → Type 0
Literals f = EachLeaf (λ l c. OfLiteral Literal l) f

literal_straight : {k : BoundingBox} → Literal k → StraightBox k
literal_straight L = record { doubles = L.doubles; x = Straight.ordered L.ordered.x }

-- ---- the box's x runs straight, whether or not the filter holds
pub box_straight : (n : ℕ) (f : Filter) → Literals f → StraightBox (box_for n f)
box_straight n (intersects c k) L = of_cond StraightBox (eqb c.name n) (literal_straight L) full_straight
box_straight n (covers c k) L = of_cond StraightBox (eqb c.name n) (literal_straight L) full_straight
box_straight n (has_z c) L = full_straight
box_straight n (and f g) L = intersection_straight (box_straight n f L.0) (box_straight n g L.1)
box_straight n (or f g) L = merge_straight (box_straight n f L.0) (box_straight n g L.1)
box_straight n literal_false L = empty_straight
box_straight n unknown L = full_straight

-- ---- where the filter holds, the box contains the point of the columns of that name
module _ (n : ℕ) (own : Column → Cell) (b : BoundingBox) (D : Doubles b) (p : Each Point b) where
  abbrev OfName : Column → Type 0
  OfName c = c.name ≡ n → (own c).bbox ≡ Some b

  leaf_reaches : (c : Column) (k : BoundingBox) (P : BoundingBox → Type 0) → OfName c → (P b → Parts k b) → HasBox P (own c).bbox → Parts (cond (eqb c.name n) k full) b
  leaf_reaches c k P e g h = go (eqb c.name n) refl
    where
      go : (t : Bool) → eqb c.name n ≡ t → Parts (cond t k full) b
      go true q = g (rw (e (eqb-true c.name n q)) at h)
      go false q = full_reaches D p

  pub reaches : (f : Filter) → Literals f → EachLeaf (λ l c. OfLiteral (λ k. OfName c) l) f → Holds own f → Parts (box_for n f) b
  reaches (intersects c k) L e h = leaf_reaches c k (λ a. bounding_box.Common a k) e (common_reaches D L.doubles p L.ordered) h
  reaches (covers c k) L e h = leaf_reaches c k (λ a. bounding_box.contains a k ≡ true) e (λ a. contained_reaches D L.doubles p L.ordered (parts_of_contains a)) h
  reaches (has_z c) L e h = full_reaches D p
  reaches (and f g) L e h =
      intersection_contains (box_straight n f L.0) (box_straight n g L.1) D (point_low_to_high p) (reaches f L.0 e.0 h.0) (reaches g L.1 e.1 h.1)
  reaches (or f g) L e h =
      merge_contains (box_straight n f L.0).doubles (box_straight n g L.1).doubles
      (⊎_elim (λ a. inl (reaches f L.0 e.0 a)) (λ a. inr (reaches g L.1 e.1 a)) h)
  reaches literal_false L e h = absurd h
  reaches unknown L e h = full_reaches D p
