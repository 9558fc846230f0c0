-- The box accepts every coordinate that is not NaN, its x never wraps, and it has no −0. Assumes nothing.
use Rattle.std.specs.Prelude.{Some, None, Option}
use mathlib.Core.Path.{◌≡◌, refl, sym, subst, ◌∙◌}
use mathlib.Core.Bool.{Bool, true, false}
use mathlib.Core.List.{List, [], ◌∷◌}
use mathlib.Core.Logic.{◌⊎◌, inl, inr}
use Prim.Native.Nat.{ℕ}
use lib.Ieee.{Float, nan, is_nan, lt, sub, eq}
use Rattle.sedona_geometry.specs.Lists.{All}
use Rattle.sedona_geometry.specs.Float.{min_num, max_num}
use Rattle.sedona_geometry.specs.Interval as interval
use Rattle.sedona_geometry.specs.Interval.{Doubles, Accepts, merge_value}
use Rattle.sedona_geometry.specs.WraparoundInterval as wraparound
use Rattle.sedona_geometry.specs.BoundingBox.{Canonical, plus_zero_where_known, known_where}
use Rattle.sedona_geometry.specs.declared.bounding_box.BoundingBox.{BoundingBox}
use Rattle.sedona_geometry.specs.declared.interval.Interval.{Interval}
use Rattle.sedona_geometry.proofs.Accepts.{merge_value_keeps, merge_value_accepts, merge_value_doubles, accepts_low_to_high, plus_accepts}
use Rattle.sedona_geometry.proofs.Canonical.{xyzm_canonical, stays_box, refused_canonical, accepted_canonical}
use Rattle.sedona_geometry.proofs.Alike.{plus_same, wraps_alike}
use Rattle.sedona_geometry.proofs.Order.{Number, number_of_test, nan_or_number}
use Rattle.sedona_geometry.proofs.Wrapping as wrapping
use Rattle.sedona_geometry.proofs.Wrapping.{accepts_of_plain, infinite_doubles, empty_not_wrapped, low_to_high_plain}
use Rattle.sedona_wkb.specs.Bounds.{box_of, answer, box_from, AcceptsWhere, AcceptsCoordinate}
use Rattle.sedona_wkb.specs.Extents.{empty, merge_where, enter, enter_all}
use Rattle.sedona_wkb.specs.Geometry.{DoubleWhere, OfDims}
use Rattle.sedona_wkb.specs.Reading.{Reading, refused, found}
use Rattle.sedona_wkb.specs.Wkb.{Coordinate, Spelled, has_z, has_m, spelled}
use Rattle.sedona_wkb.specs.declared.coordinates.Extents.{Extents}
use Rattle.sedona_wkb.proofs.Only.{Only, SpelledWell, spelled_only}

-- ---- one interval of the extents, and what a coordinate enters there

where_keeps : (i : Interval) (o : Option Float) (v : Float) → Accepts i v → Accepts (merge_where i o) v
unfolding merge_where
where_keeps i None v h = h
where_keeps i (Some w) v h = merge_value_keeps w h

where_accepts : (i : Interval) (o : Option Float) → AcceptsWhere (Some (merge_where i o)) o
unfolding merge_where
where_accepts i None = tt
where_accepts i (Some v) = λ n. merge_value_accepts i (number_of_test v n)

accepts_wider : (i j : Interval) (o : Option Float) → ((v : Float) → Accepts i v → Accepts j v) → AcceptsWhere (Some i) o → AcceptsWhere (Some j) o
accepts_wider i j None f h = tt
accepts_wider i j (Some v) f h = λ n. f v (h n)

-- Any of the four.
module _ (of : Extents → Interval) (what : Coordinate → Option Float) (entered : (e : Extents) (c : Coordinate) → of (enter e c) ≡ merge_where (of e) (what c)) where
  keeps : (cs : List Coordinate) (e : Extents) (v : Float) → Accepts (of e) v → Accepts (of (enter_all e cs)) v
  unfolding enter_all
  keeps [] e v h = h
  keeps (c ∷ cs) e v h = keeps cs (enter e c) v (rw (entered e c) (where_keeps (of e) (what c) v h))

  accepts_all : (cs : List Coordinate) (e : Extents) → All (λ c. AcceptsWhere (Some (of (enter_all e cs))) (what c)) cs
  unfolding enter_all
  accepts_all [] e = tt
  accepts_all (c ∷ cs) e = (
    accepts_wider (of (enter e c)) (of (enter_all (enter e c) cs)) (what c) (λ v. keeps cs (enter e c) v) (rw (entered e c) (where_accepts (of e) (what c))),
    accepts_all cs (enter e c),
  )

enter_x : (e : Extents) (c : Coordinate) → (enter e c).x ≡ merge_where e.x (Some c.x)
unfolding enter merge_where
enter_x e c = refl

enter_y : (e : Extents) (c : Coordinate) → (enter e c).y ≡ merge_where e.y (Some c.y)
unfolding enter merge_where
enter_y e c = refl

enter_z : (e : Extents) (c : Coordinate) → (enter e c).z ≡ merge_where e.z c.z
unfolding enter
enter_z e c = refl

enter_m : (e : Extents) (c : Coordinate) → (enter e c).m ≡ merge_where e.m c.m
unfolding enter
enter_m e c = refl

-- ---- x, which is an x of a box only where it does not wrap

-- Empty still, or accepting something; of doubles.
record Plain (i : Interval) : Type 0 where
  doubles : Doubles i
  filled : (i ≡ interval.empty) ⊎ ((v : Float) × Accepts i v)

merge_nan : merge_value interval.empty nan ≡ interval.empty
unfolding merge_value min_num max_num lt is_nan
merge_nan = refl

fill_empty : (i : Interval) (v : Float) → i ≡ interval.empty → (v ≡ nan) ⊎ Number v → (merge_value i v ≡ interval.empty) ⊎ ((w : Float) × Accepts (merge_value i v) w)
fill_empty i v e (inl n) = inl (rw (e, n) merge_nan)
fill_empty i v e (inr n) = inr (v, merge_value_accepts i n)

fill : (i : Interval) (v : Float) → (i ≡ interval.empty) ⊎ ((w : Float) × Accepts i w) → (merge_value i v ≡ interval.empty) ⊎ ((w : Float) × Accepts (merge_value i v) w)
fill i v (inl e) = fill_empty i v e (nan_or_number v)
fill i v (inr a) = inr (a.0, merge_value_keeps v a.1)

plain_all : (d : ℕ) (cs : List Coordinate) → All (OfDims d) cs → (e : Extents) → Plain e.x → Plain (enter_all e cs).x
unfolding enter_all enter
plain_all d [] h e p = p
plain_all d (c ∷ cs) h e p =
    plain_all d cs h.1 (enter e c) (record {
      doubles = merge_value_doubles c.x p.doubles h.0.x;
      filled = fill e.x c.x p.filled;
    })

empty_is : wraparound.is_empty wraparound.empty ≡ true
unfolding interval.is_empty sub eq
empty_is = refl

not_wrapped : (i : Interval) → Doubles i → (i ≡ interval.empty) ⊎ ((v : Float) × Accepts i v) → wraparound.is_wraparound (record { inner = i }) ≡ false
not_wrapped i D (inl e) = rw e (empty_not_wrapped wraparound.empty empty_is)
not_wrapped i D (inr a) = low_to_high_plain D (accepts_low_to_high a.1)

-- ---- the box of coordinates

known_where_lem : (has : Bool) (i : Interval) (o : Option Float) → DoubleWhere has o → AcceptsWhere (Some i) o → AcceptsWhere (known_where has i) o
known_where_lem true i o d h = h
known_where_lem false i None d h = tt
known_where_lem false i (Some v) d h = absurd d

-- what is handed on accepts what it accepted
plus_where : (d : Option Interval) (o : Option Float) → AcceptsWhere d o → AcceptsWhere (plus_zero_where_known d) o
plus_where d None h = tt
plus_where None (Some v) h = absurd h
plus_where (Some i) (Some v) h = λ n. plus_accepts i (h n)

module _ (d : ℕ) (e : Extents) (D : Doubles e.x) where
  all_accepted : (cs : List Coordinate) → All (OfDims d) cs
      → All (λ c. AcceptsWhere (Some e.x) (Some c.x)) cs → All (λ c. AcceptsWhere (Some e.y) (Some c.y)) cs
      → All (λ c. AcceptsWhere (Some e.z) c.z) cs → All (λ c. AcceptsWhere (Some e.m) c.m) cs
      → All (AcceptsCoordinate (box_of d e)) cs
  unfolding box_of
  all_accepted [] h x y z m = tt
  all_accepted (c ∷ cs) h x y z m = (
    record {
      x = λ n. wrapping.plus_accepts (wrapping.plus_accepts (accepts_of_plain D (x.0 n)));
      y = λ n. plus_accepts e.y (y.0 n);
      z = plus_where (known_where (has_z d) e.z) c.z (known_where_lem (has_z d) e.z c.z h.0.z z.0);
      m = plus_where (known_where (has_m d) e.m) c.m (known_where_lem (has_m d) e.m c.m h.0.m m.0);
    },
    all_accepted cs h.1 x.1 y.1 z.1 m.1,
  )

module _ (d : ℕ) (cs : List Coordinate) (h : All (OfDims d) cs) where
  plain_x : Plain (enter_all empty cs).x
  plain_x = plain_all d cs h empty (record { doubles = infinite_doubles false true; filled = inl refl })

  box_accepts : All (AcceptsCoordinate (box_of d (enter_all empty cs))) cs
  box_accepts =
      all_accepted d (enter_all empty cs) plain_x.doubles cs h
      (accepts_all (λ e. e.x) (λ c. Some c.x) enter_x cs empty)
      (accepts_all (λ e. e.y) (λ c. Some c.y) enter_y cs empty)
      (accepts_all (λ e. e.z) (λ c. c.z) enter_z cs empty)
      (accepts_all (λ e. e.m) (λ c. c.m) enter_m cs empty)

  box_not_wrapped : wraparound.is_wraparound (box_of d (enter_all empty cs)).x ≡ false
  unfolding box_of
  box_not_wrapped =
      let i = (enter_all empty cs).x in
      wraps_alike (plus_same (interval.plus_zero i)) ∙ wraps_alike (plus_same i) ∙ not_wrapped i plain_x.doubles plain_x.filled

-- handed on, it stays
box_of_canonical : (d : ℕ) (e : Extents) → Canonical (box_of d e)
unfolding box_of
box_of_canonical d e = xyzm_canonical (wraparound.from_interval e.x) e.y (known_where (has_z d) e.z) (known_where (has_m d) e.m)

-- ---- the theorems

-- "it accepts every coordinate that is not NaN": of bytes that spell something, the box accepts each coordinate that they spell.
pub accepts_every_coordinate : (s : List ℕ) (p : Spelled) (t : List ℕ) → spelled s ≡ found p t → All (AcceptsCoordinate (box_from s)) p.coordinates
unfolding answer
accepts_every_coordinate s p t e =
    subst (λ (r : Reading Spelled). All (AcceptsCoordinate (answer r).numbered.bounds) p.coordinates) (sym e)
    (rw (stays_box (box_of_canonical p.dims (enter_all empty p.coordinates))) (box_accepts p.dims p.coordinates (rw e at (spelled_only s))))

-- Request 6: whatever the bytes, the box has no −0.
answer_canonical : (r : Reading Spelled) → Canonical (answer r).numbered.bounds
unfolding answer
answer_canonical (refused n) = refused_canonical n
answer_canonical (found p t) = accepted_canonical (box_of p.dims (enter_all empty p.coordinates))

pub wkb_bounds_canonical : (s : List ℕ) → Canonical (box_from s)
wkb_bounds_canonical s = answer_canonical (spelled s)

answer_not_wrapped : (r : Reading Spelled) → Only SpelledWell r → wraparound.is_wraparound (answer r).numbered.bounds.x ≡ false
unfolding answer
answer_not_wrapped (refused n) h = empty_not_wrapped wraparound.empty empty_is
answer_not_wrapped (found p t) h =
    subst (λ (b : BoundingBox). wraparound.is_wraparound b.x ≡ false) (sym (stays_box (box_of_canonical p.dims (enter_all empty p.coordinates))))
    (box_not_wrapped p.dims p.coordinates h)

-- "x never wrapping": whatever the bytes.
pub x_never_wraps : (s : List ℕ) → wraparound.is_wraparound (box_from s).x ≡ false
x_never_wraps s = answer_not_wrapped (spelled s) (spelled_only s)
