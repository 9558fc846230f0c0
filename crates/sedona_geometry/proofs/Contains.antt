-- What an x contains: merging keeps it, and an intersection of two that run low to high keeps what both contain and accepts what both accept.
-- Assumes nothing.
use Rattle.std.specs.Prelude.{Ok}
use mathlib.Core.Path.{◌≡◌, refl, sym, ◌∙◌}
use mathlib.Core.Logic.{◌⊎◌, inl, inr, ⊎_elim, ◌↔◌}
use mathlib.Core.Bool.{Bool, true, false, ◌||◌, cond, and-true}
use lib.Dec.{T}
use lib.Ieee.{Float, binary64, sub, lt, le, eq}
use lib.Ieee.Fits.{and_l, and_r, and_i}
use Rattle.sedona_geometry.specs.Float as float
use Rattle.sedona_geometry.specs.Interval as interval
use Rattle.sedona_geometry.specs.Interval.{Doubles}
use Rattle.sedona_geometry.specs.WraparoundInterval.{Accepts, from_interval, plus_zero, is_empty, is_wraparound, split, pieces_contain, contains_interval, contains_one_by_one, merge_interval, merge_non_empty, intersection}
use Rattle.sedona_geometry.specs.declared.interval.Interval.{Interval}
use Rattle.sedona_geometry.specs.declared.interval.WraparoundInterval.{WraparoundInterval}
use Rattle.sedona_geometry.proofs.Booleans.{holds, fails, is_true, is_false, or_left, or_right, or_cases}
use Rattle.sedona_geometry.proofs.Order.{Number, Le, le_of_eq, le_of_not_lt, le_refl, le_trans, le_number, lt_not_le}
use Rattle.sedona_geometry.proofs.MinMax.{min_le_left, min_le_right, min_greatest, min_fits, max_ge_left, max_ge_right, max_least, max_fits}
use Rattle.sedona_geometry.proofs.PlusZero.{plus_le_plus, of_plus_le, of_le_plus}
use Rattle.sedona_geometry.proofs.Alike.{plus_same, empty_alike, contains_alike, pieces_contain_alike}
use Rattle.sedona_geometry.proofs.Rounding.{sub_number}
use Rattle.sedona_geometry.proofs.Accepts as plain
use Rattle.sedona_geometry.proofs.Accepts.{Contains, inside, new_contains, non_empty_solid}
use Rattle.sedona_geometry.proofs.Wrapping.{Within, split_plain, low_to_high_plain, empty_not_wrapped, empty_is_empty, plain_within, within_plain, merge_within, plain_of_accepts, accepts_of_plain, none_accepted, infinite_doubles}

low_to_high_not_empty : {x : WraparoundInterval} → Doubles x.inner → Le x.inner.lo x.inner.hi → is_empty x ≡ false
low_to_high_not_empty {x} D h = is_false (is_empty x) (λ e. plain.empty_not_low_to_high D (is_true (is_empty x) e) h)

-- ---- an x contains another: each piece of the other is empty or lies inside some piece
abbrev PieceIn : WraparoundInterval → Interval → Type 0
PieceIn x i = (interval.is_empty i ≡ true) ⊎ Within x i

piece_in : (x : WraparoundInterval) (i : Interval) → T (pieces_contain (split x) i) → PieceIn x i
unfolding pieces_contain
piece_in x i h =
    let e = interval.is_empty i in
    let l = interval.contains_interval (split x).left i in
    let r = interval.contains_interval (split x).right i in
    ⊎_elim
    (λ el. ⊎_elim (λ a. inl (is_true e a)) (λ b. inr (record { piece = inl (record { holds = is_true l b }) })) (or_cases e l el))
    (λ c. inr (record { piece = inr (record { holds = is_true r c }) }))
    (or_cases (e || l) r h)

in_piece : (x : WraparoundInterval) (i : Interval) → PieceIn x i → T (pieces_contain (split x) i)
unfolding pieces_contain
in_piece x i h =
    let e = interval.is_empty i in
    let l = interval.contains_interval (split x).left i in
    let r = interval.contains_interval (split x).right i in
    ⊎_elim
    (λ a. or_left (e || l) r (or_left e l (holds a)))
    (λ w. ⊎_elim (λ b. or_left (e || l) r (or_right e l (holds b.holds))) (λ c. or_right (e || l) r (holds c.holds)) w.piece)
    h

pieces_in : (x k : WraparoundInterval) → contains_interval x k ≡ true → PieceIn x (split k).left × PieceIn x (split k).right
unfolding contains_interval
pieces_in x k h =
    let l = pieces_contain (split x) (split k).left in
    let r = pieces_contain (split x) (split k).right in
    (piece_in x (split k).left (and_l l r (holds h)), piece_in x (split k).right (and_r l r (holds h)))

in_pieces : (x k : WraparoundInterval) → PieceIn x (split k).left → PieceIn x (split k).right → contains_interval x k ≡ true
unfolding contains_interval
in_pieces x k h g =
    is_true (contains_interval x k)
    (and_i (pieces_contain (split x) (split k).left) (pieces_contain (split x) (split k).right) (in_piece x (split k).left h) (in_piece x (split k).right g))

-- What is contained as in the Rust is contained.
pub one_by_one_contains : (x k : WraparoundInterval) → contains_one_by_one x k ≡ true → contains_interval x k ≡ true
unfolding contains_one_by_one
one_by_one_contains x k h =
    let l = interval.contains_interval (split x).left (split k).left in
    let r = interval.contains_interval (split x).right (split k).right in
    in_pieces x k
    (inr (record { piece = inl (record { holds = is_true l (and_l l r (holds h)) }) }))
    (inr (record { piece = inr (record { holds = is_true r (and_r l r (holds h)) }) }))

-- ---- merging keeps what either contains, wrapped, empty or with NaN
module _ {x y : WraparoundInterval} (D : Doubles x.inner) (E : Doubles y.inner) where
  merge_piece_in : {i : Interval} → PieceIn x i ⊎ PieceIn y i → PieceIn (merge_interval x y) i
  merge_piece_in {i} h = go (interval.is_empty i) refl
    where
      within : {z : WraparoundInterval} → interval.is_empty i ≡ false → PieceIn z i → Within z i
      within n p = ⊎_elim (λ e. absurd (fails n (holds e))) (λ w. w) p

      go : (b : Bool) → interval.is_empty i ≡ b → PieceIn (merge_interval x y) i
      go true e = inl e
      go false n = inr (merge_within D E (non_empty_solid n) (⊎_elim (λ p. inl (within n p)) (λ p. inr (within n p)) h))

  pub merge_contains : (k : WraparoundInterval) → (contains_interval x k ≡ true) ⊎ (contains_interval y k ≡ true) → contains_interval (merge_interval x y) k ≡ true
  merge_contains k h =
      in_pieces (merge_interval x y) k
      (merge_piece_in (⊎_elim (λ a. inl (pieces_in x k a).0) (λ b. inr (pieces_in y k b).0) h))
      (merge_piece_in (⊎_elim (λ a. inl (pieces_in x k a).1) (λ b. inr (pieces_in y k b).1) h))

-- ---- an x that does not wrap is contained where its interval is
contains_one_piece : (x k : WraparoundInterval) → is_wraparound k ≡ false → contains_interval x k ≡ pieces_contain (split x) k.inner
unfolding contains_interval
contains_one_piece x k u =
    rw (
      split_plain k u,
      pieces_contain_alike (split x) (plus_same k.inner),
      is_true (pieces_contain (split x) interval.empty) (in_piece x interval.empty (inl empty_is_empty)),
    )
    (and-true (pieces_contain (split x) k.inner))

-- ---- where neither wraps and the other is not empty, it is `contains_interval` of the two intervals, end by end
pub contains_plain : (x k : WraparoundInterval) → is_wraparound x ≡ false → is_wraparound k ≡ false → is_empty k ≡ false
    → contains_interval x k ≡ interval.contains_interval x.inner k.inner
contains_plain x k w u n = contains_one_piece x k u ∙ go (interval.contains_interval x.inner k.inner) refl
  where
    go : (b : Bool) → interval.contains_interval x.inner k.inner ≡ b → pieces_contain (split x) k.inner ≡ b
    go true e = is_true (pieces_contain (split x) k.inner) (in_piece x k.inner (inr (plain_within w (record { holds = e }))))
    go false e =
        is_false (pieces_contain (split x) k.inner) (λ h.
        ⊎_elim (λ a. fails n (holds a)) (λ i. fails e (holds (within_plain (non_empty_solid n) w i).holds)) (piece_in x k.inner h))

empty_contains_itself : interval.contains_interval interval.empty interval.empty ≡ true
unfolding interval.contains_interval le
empty_contains_itself = refl

one_by_one_plain : (x k : WraparoundInterval) → is_wraparound x ≡ false → is_wraparound k ≡ false
    → contains_one_by_one x k ≡ interval.contains_interval x.inner k.inner
unfolding contains_one_by_one
one_by_one_plain x k w u =
    rw (split_plain x w, split_plain k u, contains_alike (plus_same x.inner) (plus_same k.inner), empty_contains_itself)
    (and-true (interval.contains_interval x.inner k.inner))

-- so there it is the Rust's
pub contains_as_the_rust : (x k : WraparoundInterval) → is_wraparound x ≡ false → is_wraparound k ≡ false → is_empty k ≡ false → contains_interval x k ≡ contains_one_by_one x k
contains_as_the_rust x k w u n = contains_plain x k w u n ∙ sym (one_by_one_plain x k w u)

-- and of what runs low to high
pub contains_low_to_high : (x k : WraparoundInterval) → Doubles k.inner → is_wraparound x ≡ false → Le k.inner.lo k.inner.hi
    → contains_interval x k ≡ interval.contains_interval x.inner k.inner
contains_low_to_high x k F w l = contains_plain x k w (low_to_high_plain F l) (low_to_high_not_empty F l)

-- ---- an x that runs low to high, or is empty
pub data Straight (x : WraparoundInterval) : Type 0 where
  empty : is_empty x ≡ true → Straight x
  ordered : Le x.inner.lo x.inner.hi → Straight x

pub straight_plain : {x : WraparoundInterval} → Doubles x.inner → Straight x → is_wraparound x ≡ false
straight_plain {x} D (empty e) = empty_not_wrapped x e
straight_plain D (ordered h) = low_to_high_plain D h

-- ---- merging x that run straight
merge_empty : (x y : WraparoundInterval) → is_empty x ≡ true → merge_interval x y ≡ plus_zero y
unfolding merge_interval
merge_empty x y e = rw e

merge_with_empty : (x y : WraparoundInterval) → is_empty x ≡ false → is_empty y ≡ true → merge_interval x y ≡ plus_zero x
unfolding merge_interval
merge_with_empty x y e f = rw (e, f)

pub merge_ordered : {x y : WraparoundInterval} → Doubles x.inner → Doubles y.inner → Le x.inner.lo x.inner.hi → Le y.inner.lo y.inner.hi
    → merge_interval x y ≡ from_interval (interval.merge_interval x.inner y.inner)
unfolding merge_interval merge_non_empty
merge_ordered D E h k = rw (low_to_high_not_empty D h, low_to_high_not_empty E k, low_to_high_plain D h, low_to_high_plain E k)

merge_low_to_high : {i : Interval} (j : Interval) → Le i.lo i.hi → Le (interval.merge_interval i j).lo (interval.merge_interval i j).hi
merge_low_to_high j h = plain.contains_low_to_high (plain.merge_contains_left j (plain.contains_itself (le_number h).0 (le_number h).1)) h

plus_straight : {x : WraparoundInterval} → Straight x → Straight (plus_zero x)
plus_straight {x} (empty e) = empty (empty_alike (plus_same x.inner) ∙ e)
plus_straight (ordered h) = ordered (plus_le_plus h)

pub merge_straight : {x y : WraparoundInterval} → Doubles x.inner → Doubles y.inner → Straight x → Straight y → Straight (merge_interval x y)
merge_straight {x} {y} D E (empty e) s = rw (merge_empty x y e) (plus_straight s)
merge_straight {x} {y} D E (ordered h) (empty f) = rw (merge_with_empty x y (low_to_high_not_empty D h) f) (ordered (plus_le_plus h))
merge_straight {x} {y} D E (ordered h) (ordered k) = rw (merge_ordered D E h k) (ordered (plus_le_plus (merge_low_to_high y.inner h)))

-- ---- intersections
ordered_is : {lo hi : Float} → Le lo hi → interval.ordered lo hi ≡ interval.new lo hi
ordered_is {lo} {hi} h = rw (is_false (lt hi lo) (λ t. lt_not_le (record { test = t }) h))

ordered_accepts : (lo hi : Float) {v : Float} → interval.Accepts (interval.ordered lo hi) v → interval.Accepts (interval.new lo hi) v
ordered_accepts lo hi {v} = go (lt hi lo)
  where
    go : (b : Bool) → interval.Accepts (cond b interval.empty (interval.new lo hi)) v → interval.Accepts (interval.new lo hi) v
    go true a = absurd (none_accepted a)
    go false a = a

ordered_straight : {lo hi : Float} → Number lo → Number hi → Straight (from_interval (interval.ordered lo hi))
unfolding interval.is_empty sub eq
ordered_straight {lo} {hi} L H = go (lt hi lo) refl
  where
    go : (b : Bool) → lt hi lo ≡ b → Straight (from_interval (cond b interval.empty (interval.new lo hi)))
    go true e = empty refl
    go false e = ordered (plus_le_plus (plus_le_plus (le_of_not_lt H L (λ k. fails e k.test))))

ordered_doubles : (lo hi : Float) → Doubles (interval.new lo hi) → Doubles (interval.ordered lo hi)
ordered_doubles lo hi D = go (lt hi lo)
  where
    go : (b : Bool) → Doubles (cond b interval.empty (interval.new lo hi))
    go true = infinite_doubles false true
    go false = D

pub intersection_doubles : {i j : Interval} → Doubles i → Doubles j → Doubles (interval.intersection i j)
unfolding interval.intersection
intersection_doubles {i} {j} D E =
    let lo = float.max_num i.lo j.lo in
    let hi = float.min_num i.hi j.hi in
    ordered_doubles lo hi (plain.new_doubles lo hi (max_fits binary64 i.lo j.lo D.lo E.lo) (min_fits binary64 i.hi j.hi D.hi E.hi))

-- what both contain, their intersection contains
pub intersection_contains : {i j k : Interval} → Le k.lo k.hi → Contains i k → Contains j k → Contains (interval.intersection i j) k
unfolding interval.intersection
intersection_contains o a b =
    let l = max_least (inside a).0 (inside b).0 in
    let u = min_greatest (inside a).1 (inside b).1 in
    rw (ordered_is (le_trans l (le_trans o u))) (new_contains l u)

-- Of low-to-high intervals it accepts exactly what both accept.
module _ {i j : Interval} (h : Le i.lo i.hi) (k : Le j.lo j.hi) where
  pub intersection_accepts : {v : Float} → interval.Accepts (interval.intersection i j) v ↔ (interval.Accepts i v × interval.Accepts j v)
  unfolding interval.intersection
  intersection_accepts = (
    λ a.
        let c = plain.between (ordered_accepts (float.max_num i.lo j.lo) (float.min_num i.hi j.hi) a) in
        let l = of_plus_le c.0 in
        let u = of_le_plus c.1 in (
          plain.accepts (le_trans (max_ge_left j.lo (le_refl (le_number h).0)) l) (le_trans u (min_le_left j.hi (le_refl (le_number h).1))),
          plain.accepts (le_trans (max_ge_right i.lo (le_refl (le_number k).0)) l) (le_trans u (min_le_right i.hi (le_refl (le_number k).1))),
        ),
    λ b.
        let l = max_least (plain.between b.0).0 (plain.between b.1).0 in
        let u = min_greatest (plain.between b.0).1 (plain.between b.1).1 in
        rw (ordered_is (le_trans l u)) (plain.new_accepts l u),
  )

pub intersection_straight : {i : Interval} (j : Interval) → Number i.lo → Number i.hi → Straight (from_interval (interval.intersection i j))
unfolding interval.intersection
intersection_straight j L H =
    ordered_straight (le_number (max_ge_left j.lo (le_refl L))).1 (le_number (min_le_left j.hi (le_refl H))).0

-- Of two x that do not wrap it is never refused.
pub intersection_plain : (x y : WraparoundInterval) → is_wraparound x ≡ false → is_wraparound y ≡ false
    → intersection x y ≡ Ok (from_interval (interval.intersection x.inner y.inner))
unfolding intersection
intersection_plain x y w u = rw (w, u)

pub straight_accepts : {x : WraparoundInterval} {v : Float} → Doubles x.inner → Straight x → Accepts x v ↔ interval.Accepts x.inner v
straight_accepts D s = (λ h. plain_of_accepts (straight_plain D s) h, λ h. accepts_of_plain D h)

pub x_intersection_accepts : {x y : WraparoundInterval} {v : Float} → Doubles x.inner → Doubles y.inner → Le x.inner.lo x.inner.hi → Le y.inner.lo y.inner.hi
    → Accepts (from_interval (interval.intersection x.inner y.inner)) v ↔ (Accepts x v × Accepts y v)
x_intersection_accepts {x} {y} D E h k =
    let i = interval.intersection x.inner y.inner in
    let z = straight_accepts (plain.plus_doubles (intersection_doubles D E)) (intersection_straight y.inner (le_number h).0 (le_number h).1) in
    let a = straight_accepts D (ordered h) in
    let b = straight_accepts E (ordered k) in
    let c = intersection_accepts h k in
    (λ p. let q = c.0 (plain.of_plus_accepts i (z.0 p)) in (a.1 q.0, b.1 q.1), λ p. z.1 (plain.plus_accepts i (c.1 (a.0 p.0, b.0 p.1))))

pub straight_numbers : {x : WraparoundInterval} → Straight x → Number x.inner.lo × Number x.inner.hi
unfolding interval.is_empty
straight_numbers {x} (empty e) =
    let n = sub_number binary64 x.inner.hi x.inner.lo (le_number (le_of_eq (holds e))).0 in
    (n.1, n.0)
straight_numbers (ordered h) = le_number h

-- what both contain, their intersection contains: for x that run straight
pub x_intersection_contains : {x y k : WraparoundInterval} → Doubles x.inner → Doubles y.inner → Doubles k.inner → Straight x → Straight y → Le k.inner.lo k.inner.hi
    → contains_interval x k ≡ true → contains_interval y k ≡ true → contains_interval (from_interval (interval.intersection x.inner y.inner)) k ≡ true
x_intersection_contains {x} {y} {k} D E F s t l p q =
    let a = contains_low_to_high x k F (straight_plain D s) l in
    let b = contains_low_to_high y k F (straight_plain E t) l in
    let n = straight_numbers s in
    contains_low_to_high (from_interval (interval.intersection x.inner y.inner)) k F (straight_plain (plain.plus_doubles (intersection_doubles D E)) (intersection_straight y.inner n.0 n.1)) l
    ∙ (plain.plus_contains (interval.intersection x.inner y.inner) (intersection_contains l (record { holds = sym a ∙ p }) (record { holds = sym b ∙ q }))).holds
