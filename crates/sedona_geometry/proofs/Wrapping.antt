-- What an x accepts, and what lies inside its pieces, wrapped or not: nothing is lost by merging. Assumes nothing.
use mathlib.Core.Path.{◌≡◌, refl, sym, subst, ◌∙◌}
use mathlib.Core.Logic.{◌⊎◌, inl, inr, ⊎_elim}
use mathlib.Core.Bool.{Bool, true, false, not, ◌||◌, cond}
use lib.Dec.{T, not_T, T_not}
use lib.Ieee.{Float, inf, binary64, sub, lt, le, eq, is_nan, fits}
use lib.Ieee.Fits.{and_l, and_r, and_i, inf-fits}
use Rattle.sedona_geometry.specs.Float as float
use Rattle.sedona_geometry.specs.Interval as interval
use Rattle.sedona_geometry.specs.Interval.{Doubles}
use Rattle.sedona_geometry.specs.WraparoundInterval.{Accepts, from_interval, new, plus_zero, full, is_empty, is_wraparound, wrapped_pieces, split, intersects_value, pieces_intersect, intersects_interval, from_pieces, merge_wrapped, nearer_left, merge_plain, merge_non_empty, merge_interval, move_end, merge_value}
use Rattle.sedona_geometry.specs.declared.interval.Interval.{Interval}
use Rattle.sedona_geometry.specs.declared.interval.WraparoundInterval.{WraparoundInterval}
use Rattle.sedona_geometry.specs.declared.interval.Pieces.{Pieces}
use Rattle.sedona_geometry.proofs.Booleans.{holds, fails, is_true, is_false, or_left, or_right, or_cases}
use Rattle.sedona_geometry.proofs.Order.{Number, infinite, Le, Lt, le_of_lt, le_of_not_lt, le_refl, le_trans, le_number, lt_number, lt_of_not_le, bottom, top, eq_inf, below_bottom, top_not_bottom, number_of_test, number_test}
use Rattle.sedona_geometry.proofs.MinMax.{min_le_left, max_ge_left}
use Rattle.sedona_geometry.proofs.Rounding.{sub_not_neg, sub_neg, sub_pos, lt_of_sub_neg, sub_wider}
use Rattle.sedona_geometry.proofs.PlusZero.{same, plus_le, le_plus, plus_le_plus, of_plus_le, of_le_plus, plus_lt_plus}
use Rattle.sedona_geometry.proofs.Alike.{plus_same, split_alike, x_accepts_alike}
use Rattle.sedona_geometry.proofs.Accepts as plain
use Rattle.sedona_geometry.proofs.Accepts.{Contains, inside, contains, new_contains, merge_contains_left, merge_contains_right, Solid}

-- ---- which x wrap
pub wrapped_not_empty : (x : WraparoundInterval) → is_wraparound x ≡ true → T (is_empty x) → ⊥
unfolding is_wraparound
wrapped_not_empty x w = T_not (is_empty x) (and_l (not (is_empty x)) (lt (interval.width x.inner) float.zero) (holds w))

pub wrapped_high_to_low : {x : WraparoundInterval} → Doubles x.inner → is_wraparound x ≡ true → Lt x.inner.hi x.inner.lo
unfolding is_wraparound
wrapped_high_to_low {x} D w =
    lt_of_sub_neg binary64 x.inner.hi x.inner.lo D.hi D.lo (record { test = and_r (not (is_empty x)) (lt (interval.width x.inner) float.zero) (holds w) })

pub low_to_high_plain : {x : WraparoundInterval} → Doubles x.inner → Le x.inner.lo x.inner.hi → is_wraparound x ≡ false
unfolding is_wraparound
low_to_high_plain {x} D h =
    is_false (is_wraparound x) (λ w. sub_not_neg binary64 D.hi D.lo h (record { test = and_r (not (is_empty x)) (lt (interval.width x.inner) float.zero) w }))

-- one that is wider than a wrapped one, and still ends below its start, wraps
pub wider_wraps : {x y : WraparoundInterval} → Doubles x.inner → Doubles y.inner → is_wraparound x ≡ true
    → Le y.inner.lo x.inner.lo → Le x.inner.hi y.inner.hi → Lt y.inner.hi y.inner.lo → is_wraparound y ≡ true
unfolding is_wraparound interval.is_empty eq
wider_wraps {x} {y} D E w h k l =
    is_true (is_wraparound y)
    (and_i (not (is_empty y)) (lt (interval.width y.inner) float.zero)
    (not_T (is_empty y) (λ e.
    sub_wider binary64 h k (λ n. wrapped_not_empty x w (subst (λ (z : Float). T (eq z (inf true))) (sym n) tt)) (eq_inf (interval.width y.inner) true e)))
    (sub_neg binary64 E.hi E.lo l).test)

-- ---- the pieces
pub split_wrapped : (x : WraparoundInterval) → is_wraparound x ≡ true → split x ≡ wrapped_pieces x.inner
unfolding split
split_wrapped x w = rw w

pub split_plain : (x : WraparoundInterval) → is_wraparound x ≡ false → split x ≡ record { left = interval.plus_zero x.inner; right = interval.empty }
unfolding split
split_plain x w = rw w

pub accepts_left : {x : WraparoundInterval} {v : Float} → interval.Accepts (split x).left v → Accepts x v
unfolding intersects_value
accepts_left {x} {v} h =
    record { holds = is_true (intersects_value x v) (or_left (interval.intersects_value (split x).left v) (interval.intersects_value (split x).right v) (holds h.holds)) }

pub accepts_right : {x : WraparoundInterval} {v : Float} → interval.Accepts (split x).right v → Accepts x v
unfolding intersects_value
accepts_right {x} {v} h =
    record { holds = is_true (intersects_value x v) (or_right (interval.intersects_value (split x).left v) (interval.intersects_value (split x).right v) (holds h.holds)) }

pub accepts_cases : {x : WraparoundInterval} {v : Float} → Accepts x v → interval.Accepts (split x).left v ⊎ interval.Accepts (split x).right v
unfolding intersects_value
accepts_cases {x} {v} h =
    ⊎_elim (λ a. inl (record { holds = is_true (interval.intersects_value (split x).left v) a })) (λ b. inr (record { holds = is_true (interval.intersects_value (split x).right v) b }))
    (or_cases (interval.intersects_value (split x).left v) (interval.intersects_value (split x).right v) (holds h.holds))

accepts_number : {x : WraparoundInterval} {v : Float} → Accepts x v → Number v
accepts_number h = ⊎_elim plain.accepts_number plain.accepts_number (accepts_cases h)

-- ---- an x that does not wrap accepts what its interval does
pub none_accepted : {v : Float} → interval.Accepts interval.empty v → ⊥
none_accepted h = top_not_bottom (below_bottom (le_trans (plain.between h).0 (plain.between h).1))

pub plain_of_accepts : {x : WraparoundInterval} {v : Float} → is_wraparound x ≡ false → Accepts x v → interval.Accepts x.inner v
plain_of_accepts {x} {v} w h = ⊎_elim (λ a. plain.of_plus_accepts x.inner a) (λ b. absurd (none_accepted b)) (subst (λ p. interval.Accepts p.left v ⊎ interval.Accepts p.right v) (split_plain x w) (accepts_cases h))

pub accepts_of_plain : {x : WraparoundInterval} {v : Float} → Doubles x.inner → interval.Accepts x.inner v → Accepts x v
accepts_of_plain {x} {v} D h =
    accepts_left (subst (λ p. interval.Accepts p.left v) (sym (split_plain x (low_to_high_plain D (plain.accepts_low_to_high h)))) (plain.plus_accepts x.inner h))

pub infinite_doubles : (s t : Bool) → Doubles (interval.new (inf s) (inf t))
infinite_doubles s t = record { lo = inf-fits binary64 s; hi = inf-fits binary64 t }

pub empty_not_wrapped : (x : WraparoundInterval) → is_empty x ≡ true → is_wraparound x ≡ false
empty_not_wrapped x e = is_false (is_wraparound x) (λ w. wrapped_not_empty x (is_true (is_wraparound x) w) (holds e))

pub empty_accepts_nothing_lem : {x : WraparoundInterval} {v : Float} → Doubles x.inner → is_empty x ≡ true → Accepts x v → ⊥
empty_accepts_nothing_lem {x} D e h = plain.empty_accepts_nothing_lem D e (plain_of_accepts (empty_not_wrapped x e) h)

-- ---- a wrapped x accepts what lies up to hi and from lo on
pub wrapped_accepts_left : {x : WraparoundInterval} {v : Float} → is_wraparound x ≡ true → Le v x.inner.hi → Accepts x v
wrapped_accepts_left {x} {v} w h = accepts_left (subst (λ p. interval.Accepts p.left v) (sym (split_wrapped x w)) (plain.new_accepts (bottom (le_number h).0) h))

pub wrapped_accepts_right : {x : WraparoundInterval} {v : Float} → is_wraparound x ≡ true → Le x.inner.lo v → Accepts x v
wrapped_accepts_right {x} {v} w h = accepts_right (subst (λ p. interval.Accepts p.right v) (sym (split_wrapped x w)) (plain.new_accepts h (top (le_number h).1)))

pub wrapped_cases : {x : WraparoundInterval} {v : Float} → is_wraparound x ≡ true → Accepts x v → Le v x.inner.hi ⊎ Le x.inner.lo v
wrapped_cases {x} {v} w h =
    ⊎_elim (λ a. inl (of_le_plus (plain.between a).1)) (λ b. inr (of_plus_le (plain.between b).0)) (subst (λ p. interval.Accepts p.left v ⊎ interval.Accepts p.right v) (split_wrapped x w) (accepts_cases h))

-- ---- what lies inside some piece
pub record Within (x : WraparoundInterval) (k : Interval) : Type 0 where
  pub piece : Contains (split x).left k ⊎ Contains (split x).right k

pub plain_within : {x : WraparoundInterval} {k : Interval} → is_wraparound x ≡ false → Contains x.inner k → Within x k
plain_within {x} {k} w h = record { piece = inl (subst (λ p. Contains p.left k) (sym (split_plain x w)) (plain.plus_contains x.inner h)) }

pub empty_is_empty : interval.is_empty interval.empty ≡ true
unfolding interval.is_empty sub eq
empty_is_empty = refl

pub within_plain : {x : WraparoundInterval} {k : Interval} → Solid k → is_wraparound x ≡ false → Within x k → Contains x.inner k
within_plain {x} {k} S w h =
    ⊎_elim (λ a. plain.of_plus_contains x.inner a) (λ b. absurd (S.outside (infinite_doubles false true) empty_is_empty b))
    (subst (λ p. Contains p.left k ⊎ Contains p.right k) (split_plain x w) h.piece)

-- an x handed on has the same pieces
plus_within : {x : WraparoundInterval} {k : Interval} → Within x k → Within (plus_zero x) k
plus_within {x} {k} h = record { piece = subst (λ p. Contains p.left k ⊎ Contains p.right k) (sym (split_alike (plus_same x.inner))) h.piece }

pub plus_accepts : {x : WraparoundInterval} {v : Float} → Accepts x v → Accepts (plus_zero x) v
plus_accepts {x} h = record { holds = x_accepts_alike {x = plus_zero x} {y = x} (plus_same x.inner) same ∙ h.holds }

-- a number is accepted where it lies there by itself
within_of_accepts : {x : WraparoundInterval} {v : Float} → Accepts x v → Within x (interval.new v v)
within_of_accepts h = record { piece = ⊎_elim (λ a. inl (plain.point_inside a)) (λ b. inr (plain.point_inside b)) (accepts_cases h) }

accepts_of_within : {x : WraparoundInterval} {v : Float} → Within x (interval.new v v) → Accepts x v
accepts_of_within h = ⊎_elim (λ a. accepts_left (plain.inside_accepts a)) (λ b. accepts_right (plain.inside_accepts b)) h.piece

-- ---- joining two pieces that reach around those of a wrapped x
record Around (x : WraparoundInterval) (l r : Interval) : Type 0 where
  left_lo : Le l.lo (inf true)
  left_hi : Le x.inner.hi l.hi
  right_lo : Le r.lo x.inner.lo
  right_hi : Le (inf false) r.hi

from_pieces_within : {x : WraparoundInterval} {l r k : Interval} → Doubles x.inner → Doubles l → Doubles r → is_wraparound x ≡ true → Around x l r
    → Contains l k ⊎ Contains r k → Within (from_pieces l r) k
unfolding from_pieces interval.intersects_interval
from_pieces_within {x} {l} {r} {k} D L R w a h = go (interval.intersects_interval l r) refl
  where
    N : Number k.lo × Number k.hi
    N = ⊎_elim plain.contained_numbers plain.contained_numbers h

    apart : interval.intersects_interval l r ≡ false → Lt l.hi r.lo
    apart e =
        lt_of_not_le (le_number a.right_lo).0 (le_number a.left_hi).1 (λ k.
        fails e
        (and_i (le l.lo r.hi) (le r.lo l.hi) (le_trans a.left_lo (bottom (le_number a.right_hi).1)).test k.test))

    pieces : interval.intersects_interval l r ≡ false → split (new r.lo l.hi) ≡ wrapped_pieces (interval.new r.lo l.hi)
    pieces e = split_wrapped (new r.lo l.hi) (wider_wraps D (plain.new_doubles r.lo l.hi R.lo L.hi) w (plus_le a.right_lo) (le_plus a.left_hi) (plus_lt_plus (apart e)))

    go : (b : Bool) → interval.intersects_interval l r ≡ b → Within (cond b full (new r.lo l.hi)) k
    go true e = plain_within (low_to_high_plain (infinite_doubles true false) (bottom infinite)) (contains (bottom N.0) (top N.1))
    go false e = record {
      piece =
          rw (pieces e)
          (⊎_elim (λ c. inl (new_contains (bottom N.0) (le_plus (inside c).1))) (λ c. inr (new_contains (plus_le (inside c).0) (top N.1))) h);
    }

split_doubles : (x : WraparoundInterval) → Doubles x.inner → Doubles (split x).left × Doubles (split x).right
unfolding split
split_doubles x D = go (is_wraparound x)
  where
    go : (b : Bool) → let p : Pieces = cond b (wrapped_pieces x.inner) (record { left = interval.plus_zero x.inner; right = interval.empty }) in Doubles p.left × Doubles p.right
    go true = (
      plain.new_doubles (inf true) x.inner.hi (inf-fits binary64 true) D.hi,
      plain.new_doubles x.inner.lo (inf false) D.lo (inf-fits binary64 false),
    )
    go false = (plain.plus_doubles D, infinite_doubles false true)

-- ---- merging loses nothing
merge_around_left : (i j : Interval) → Number i.lo → Le (interval.merge_interval i j).lo i.lo
unfolding interval.merge_interval
merge_around_left i j N = plus_le (min_le_left j.lo (le_refl N))

merge_around_right : (i j : Interval) → Number i.hi → Le i.hi (interval.merge_interval i j).hi
unfolding interval.merge_interval
merge_around_right i j N = le_plus (max_ge_left j.hi (le_refl N))

module _ (x : WraparoundInterval) (D : Doubles x.inner) (w : is_wraparound x ≡ true) where
  lo_number : Number x.inner.lo
  lo_number = (lt_number (wrapped_high_to_low D w)).1

  hi_number : Number x.inner.hi
  hi_number = (lt_number (wrapped_high_to_low D w)).0

  around_pieces : Around x (split x).left (split x).right
  around_pieces = rw (split_wrapped x w) (record { left_lo = le_refl infinite; left_hi = le_plus (le_refl hi_number); right_lo = plus_le (le_refl lo_number); right_hi = le_refl infinite })

  -- around a piece, around what it is merged with
  around_left : {l r : Interval} (j : Interval) → Around x l r → Around x (interval.merge_interval l j) r
  around_left {l} j a = record {
    left_lo = le_trans (merge_around_left l j (le_number a.left_lo).0) a.left_lo;
    left_hi = le_trans a.left_hi (merge_around_right l j (le_number a.left_hi).1);
    right_lo = a.right_lo;
    right_hi = a.right_hi;
  }

  around_right : {l r : Interval} (j : Interval) → Around x l r → Around x l (interval.merge_interval r j)
  around_right {r = r} j a = record {
    left_lo = a.left_lo;
    left_hi = a.left_hi;
    right_lo = le_trans (merge_around_left r j (le_number a.right_lo).0) a.right_lo;
    right_hi = le_trans a.right_hi (merge_around_right r j (le_number a.right_hi).1);
  }

  module _ {y : WraparoundInterval} {k : Interval} (E : Doubles y.inner) where
    merge_wrapped_within : Within x k ⊎ Within y k → Within (merge_wrapped x y) k
    unfolding merge_wrapped
    merge_wrapped_within h =
        from_pieces_within D
        (plain.merge_doubles (split_doubles x D).0 (split_doubles y E).0) (plain.merge_doubles (split_doubles x D).1 (split_doubles y E).1)
        w (around_left (split y).left (around_right (split y).right around_pieces))
        (⊎_elim
        (λ a. ⊎_elim (λ c. inl (merge_contains_left (split y).left c)) (λ c. inr (merge_contains_left (split y).right c)) a.piece)
        (λ b. ⊎_elim (λ c. inl (merge_contains_right (split x).left c)) (λ c. inr (merge_contains_right (split x).right c)) b.piece)
        h)

    -- whichever piece the plain one joins
    merge_plain_within : Within x k ⊎ Contains y.inner k → Within (merge_plain x y) k
    unfolding merge_plain
    merge_plain_within h = go (nearer_left x y)
      where
        go : (b : Bool) → Within (cond b (from_pieces (interval.merge_interval (split x).left y.inner) (split x).right) (from_pieces (split x).left (interval.merge_interval (split x).right y.inner))) k
        go true =
            from_pieces_within D (plain.merge_doubles (split_doubles x D).0 E) (split_doubles x D).1 w (around_left y.inner around_pieces)
            (⊎_elim (λ a. ⊎_elim (λ c. inl (merge_contains_left y.inner c)) (λ c. inr c) a.piece) (λ c. inl (merge_contains_right (split x).left c)) h)
        go false =
            from_pieces_within D (split_doubles x D).0 (plain.merge_doubles (split_doubles x D).1 E) w (around_right y.inner around_pieces)
            (⊎_elim (λ a. ⊎_elim (λ c. inl c) (λ c. inr (merge_contains_left y.inner c)) a.piece) (λ c. inr (merge_contains_right (split x).right c)) h)

-- what does not wrap, is not empty and has no NaN runs low to high
plain_low_to_high : {x : WraparoundInterval} → Doubles x.inner → is_wraparound x ≡ false → is_empty x ≡ false → Number x.inner.lo → Number x.inner.hi
    → Le x.inner.lo x.inner.hi
unfolding is_wraparound
plain_low_to_high {x} D w e L H =
    le_of_not_lt H L (λ h.
    fails w (and_i (not (is_empty x)) (lt (interval.width x.inner) float.zero) (not_T (is_empty x) (fails e)) (sub_neg binary64 D.hi D.lo h).test))

-- What lies inside a piece of either, and inside no empty interval, lies inside a piece of both merged.
module _ {x y : WraparoundInterval} {k : Interval} (D : Doubles x.inner) (E : Doubles y.inner) (S : Solid k) where
  -- a plain x around k, and what contains all that it contains
  wider_within : {x : WraparoundInterval} {i : Interval} → Doubles x.inner → Doubles i → is_wraparound x ≡ false → ((j : Interval) → Contains x.inner j → Contains i j)
      → Within x k → Within (from_interval i) k
  wider_within {x} {i} D E w keep h =
      let c = within_plain S w h in
      let N = plain.containing_numbers c in
      let l = plain_low_to_high D w (is_false (is_empty x) (λ e. S.outside D (is_true (is_empty x) e) c)) N.0 N.1 in
      plain_within
      (low_to_high_plain (plain.plus_doubles E) (plain.contains_low_to_high (plain.plus_contains i (keep x.inner (plain.contains_itself N.0 N.1))) l))
      (plain.plus_contains i (keep k c))

  merge_non_empty_within : Within x k ⊎ Within y k → Within (merge_non_empty x y) k
  unfolding merge_non_empty
  merge_non_empty_within h = go (is_wraparound x) (is_wraparound y) refl refl
    where
      go : (a b : Bool) → is_wraparound x ≡ a → is_wraparound y ≡ b
          → Within (cond a (cond b (merge_wrapped x y) (merge_plain x y)) (cond b (merge_plain y x) (from_interval (interval.merge_interval x.inner y.inner)))) k
      go true true w u = merge_wrapped_within x D w E h
      go true false w u = merge_plain_within x D w E (⊎_elim (λ a. inl a) (λ b. inr (within_plain S u b)) h)
      go false true w u = merge_plain_within y E u D (⊎_elim (λ a. inr (within_plain S w a)) (λ b. inl b) h)
      go false false w u =
          ⊎_elim
          (λ a. wider_within D (plain.merge_doubles D E) w (λ j. merge_contains_left y.inner) a)
          (λ b. wider_within E (plain.merge_doubles D E) u (λ j. merge_contains_right x.inner) b)
          h

  pub merge_within : Within x k ⊎ Within y k → Within (merge_interval x y) k
  unfolding merge_interval
  merge_within h = go (is_empty x) (is_empty y) refl refl
    where
      go : (a b : Bool) → is_empty x ≡ a → is_empty y ≡ b → Within (cond a (plus_zero y) (cond b (plus_zero x) (merge_non_empty x y))) k
      go true b e f = ⊎_elim (λ a. absurd (S.outside D e (within_plain S (empty_not_wrapped x e) a))) (λ b. plus_within b) h
      go false true e f = ⊎_elim (λ a. plus_within a) (λ b. absurd (S.outside E f (within_plain S (empty_not_wrapped y f) b))) h
      go false false e f = merge_non_empty_within h

pub merge_accepts : {x y : WraparoundInterval} {v : Float} → Doubles x.inner → Doubles y.inner → Accepts x v ⊎ Accepts y v → Accepts (merge_interval x y) v
merge_accepts {x} {y} {v} D E h =
    let N = ⊎_elim accepts_number accepts_number h in
    accepts_of_within (merge_within D E (plain.low_to_high_solid (plus_le_plus (le_refl N))) (⊎_elim (λ a. inl (within_of_accepts a)) (λ b. inr (within_of_accepts b)) h))

-- ---- merged ends are doubles
from_pieces_doubles : {l r : Interval} → Doubles l → Doubles r → Doubles (from_pieces l r).inner
unfolding from_pieces
from_pieces_doubles {l} {r} L R = go (interval.intersects_interval l r)
  where
    go : (b : Bool) → Doubles (cond b full (new r.lo l.hi)).inner
    go true = infinite_doubles true false
    go false = plain.new_doubles r.lo l.hi R.lo L.hi

merge_plain_doubles : {x y : WraparoundInterval} → Doubles x.inner → Doubles y.inner → Doubles (merge_plain x y).inner
unfolding merge_plain
merge_plain_doubles {x} {y} D E = go (nearer_left x y)
  where
    go : (b : Bool) → Doubles (cond b (from_pieces (interval.merge_interval (split x).left y.inner) (split x).right) (from_pieces (split x).left (interval.merge_interval (split x).right y.inner))).inner
    go true = from_pieces_doubles (plain.merge_doubles (split_doubles x D).0 E) (split_doubles x D).1
    go false = from_pieces_doubles (split_doubles x D).0 (plain.merge_doubles (split_doubles x D).1 E)

pub merge_doubles : {x y : WraparoundInterval} → Doubles x.inner → Doubles y.inner → Doubles (merge_interval x y).inner
unfolding merge_interval merge_non_empty merge_wrapped
merge_doubles {x} {y} D E = go (is_empty x) (is_empty y) (is_wraparound x) (is_wraparound y)
  where
    go : (a b c d : Bool)
        → Doubles (cond a (plus_zero y) (cond b (plus_zero x) (cond c (cond d (merge_wrapped x y) (merge_plain x y)) (cond d (merge_plain y x) (from_interval (interval.merge_interval x.inner y.inner)))))).inner
    go true b c d = plain.plus_doubles E
    go false true c d = plain.plus_doubles D
    go false false true true = from_pieces_doubles (plain.merge_doubles (split_doubles x D).0 (split_doubles y E).0) (plain.merge_doubles (split_doubles x D).1 (split_doubles y E).1)
    go false false true false = merge_plain_doubles D E
    go false false false true = merge_plain_doubles E D
    go false false false false = plain.plus_doubles (plain.merge_doubles D E)

-- ---- merging a value
module _ {x : WraparoundInterval} {v : Float} (D : Doubles x.inner) (F : T (fits binary64 v)) where
  -- the value lies between the ends of a wrapped x that does not accept it
  between_ends : is_wraparound x ≡ true → Number v → (Accepts x v → ⊥) → Lt x.inner.hi v × Lt v x.inner.lo
  between_ends w N n =
      (lt_of_not_le N (hi_number x D w) (λ k. n (wrapped_accepts_left w k)), lt_of_not_le (lo_number x D w) N (λ k. n (wrapped_accepts_right w k)))

  -- so both distances are above 0, as the Rust's debug assertions say
  pub distances_positive : is_wraparound x ≡ true → Number v → (Accepts x v → ⊥)
      → Lt float.zero (sub binary64 v x.inner.hi) × Lt float.zero (sub binary64 x.inner.lo v)
  distances_positive w N n = let b = between_ends w N n in (sub_pos binary64 F D.hi b.0, sub_pos binary64 D.lo F b.1)

  -- whichever end moves
  move_end_accepts : {u : Float} → is_wraparound x ≡ true → Number v → (Accepts x v → ⊥) → Accepts x u ⊎ (u ≡ v) → Accepts (move_end x v) u
  unfolding move_end
  move_end_accepts {u} w N n h = go (lt (sub binary64 v x.inner.hi) (sub binary64 x.inner.lo v))
    where
      b : Lt x.inner.hi v × Lt v x.inner.lo
      b = between_ends w N n

      alone : u ≡ v → Le u v × Le v u
      alone e = subst (λ (z : Float). Le z v × Le v z) (sym e) (le_refl N, le_refl N)

      go : (t : Bool) → Accepts (cond t (new x.inner.lo v) (new v x.inner.hi)) u
      go true =
          let w' : is_wraparound (new x.inner.lo v) ≡ true = wider_wraps D (plain.new_doubles x.inner.lo v D.lo F) w (plus_le (le_refl (lo_number x D w))) (le_plus (le_of_lt b.0)) (plus_lt_plus b.1) in
          ⊎_elim
          (λ a. ⊎_elim (λ k. wrapped_accepts_left w' (le_plus (le_trans k (le_of_lt b.0)))) (λ k. wrapped_accepts_right w' (plus_le k)) (wrapped_cases w a))
          (λ e. wrapped_accepts_left w' (le_plus (alone e).0))
          h
      go false =
          let w' : is_wraparound (new v x.inner.hi) ≡ true = wider_wraps D (plain.new_doubles v x.inner.hi F D.hi) w (plus_le (le_of_lt b.1)) (le_plus (le_refl (hi_number x D w))) (plus_lt_plus b.0) in
          ⊎_elim
          (λ a. ⊎_elim (λ k. wrapped_accepts_left w' (le_plus k)) (λ k. wrapped_accepts_right w' (plus_le (le_trans (le_of_lt b.1) k))) (wrapped_cases w a))
          (λ e. wrapped_accepts_right w' (plus_le (alone e).1))
          h

  merge_new_value : {u : Float} → Number v → (Accepts x v → ⊥) → Accepts x u ⊎ (u ≡ v)
      → Accepts (cond (not (is_wraparound x)) (from_interval (interval.merge_value x.inner v)) (move_end x v)) u
  merge_new_value {u} N n h = go (is_wraparound x) refl
    where
      go : (b : Bool) → is_wraparound x ≡ b → Accepts (cond (not b) (from_interval (interval.merge_value x.inner v)) (move_end x v)) u
      go true w = move_end_accepts w N n h
      go false w =
          accepts_of_plain (plain.plus_doubles (plain.merge_value_doubles v D F))
          (plain.plus_accepts (interval.merge_value x.inner v) (⊎_elim
          (λ a. plain.merge_value_keeps v (plain_of_accepts w a))
          (λ e. subst (λ (z : Float). interval.Accepts (interval.merge_value x.inner v) z) (sym e) (plain.merge_value_accepts x.inner N))
          h))

  merge_value_accepts_both : {u : Float} → Accepts x u ⊎ ((u ≡ v) × Number v) → Accepts (merge_value x v) u
  unfolding merge_value
  merge_value_accepts_both {u} h = go (intersects_value x v) (is_nan v) refl refl
    where
      go : (a b : Bool) → intersects_value x v ≡ a → is_nan v ≡ b
          → Accepts (cond (a || b) (plus_zero x) (cond (not (is_wraparound x)) (from_interval (interval.merge_value x.inner v)) (move_end x v))) u
      go true b e g = plus_accepts (⊎_elim (λ a. a) (λ k. subst (λ (z : Float). Accepts x z) (sym k.0) (record { holds = e })) h)
      go false true e g = ⊎_elim (λ a. plus_accepts a) (λ k. absurd (fails (number_test k.1) (holds g))) h
      go false false e g =
          merge_new_value (number_of_test v g) (λ a. fails e (holds a.holds)) (⊎_elim (λ a. inl a) (λ k. inr k.0) h)

pub merge_value_keeps : {x : WraparoundInterval} {u : Float} (v : Float) → Doubles x.inner → T (fits binary64 v) → Accepts x u → Accepts (merge_value x v) u
merge_value_keeps {x} v D F h = merge_value_accepts_both {x = x} {v = v} D F (inl h)

pub merge_value_accepts : {x : WraparoundInterval} {v : Float} → Doubles x.inner → T (fits binary64 v) → Number v → Accepts (merge_value x v) v
merge_value_accepts {x} {v} D F N = merge_value_accepts_both {x = x} {v = v} D F (inr (refl, N))

-- ---- two that accept a common number intersect
pieces_intersect_lem : {i : Interval} {y : WraparoundInterval} {v : Float} → interval.Accepts i v → Accepts y v → T (pieces_intersect (split y) i)
unfolding pieces_intersect
pieces_intersect_lem {i} {y} h k =
    ⊎_elim
    (λ a. or_left (interval.intersects_interval i (split y).left) (interval.intersects_interval i (split y).right) (holds (plain.common_intersect h a)))
    (λ b. or_right (interval.intersects_interval i (split y).left) (interval.intersects_interval i (split y).right) (holds (plain.common_intersect h b)))
    (accepts_cases k)

pub common_intersect : {x y : WraparoundInterval} {v : Float} → Accepts x v → Accepts y v → intersects_interval x y ≡ true
unfolding intersects_interval
common_intersect {x} {y} h k =
    is_true (intersects_interval x y)
    (⊎_elim
    (λ a. or_left (pieces_intersect (split y) (split x).left) (pieces_intersect (split y) (split x).right) (pieces_intersect_lem a k))
    (λ b. or_right (pieces_intersect (split y) (split x).left) (pieces_intersect (split y) (split x).right) (pieces_intersect_lem b k))
    (accepts_cases h))
