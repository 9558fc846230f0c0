-- No call sees the sign of a zero that comes in: what it answers and gives is the same. Operations first, then intervals, x and boxes. Assumes nothing.
use Rattle.std.specs.Prelude.{Option, Some, None}
use mathlib.Core.Path.{◌≡◌, refl, ap, ap₂, ◌∙◌}
use mathlib.Core.Bool.{Bool, true, false, not, ◌&&◌, ◌||◌, cond}
use Prim.Native.Nat.{ℕ, zero, suc, ◌*◌, ◌<◌}
use native.Mathlib.Nat.{zero-add, add-zero, sub-zero, zero-mul, mul-pos}
use native.Mathlib.Omega.{arith}
use lib.IntN.{ℤ, pos}
use lib.Ieee.{Float, nan, inf, fin, Format, binary64, up, down, round, neg, sum, add, sub, div, unlike, lt, is_nan}
use lib.Ieee.Fits.{down_pos}
use borrow.Author.Tests.{lt-ltb, le-ltb}
use Rattle.sedona_geometry.specs.Float as float
use Rattle.sedona_geometry.specs.Float.{min_num, max_num, abs}
use Rattle.sedona_geometry.specs.Interval as interval
use Rattle.sedona_geometry.specs.declared.interval.Interval.{Interval}
use Rattle.sedona_geometry.specs.declared.interval.Pieces.{Pieces}
use Rattle.sedona_geometry.specs.declared.interval.WraparoundInterval.{WraparoundInterval}
use Rattle.sedona_geometry.specs.WraparoundInterval as wraparound
use Rattle.sedona_geometry.specs.BoundingBox.{test_known, join_known, plus_zero_where_known, plus_zero, intersects, contains, expand_by, merge_box, intersection, KnownAlike, Both}
use Rattle.sedona_geometry.specs.declared.bounding_box.BoundingBox.{BoundingBox}
use Rattle.sedona_geometry.proofs.PlusZero.{Alike, same, zeros, alike_plus, plus_alike, nan_alike, lt_alike, eq_alike, le_alike}
use Rattle.sedona_geometry.proofs.Rounding.{round_zero, positive}

-- ---- a sum with a zero is the other, or a zero
sum_zeros : (f : Format) (s t : Bool) (c : ℕ) → 0 < c → (u : Bool) × (sum f s 0 t 0 c ≡ fin u 0 (pos 0))
unfolding sum
sum_zeros f false false c C = (false, round_zero f c C false)
sum_zeros f true true c C = (true, round_zero f c C true)
sum_zeros f false true c C = (false, round_zero f c C false)
sum_zeros f true false c C = (false, round_zero f c C false)

zero_sum : (f : Format) (s t : Bool) (b c : ℕ) → 0 < b → sum f s 0 t b c ≡ round f t b c
unfolding sum
zero_sum f false false b c B = rw (zero-add b)
zero_sum f true true b c B = rw (zero-add b)
zero_sum f false true b c B = rw (lt-ltb 0 b B, sub-zero b)
zero_sum f true false b c B = rw (lt-ltb 0 b B, sub-zero b)

pub sum_zero : (f : Format) (s t : Bool) (b c : ℕ) → 0 < b → sum f t b s 0 c ≡ round f t b c
unfolding sum
sum_zero f false false b c B = rw (add-zero b)
sum_zero f true true b c B = rw (add-zero b)
sum_zero f false true b c B = rw (le-ltb b 0 (omega arith), lt-ltb 0 b B, sub-zero b)
sum_zero f true false b c B = rw (le-ltb b 0 (omega arith), sub-zero b)

module _ (f : Format) (s t u : Bool) (c : ℕ) (C : 0 < c) where
  sum_left : (b : ℕ) → Alike (sum f s 0 u b c) (sum f t 0 u b c)
  sum_left zero = rw ((sum_zeros f s u c C).1, (sum_zeros f t u c C).1) zeros
  sum_left (suc b) = rw (zero_sum f s u (suc b) c (omega arith), zero_sum f t u (suc b) c (omega arith)) same

  sum_right : (b : ℕ) → Alike (sum f u b s 0 c) (sum f u b t 0 c)
  sum_right zero = rw ((sum_zeros f u s c C).1, (sum_zeros f u t c C).1) zeros
  sum_right (suc b) = rw (sum_zero f s u (suc b) c (omega arith), sum_zero f t u (suc b) c (omega arith)) same

-- ---- operations
module _ (s t : Bool) (e : ℤ) (f : Format) where
  zero_add_alike : (y : Float) → Alike (add f (fin s 0 e) y) (add f (fin t 0 e) y)
  unfolding add
  zero_add_alike nan = same
  zero_add_alike (inf u) = same
  zero_add_alike (fin u n d) = rw (zero-mul (up e), zero-mul (down d)) (sum_left f s t u (down e * down d) (positive e d) (n * up d * down e))

  add_zero_alike : (x : Float) → Alike (add f x (fin s 0 e)) (add f x (fin t 0 e))
  unfolding add
  add_zero_alike nan = same
  add_zero_alike (inf u) = same
  add_zero_alike (fin u n d) = rw (zero-mul (up e), zero-mul (down d)) (sum_right f s t u (down d * down e) (positive d e) (n * up d * down e))

alike_trans : {x y z : Float} → Alike x y → Alike y z → Alike x z
alike_trans same b = b
alike_trans zeros same = zeros
alike_trans zeros zeros = zeros

add_left : (f : Format) {x x' : Float} → Alike x x' → (y : Float) → Alike (add f x y) (add f x' y)
add_left f same y = same
add_left f (zeros {s} {t} {e}) y = zero_add_alike s t e f y

add_right : (f : Format) (x : Float) {y y' : Float} → Alike y y' → Alike (add f x y) (add f x y')
add_right f x same = same
add_right f x (zeros {s} {t} {e}) = add_zero_alike s t e f x

neg_alike : {x x' : Float} → Alike x x' → Alike (neg x) (neg x')
unfolding neg
neg_alike same = same
neg_alike zeros = zeros

module _ (f : Format) {x x' y y' : Float} (a : Alike x x') (b : Alike y y') where
  pub add_alike : Alike (add f x y) (add f x' y')
  add_alike = alike_trans (add_left f a y) (add_right f x' b)

module _ (f : Format) {x x' y y' : Float} (a : Alike x x') (b : Alike y y') where
  pub sub_alike : Alike (sub f x y) (sub f x' y')
  unfolding sub
  sub_alike = add_alike f a (neg_alike b)

half_alike : (f : Format) {x x' : Float} → Alike x x' → Alike (div f x float.two) (div f x' float.two)
unfolding div
half_alike f same = same
half_alike f (zeros {s} {t} {e}) =
    let c = 1 * up (pos 1) * down e in
    let C : 0 < c = mul-pos (omega arith) (down_pos e) in
    rw (zero-mul (up e), zero-mul (down (pos 1)), round_zero f c C (unlike s false), round_zero f c C (unlike t false)) zeros

abs_alike : {x x' : Float} → Alike x x' → abs x ≡ abs x'
unfolding abs
abs_alike same = refl
abs_alike zeros = refl

choose_alike : (a b : Bool) {x x' y y' : Float} → Alike x x' → Alike y y' → float.plus_zero (cond a y (cond b y x)) ≡ float.plus_zero (cond a y' (cond b y' x'))
choose_alike true b h k = plus_alike k
choose_alike false true h k = plus_alike k
choose_alike false false h k = plus_alike h

module _ {x x' y y' : Float} (a : Alike x x') (b : Alike y y') where
  pub min_alike : min_num x y ≡ min_num x' y'
  unfolding min_num
  min_alike = choose_alike (is_nan x) (lt y x) a b ∙ ap₂ (λ (p q : Bool). float.plus_zero (cond p y' (cond q y' x'))) (nan_alike a) (lt_alike b a)

  pub max_alike : max_num x y ≡ max_num x' y'
  unfolding max_num
  max_alike = choose_alike (is_nan x) (lt x y) a b ∙ ap₂ (λ (p q : Bool). float.plus_zero (cond p y' (cond q y' x'))) (nan_alike a) (lt_alike a b)

-- ---- intervals: both ends are alike
pub record SameEnds (i j : Interval) : Type 0 where
  pub lo : Alike i.lo j.lo
  pub hi : Alike i.hi j.hi

pub plus_same : (i : Interval) → SameEnds (interval.plus_zero i) i
plus_same i = record { lo = alike_plus i.lo; hi = alike_plus i.hi }

pub itself : (i : Interval) → SameEnds i i
itself i = record { lo = same; hi = same }

new_alike : {lo lo' hi hi' : Float} → Alike lo lo' → Alike hi hi' → interval.new lo hi ≡ interval.new lo' hi'
new_alike a b = ap₂ (λ (x y : Float). record { lo = x; hi = y }) (plus_alike a) (plus_alike b)

pub plus_zero_alike : {i j : Interval} → SameEnds i j → interval.plus_zero i ≡ interval.plus_zero j
plus_zero_alike h = new_alike h.lo h.hi

pub accepts_alike : {i j : Interval} {v w : Float} → SameEnds i j → Alike v w → interval.intersects_value i v ≡ interval.intersects_value j w
unfolding interval.intersects_value
accepts_alike h k = ap₂ (λ (p q : Bool). p && q) (le_alike h.lo k) (le_alike k h.hi)

width_alike : {i j : Interval} → SameEnds i j → Alike (interval.width i) (interval.width j)
width_alike h = sub_alike binary64 h.hi h.lo

mid_alike : {i j : Interval} → SameEnds i j → Alike (interval.mid i) (interval.mid j)
mid_alike h = add_alike binary64 h.lo (half_alike binary64 (width_alike h))

pub empty_alike : {i j : Interval} → SameEnds i j → interval.is_empty i ≡ interval.is_empty j
unfolding interval.is_empty
empty_alike h = eq_alike (width_alike h) same

unmoved_alike : {i j : Interval} {d d' : Float} → SameEnds i j → Alike d d' → interval.is_unmoved_by i d ≡ interval.is_unmoved_by j d'
unfolding interval.is_unmoved_by
unmoved_alike h k = rw (empty_alike h, nan_alike k, lt_alike k (same {x = float.zero}))

pub expand_alike : {i j : Interval} {d d' : Float} → SameEnds i j → Alike d d' → interval.expand_by i d ≡ interval.expand_by j d'
unfolding interval.expand_by
expand_alike {i} {j} {d} {d'} h k =
    rw (unmoved_alike h k, plus_zero_alike h, new_alike (sub_alike binary64 h.lo k) (add_alike binary64 h.hi k))

module _ {i i' j j' : Interval} (h : SameEnds i i') (k : SameEnds j j') where
  pub intersects_alike : interval.intersects_interval i j ≡ interval.intersects_interval i' j'
  unfolding interval.intersects_interval
  intersects_alike = ap₂ (λ (p q : Bool). p && q) (le_alike h.lo k.hi) (le_alike k.lo h.hi)

  pub contains_alike : interval.contains_interval i j ≡ interval.contains_interval i' j'
  unfolding interval.contains_interval
  contains_alike = ap₂ (λ (p q : Bool). p && q) (le_alike h.lo k.lo) (le_alike k.hi h.hi)

  pub merge_alike : interval.merge_interval i j ≡ interval.merge_interval i' j'
  unfolding interval.merge_interval
  merge_alike = ap₂ interval.new (min_alike h.lo k.lo) (max_alike h.hi k.hi)

  pub intersection_alike : interval.intersection i j ≡ interval.intersection i' j'
  unfolding interval.intersection
  intersection_alike = ap₂ interval.ordered (max_alike h.lo k.lo) (min_alike h.hi k.hi)

pub merge_value_alike : {i j : Interval} {v w : Float} → SameEnds i j → Alike v w → interval.merge_value i v ≡ interval.merge_value j w
unfolding interval.merge_value
merge_value_alike h k = ap₂ interval.new (min_alike h.lo k) (max_alike h.hi k)

-- ---- x
abbrev pub SameX : WraparoundInterval → WraparoundInterval → Type 0
SameX x y = SameEnds x.inner y.inner

pub wraps_alike : {x y : WraparoundInterval} → SameX x y → wraparound.is_wraparound x ≡ wraparound.is_wraparound y
unfolding wraparound.is_wraparound
wraps_alike h = ap₂ (λ (p q : Bool). not p && q) (empty_alike h) (lt_alike (width_alike h) same)

abbrev pieces : Bool → Float → Float → Pieces
pieces b l u = cond b (record { left = record { lo = inf true; hi = u }; right = record { lo = l; hi = inf false } }) (record { left = record { lo = l; hi = u }; right = interval.empty })

-- the pieces are the same ones
pub split_alike : {x y : WraparoundInterval} → SameX x y → wraparound.split x ≡ wraparound.split y
unfolding wraparound.split
split_alike {x} {y} h =
    rw (wraps_alike h) (ap₂ (λ (l u : Float). pieces (wraparound.is_wraparound y) l u) (plus_alike h.lo) (plus_alike h.hi))

pub pieces_contain_alike : (p : Pieces) {i j : Interval} → SameEnds i j → wraparound.pieces_contain p i ≡ wraparound.pieces_contain p j
unfolding wraparound.pieces_contain
pieces_contain_alike p h = rw (empty_alike h, contains_alike (itself p.left) h, contains_alike (itself p.right) h)

pub x_accepts_alike : {x y : WraparoundInterval} {v w : Float} → SameX x y → Alike v w → wraparound.intersects_value x v ≡ wraparound.intersects_value y w
unfolding wraparound.intersects_value
x_accepts_alike {x} {y} {v} {w} h k =
    rw (split_alike h) (ap₂ (λ (p q : Bool). p || q) (accepts_alike {i = (wraparound.split y).left} (itself (wraparound.split y).left) k) (accepts_alike (itself (wraparound.split y).right) k))

cond_alike : (b : Bool) {p q p' q' : Float} → Alike p p' → Alike q q' → Alike (cond b p q) (cond b p' q')
cond_alike true h k = h
cond_alike false h k = k

x_mid_alike : {x y : WraparoundInterval} → SameX x y → Alike (wraparound.mid x) (wraparound.mid y)
unfolding wraparound.mid
x_mid_alike {x} {y} h = rw (wraps_alike h) (cond_alike (wraparound.is_wraparound y) same (mid_alike h))

module _ {x x' y y' : WraparoundInterval} (h : SameX x x') (k : SameX y y') where
  pub x_intersects_alike : wraparound.intersects_interval x y ≡ wraparound.intersects_interval x' y'
  unfolding wraparound.intersects_interval
  x_intersects_alike = rw (split_alike h, split_alike k)

  pub x_contains_alike : wraparound.contains_interval x y ≡ wraparound.contains_interval x' y'
  unfolding wraparound.contains_interval
  x_contains_alike = rw (split_alike h, split_alike k)

  wrapped_alike : wraparound.merge_wrapped x y ≡ wraparound.merge_wrapped x' y'
  unfolding wraparound.merge_wrapped
  wrapped_alike = rw (split_alike h, split_alike k)

  nearer_alike : wraparound.nearer_left x y ≡ wraparound.nearer_left x' y'
  unfolding wraparound.nearer_left
  nearer_alike =
      let m = x_mid_alike k in
      rw (split_alike h)
      (ap₂ (λ (p q : Float). lt p q)
      (abs_alike (sub_alike binary64 m (same {x = (wraparound.split x').left.hi})))
      (abs_alike (sub_alike binary64 m (same {x = (wraparound.split x').right.lo}))))

  plain_alike : wraparound.merge_plain x y ≡ wraparound.merge_plain x' y'
  unfolding wraparound.merge_plain
  plain_alike = rw (nearer_alike, split_alike h, merge_alike (itself (wraparound.split x').left) k, merge_alike (itself (wraparound.split x').right) k)

module _ {x x' y y' : WraparoundInterval} (h : SameX x x') (k : SameX y y') where
  pub x_merge_alike : wraparound.merge_interval x y ≡ wraparound.merge_interval x' y'
  unfolding wraparound.merge_interval wraparound.merge_non_empty
  x_merge_alike =
      rw (
        empty_alike h,
        empty_alike k,
        wraps_alike h,
        wraps_alike k,
        plus_alike h.lo,
        plus_alike h.hi,
        plus_alike k.lo,
        plus_alike k.hi,
        wrapped_alike h k,
        plain_alike h k,
        plain_alike k h,
        merge_alike h k,
      )

move_end_alike : {x y : WraparoundInterval} {v w : Float} → SameX x y → Alike v w → wraparound.move_end x v ≡ wraparound.move_end y w
unfolding wraparound.move_end
move_end_alike h k =
    rw (lt_alike (sub_alike binary64 k h.hi) (sub_alike binary64 h.lo k), plus_alike h.lo, plus_alike h.hi, plus_alike k)

pub x_merge_value_alike : {x y : WraparoundInterval} {v w : Float} → SameX x y → Alike v w → wraparound.merge_value x v ≡ wraparound.merge_value y w
unfolding wraparound.merge_value
x_merge_value_alike h k =
    rw (x_accepts_alike h k, nan_alike k, wraps_alike h, plus_alike h.lo, plus_alike h.hi, merge_value_alike h k, move_end_alike h k)

excluding_alike : {l l' u u' : Float} → Alike l l' → Alike u u' → wraparound.excluding l u ≡ wraparound.excluding l' u'
unfolding wraparound.excluding
excluding_alike h k = rw (le_alike k h, plus_alike h, plus_alike k)

pub x_expand_alike : {x y : WraparoundInterval} {d d' : Float} → SameX x y → Alike d d' → wraparound.expand_by x d ≡ wraparound.expand_by y d'
unfolding wraparound.expand_by
x_expand_alike h k =
    rw (
      unmoved_alike h k,
      wraps_alike h,
      plus_alike h.lo,
      plus_alike h.hi,
      expand_alike h k,
      excluding_alike (add_alike binary64 h.hi k) (sub_alike binary64 h.lo k),
    )

module _ {x x' y y' : WraparoundInterval} (h : SameX x x') (k : SameX y y') where
  intersect_plain_alike : wraparound.intersect_plain x y ≡ wraparound.intersect_plain x' y'
  unfolding wraparound.intersect_plain
  intersect_plain_alike =
      let l = itself (wraparound.split y').left in
      let r = itself (wraparound.split y').right in
      rw (split_alike k, intersects_alike h l, intersects_alike h r, intersection_alike h l, intersection_alike h r)

  intersect_wrapped_alike : wraparound.intersect_wrapped x y ≡ wraparound.intersect_wrapped x' y'
  unfolding wraparound.intersect_wrapped
  intersect_wrapped_alike = rw (plus_alike h.lo, plus_alike h.hi, plus_alike k.lo, plus_alike k.hi)

module _ {x x' y y' : WraparoundInterval} (h : SameX x x') (k : SameX y y') where
  pub x_intersection_alike : wraparound.intersection x y ≡ wraparound.intersection x' y'
  unfolding wraparound.intersection
  x_intersection_alike =
      rw (wraps_alike h, wraps_alike k, intersect_wrapped_alike h k, intersect_plain_alike h k, intersect_plain_alike k h, intersection_alike h k)

-- ---- boxes: the same dimensions are known, and all ends are alike
abbrev pub SameKnown : Option Interval → Option Interval → Type 0
SameKnown = KnownAlike SameEnds

abbrev pub SameBox : BoundingBox → BoundingBox → Type 0
SameBox = Both SameX SameEnds SameKnown

plus_same_known : (d : Option Interval) → SameKnown (plus_zero_where_known d) d
plus_same_known None = tt
plus_same_known (Some i) = plus_same i

same_known_itself : (d : Option Interval) → SameKnown d d
same_known_itself None = tt
same_known_itself (Some i) = itself i

pub same_itself : (a : BoundingBox) → SameBox a a
same_itself a = record { x = itself a.x.inner; y = itself a.y; z = same_known_itself a.z; m = same_known_itself a.m }

-- what is handed on
pub plus_same_box : (a : BoundingBox) → SameBox (plus_zero a) a
plus_same_box a = record { x = plus_same a.x.inner; y = plus_same a.y; z = plus_same_known a.z; m = plus_same_known a.m }

plus_known_alike : (d e : Option Interval) → SameKnown d e → plus_zero_where_known d ≡ plus_zero_where_known e
plus_known_alike None None h = refl
plus_known_alike None (Some j) h = absurd h
plus_known_alike (Some i) None h = absurd h
plus_known_alike (Some i) (Some j) h = ap (λ (l : Interval). Some l) (plus_zero_alike h)

-- of two pairs: the first two are missing, the second two are, or all are known
by_known : (P : Option Interval → Option Interval → Option Interval → Option Interval → Type 0) → ((e e' : Option Interval) → P None None e e') → ((i i' : Interval) → P (Some i) (Some i') None None)
    → ((i i' j j' : Interval) → SameEnds i i' → SameEnds j j' → P (Some i) (Some i') (Some j) (Some j'))
    → (d d' e e' : Option Interval) → SameKnown d d' → SameKnown e e' → P d d' e e'
by_known P p q r None None e e' h k = p e e'
by_known P p q r None (Some i') e e' h k = absurd h
by_known P p q r (Some i) None e e' h k = absurd h
by_known P p q r (Some i) (Some i') None None h k = q i i'
by_known P p q r (Some i) (Some i') None (Some j') h k = absurd k
by_known P p q r (Some i) (Some i') (Some j) None h k = absurd k
by_known P p q r (Some i) (Some i') (Some j) (Some j') h k = r i i' j j' h k

test_alike : (f : Interval → Interval → Bool) → ((i i' j j' : Interval) → SameEnds i i' → SameEnds j j' → f i j ≡ f i' j')
    → (d d' e e' : Option Interval) → SameKnown d d' → SameKnown e e' → test_known f d e ≡ test_known f d' e'
unfolding test_known
test_alike f alike = by_known (λ d d' e e'. test_known f d e ≡ test_known f d' e') (λ e e'. refl) (λ i i'. refl) alike

join_alike : (f : Interval → Interval → Interval) → ((i i' j j' : Interval) → SameEnds i i' → SameEnds j j' → f i j ≡ f i' j')
    → (d d' e e' : Option Interval) → SameKnown d d' → SameKnown e e' → join_known f d e ≡ join_known f d' e'
unfolding join_known
join_alike f alike =
    by_known (λ d d' e e'. join_known f d e ≡ join_known f d' e') (λ e e'. refl) (λ i i'. refl) (λ i i' j j' h k. ap (λ (l : Interval). Some l) (alike i i' j j' h k))

module _ {a a' b b' : BoundingBox} (h : SameBox a a') (k : SameBox b b') where
  pub boxes_intersect_alike : intersects a b ≡ intersects a' b'
  unfolding intersects
  boxes_intersect_alike =
      rw (
        x_intersects_alike h.x k.x,
        intersects_alike h.y k.y,
        test_alike interval.intersects_interval (λ i i' j j'. intersects_alike) a.z a'.z b.z b'.z h.z k.z,
        test_alike interval.intersects_interval (λ i i' j j'. intersects_alike) a.m a'.m b.m b'.m h.m k.m,
      )

  pub boxes_contain_alike : contains a b ≡ contains a' b'
  unfolding contains
  boxes_contain_alike =
      rw (
        x_contains_alike h.x k.x,
        contains_alike h.y k.y,
        test_alike interval.contains_interval (λ i i' j j'. contains_alike) a.z a'.z b.z b'.z h.z k.z,
        test_alike interval.contains_interval (λ i i' j j'. contains_alike) a.m a'.m b.m b'.m h.m k.m,
      )

  pub boxes_merge_alike : merge_box a b ≡ merge_box a' b'
  unfolding merge_box
  boxes_merge_alike =
      rw (
        x_merge_alike h.x k.x,
        merge_alike h.y k.y,
        join_alike interval.merge_interval (λ i i' j j'. merge_alike) a.z a'.z b.z b'.z h.z k.z,
        join_alike interval.merge_interval (λ i i' j j'. merge_alike) a.m a'.m b.m b'.m h.m k.m,
      )

  pub boxes_intersection_alike : intersection a b ≡ intersection a' b'
  unfolding intersection
  boxes_intersection_alike =
      rw (
        x_intersection_alike h.x k.x,
        intersection_alike h.y k.y,
        join_alike interval.intersection (λ i i' j j'. intersection_alike) a.z a'.z b.z b'.z h.z k.z,
        join_alike interval.intersection (λ i i' j j'. intersection_alike) a.m a'.m b.m b'.m h.m k.m,
      )

pub box_expand_alike : {a b : BoundingBox} {d d' : Float} → SameBox a b → Alike d d' → expand_by a d ≡ expand_by b d'
unfolding expand_by
box_expand_alike {a} {b} h k =
    rw (x_expand_alike h.x k, expand_alike h.y k, plus_known_alike a.z b.z h.z, plus_known_alike a.m b.m h.m)
