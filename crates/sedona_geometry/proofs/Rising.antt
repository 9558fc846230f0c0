-- Two x that both run low to high are tested and merged as plain intervals, by their ends. Assumes nothing.
use mathlib.Core.Path.{◌≡◌, refl}
use mathlib.Core.Bool.{Bool, true, false, ◌||◌}
use lib.Dec.{T}
use lib.Ieee.{le}
use lib.Ieee.Fits.{and_l, and_r, and_i}
use Rattle.sedona_geometry.specs.Interval as interval
use Rattle.sedona_geometry.specs.Interval.{Doubles}
use Rattle.sedona_geometry.specs.Within.{both_rise}
use Rattle.sedona_geometry.specs.WraparoundInterval.{from_interval, pieces_intersect, intersects_interval, contains_interval, merge_interval}
use Rattle.sedona_geometry.specs.declared.interval.Interval.{Interval}
use Rattle.sedona_geometry.specs.declared.interval.WraparoundInterval.{WraparoundInterval}
use Rattle.sedona_geometry.proofs.Booleans.{holds}
use Rattle.sedona_geometry.proofs.Order.{Le, le_trans, le_number, top, bottom, below_bottom, top_not_bottom}
use Rattle.sedona_geometry.proofs.PlusZero.{same}
use Rattle.sedona_geometry.proofs.Alike.{SameEnds, plus_same, intersects_alike}
use Rattle.sedona_geometry.proofs.Wrapping.{low_to_high_plain, split_plain}
use Rattle.sedona_geometry.proofs.Contains.{contains_low_to_high, merge_ordered}

-- ---- what the empty piece of an x that does not wrap adds to a test: nothing
abbrev Meet : Interval → Interval → Type 0
Meet i j = T (interval.intersects_interval i j)

meet : {i j : Interval} → Le i.lo j.hi → Le j.lo i.hi → Meet i j
unfolding interval.intersects_interval
meet {i} {j} h k = and_i (le i.lo j.hi) (le j.lo i.hi) h.test k.test

met : (i j : Interval) → Meet i j → Le i.lo j.hi × Le j.lo i.hi
unfolding interval.intersects_interval
met i j t =
    let l = le i.lo j.hi in
    let r = le j.lo i.hi in
    (record { test = and_l l r t }, record { test = and_r l r t })

-- One that meets the empty interval is full, and meets every one that runs low to high.
module _ (i j : Interval) (h : Le i.lo i.hi) (k : Le j.lo j.hi) where
  left_full : Meet i interval.empty → Meet i j
  left_full t = let m = met i interval.empty t in meet (le_trans m.0 (bottom (le_number k).1)) (le_trans (top (le_number k).0) m.1)

  right_full : Meet interval.empty j → Meet i j
  right_full t = let m = met interval.empty j t in meet (le_trans (top (le_number h).0) m.0) (le_trans m.1 (bottom (le_number h).1))

empties_apart : Meet interval.empty interval.empty → ⊥
empties_apart t = top_not_bottom (below_bottom (met interval.empty interval.empty t).0)

absorbs : (a b c d : Bool) → (T b → T a) → (T c → T a) → (T d → ⊥) → ((a || b) || (c || d)) ≡ a
absorbs true b c d f g h = refl
absorbs false true c d f g h = absurd (f tt)
absorbs false false true d f g h = absurd (g tt)
absorbs false false false true f g h = absurd (h tt)
absorbs false false false false f g h = refl

empty_itself : SameEnds interval.empty interval.empty
empty_itself = record { lo = same; hi = same }

-- ---- the three ways by the ends
module _ (x y : WraparoundInterval) (D : Doubles x.inner) (E : Doubles y.inner) (r : both_rise x y ≡ true) where
  ends : Le x.inner.lo x.inner.hi × Le y.inner.lo y.inner.hi
  unfolding both_rise
  ends =
      let a = le x.inner.lo x.inner.hi in
      let b = le y.inner.lo y.inner.hi in
      (record { test = and_l a b (holds r) }, record { test = and_r a b (holds r) })

  pub rising_intersect : intersects_interval x y ≡ interval.intersects_interval x.inner y.inner
  unfolding intersects_interval pieces_intersect
  rising_intersect =
      let i = x.inner in
      let j = y.inner in
      rw (
        split_plain x (low_to_high_plain D ends.0),
        split_plain y (low_to_high_plain E ends.1),
        intersects_alike (plus_same i) (plus_same j),
        intersects_alike (plus_same i) empty_itself,
        intersects_alike empty_itself (plus_same j),
      )
      (absorbs (interval.intersects_interval i j) (interval.intersects_interval i interval.empty) (interval.intersects_interval interval.empty j) (interval.intersects_interval interval.empty interval.empty)
      (left_full i j ends.0 ends.1) (right_full i j ends.0 ends.1) empties_apart)

  pub rising_contain : contains_interval x y ≡ interval.contains_interval x.inner y.inner
  rising_contain = contains_low_to_high x y E (low_to_high_plain D ends.0) ends.1

  pub rising_merge : merge_interval x y ≡ from_interval (interval.merge_interval x.inner y.inner)
  rising_merge = merge_ordered D E ends.0 ends.1
