-- A test of two dimensions, and one made of two, by what the code does with a pair of intervals that are both known. Assumes nothing.
use Rattle.std.specs.Prelude.{◌≡◌, Bool, Option, Some, None, MatchOption, IsTrue, IsSomeAnd}
use Rattle.std.specs.Option.{option_zip}
use mathlib.Core.Path.{subst}
use Rattle.sedona_geometry.specs.BoundingBox.{test_known, join_known, plus_zero_where_known}
use Rattle.sedona_geometry.specs.Interval as interval
use Rattle.sedona_geometry.specs.declared.interval.Interval.{Interval}

-- `P` is what the step says of its two intervals and its result.
pub tested : (f : Interval → Interval → Bool) {r : Bool} {o : Option (Interval × Interval)} {P : Interval × Interval → Type 0} (a b : Option Interval)
    → o ≡ option_zip a b → MatchOption o (IsTrue r) P → ((p : Interval × Interval) → P p → r ≡ f p.0 p.1) → r ≡ test_known f a b
unfolding test_known
tested f {r} {P = P} a b z h k = by_cases a b (subst (λ o. MatchOption o (IsTrue r) P) z h) where
  by_cases : (a b : Option Interval) → MatchOption (option_zip a b) (IsTrue r) P → r ≡ test_known f a b
  by_cases None b h = h
  by_cases (Some i) None h = h
  by_cases (Some i) (Some j) h = k _ h

pub joined : (f : Interval → Interval → Interval) {r : Option Interval} {o : Option (Interval × Interval)} {P : Interval × Interval → Interval → Type 0} (a b : Option Interval)
    → o ≡ option_zip a b → MatchOption o (r ≡ None) (λ p. IsSomeAnd r (P p)) → ((p : Interval × Interval) (i : Interval) → P p i → i ≡ f p.0 p.1) → r ≡ join_known f a b
unfolding join_known
joined f {r} {P = P} a b z h k = by_cases r a b (subst (λ o. MatchOption o (r ≡ None) (λ p. IsSomeAnd r (P p))) z h) where
  by_cases : (r a b : Option Interval) → MatchOption (option_zip a b) (r ≡ None) (λ p. IsSomeAnd r (P p)) → r ≡ join_known f a b
  by_cases r None b h = h
  by_cases r (Some i) None h = h
  by_cases (Some m) (Some i) (Some j) h = rw (k _ _ h)
  by_cases None (Some i) (Some j) h = elim h [ ]

pub handed_on : {r : Option Interval} (a : Option Interval) → MatchOption a (r ≡ None) (λ i. IsSomeAnd r (λ j. j ≡ interval.plus_zero i)) → r ≡ plus_zero_where_known a
handed_on None h = h
handed_on {r = Some j} (Some i) h = rw h
handed_on {r = None} (Some i) h = elim h [ ]
