-- Over C an answer is never taken for a refusal: what a filter call or a test of boxes gives tells which it is, and no number that refuses one is 1
-- or 2. Assumes nothing.
use Rattle.std.specs.Prelude.{Option, Some, None}
use mathlib.Core.Path.{◌≡◌, refl, ap, subst}
use mathlib.Core.Bool.{Bool, true, false, cond}
use Prim.Native.Nat.{ℕ}
use native.Mathlib.Omega.{arith}
use lib.Dec.{eqb}
use borrow.Author.Tests.{ne_eqb}
use Rattle.std.specs.Prelude.{Result, Ok, Err}
use Rattle.sedona_geometry.specs.declared.bounding_box.BoundingBox.{BoundingBox}
use Rattle.sedona_expr.specs.SpatialFilter.{answer}
use Rattle.sedona_expr.specs.Tables.{Records, Table, root, Lookup, record_of}
use Rattle.sedona_expr.specs.Refusals.{refusal}
use Rattle.sedona_expr.specs.Calls.{outcome, evaluate}
use Rattle.sedona_expr.specs.declared.spatial_filter.Evaluation.{Evaluation}
use Rattle.sedona_expr.proofs.Numbers.{number, of_refusal}
use Rattle.johikape.specs.Boxes.{yes, test, HasBoth}
use Rattle.johikape.specs.Filters.{code, decode}

-- ---- filters
abbrev pub NoAnswer : ℕ → Type 0
NoAnswer n = (n ≡ 1 → ⊥) × (n ≡ 2 → ⊥)

refusal_no_answer : (l : Lookup) (t : Table) (r : Records) → NoAnswer (refusal l t r)
refusal_no_answer l t r =
    of_refusal NoAnswer (λ e. omega arith, λ e. omega arith) (λ e. omega arith, λ e. omega arith) (λ e. omega arith, λ e. omega arith) (λ e. omega arith, λ e. omega arith)
    (λ e. omega arith, λ e. omega arith) (λ e. omega arith, λ e. omega arith) (λ e. omega arith, λ e. omega arith) (λ e. omega arith, λ e. omega arith) l t r

outcome_no_answer : (n : ℕ) (b : Bool) → NoAnswer n → NoAnswer (number (outcome n b))
unfolding outcome
outcome_no_answer n b h = go (eqb n 0) b
  where
    go : (z b : Bool) → NoAnswer (number (cond z (cond b (Ok Evaluation.MayMatch) (Ok Evaluation.CannotMatch)) (Err n)))
    go true true = (λ e. omega arith, λ e. omega arith)
    go true false = (λ e. omega arith, λ e. omega arith)
    go false b = h

-- Neither filter call is refused by 1 or 2.
pub no_filter_refused_by : (l : Lookup) (t : Table) (r : Records) (n : ℕ) → evaluate l t r ≡ Err n → NoAnswer n
no_filter_refused_by l t r n e = subst NoAnswer (ap number e) (outcome_no_answer (refusal l t r) (answer (record_of l r) (root t)) (refusal_no_answer l t r))

-- So the number that C is given has the whole answer.
pub filter_decoded : (l : Lookup) (t : Table) (r : Records) → decode (code (evaluate l t r)) ≡ evaluate l t r
unfolding outcome
filter_decoded l t r = go (eqb (refusal l t r) 0) (answer (record_of l r) (root t)) refl
  where
    n : ℕ
    n = refusal l t r

    go : (z b : Bool) → eqb n 0 ≡ z → ◌≡◌ {A = Result Evaluation ℕ} (decode (code (cond z (cond b (Ok Evaluation.MayMatch) (Ok Evaluation.CannotMatch)) (Err n)))) (cond z (cond b (Ok Evaluation.MayMatch) (Ok Evaluation.CannotMatch)) (Err n))
    go true true e = refl
    go true false e = refl
    go false b e = rw (e, ne_eqb n 1 (refusal_no_answer l t r).0)

-- ---- tests of two boxes
-- Where one gives 1 both boxes are there, and it is true of them; where it gives 0, false. It never gives 2.
pub test_decoded : (f : BoundingBox → BoundingBox → Bool) (a b : Option BoundingBox)
    → (test f a b ≡ 1 → HasBoth (λ c d. f c d ≡ true) a b) × ((test f a b ≡ 0 → HasBoth (λ c d. f c d ≡ false) a b) × (test f a b ≡ 2 → ⊥))
unfolding test
test_decoded f None b = (λ e. absurd (omega arith), (λ e. absurd (omega arith), λ e. omega arith))
test_decoded f (Some a) None = (λ e. absurd (omega arith), (λ e. absurd (omega arith), λ e. omega arith))
test_decoded f (Some a) (Some b) = go (f a b)
  where
    go : (t : Bool) → (yes t ≡ 1 → t ≡ true) × ((yes t ≡ 0 → t ≡ false) × (yes t ≡ 2 → ⊥))
    go true = (λ e. refl, (λ e. absurd (omega arith), λ e. omega arith))
    go false = (λ e. absurd (omega arith), (λ e. refl, λ e. omega arith))
