-- Two records' totals, each added where it stays in its range: the first that leaves it refuses the merge. Assumes nothing.
use Rattle.std.specs.Prelude.{◌≡◌, Bool, true, false, ◌||◌, List, [], ◌∷◌, Option, Result, Ok, Err, is_ok, ℤ}
use borrow.Author.Tests.{ne_eqb}
use mathlib.Core.Path.{refl, sym, ◌∙◌, ap, subst}
use lib.Dec.{T}
use Rattle.sedona_geometry.proofs.Booleans.{is_true, holds, or_left, or_right}
use Rattle.sedona_expr.specs.Statistics.{Which, total, sum_is_outside, add_totals, totals_overflow, counts_overflow, merge_value, given, step, folded, fold_from, geometries, size_bytes, points, puntal, lineal, polygonal, collection}
use Rattle.sedona_expr.specs.Error as error
use Rattle.sedona_expr.specs.Within.{checked_total}
use Rattle.sedona_expr.specs.Error.{number_is_not_zero}
use Rattle.sedona_expr.specs.declared.error.Refusal.{Refusal}
use Rattle.sedona_expr.specs.declared.error.Refusal.TheVariants.{Overflow}
use Rattle.sedona_expr.specs.declared.statistics.GeoStatistics.{GeoStatistics}

outside_at : (w : Which) (a b : GeoStatistics) → sum_is_outside (total w a) (total w b) ≡ true → (totals_overflow a b || counts_overflow a b) ≡ true
unfolding totals_overflow counts_overflow
outside_at w a b e = is_true (totals_overflow a b || counts_overflow a b) (go w (holds e))
  where
    l : Which → Bool
    l v = sum_is_outside (total v a) (total v b)

    left : T (totals_overflow a b) → T (totals_overflow a b || counts_overflow a b)
    left h = or_left (totals_overflow a b) (counts_overflow a b) h

    right : T (counts_overflow a b) → T (totals_overflow a b || counts_overflow a b)
    right h = or_right (totals_overflow a b) (counts_overflow a b) h

    go : (v : Which) → T (l v) → T (totals_overflow a b || counts_overflow a b)
    go geometries h = left (or_left (l geometries || l size_bytes) (l points) (or_left (l geometries) (l size_bytes) h))
    go size_bytes h = left (or_left (l geometries || l size_bytes) (l points) (or_right (l geometries) (l size_bytes) h))
    go points h = left (or_right (l geometries || l size_bytes) (l points) h)
    go puntal h = right (or_left (l puntal || l lineal || l polygonal) (l collection) (or_left (l puntal || l lineal) (l polygonal) (or_left (l puntal) (l lineal) h)))
    go lineal h = right (or_left (l puntal || l lineal || l polygonal) (l collection) (or_left (l puntal || l lineal) (l polygonal) (or_right (l puntal) (l lineal) h)))
    go polygonal h = right (or_left (l puntal || l lineal || l polygonal) (l collection) (or_right (l puntal || l lineal) (l polygonal) h))
    go collection h = right (or_right (l puntal || l lineal || l polygonal) (l collection) h)

-- The error of a result, and `Overflow` of one that has none.
abbrev error_in : Result (Option ℤ) Refusal → Refusal
error_in (Ok t) = Overflow
error_in (Err e) = e

abbrev total_in : Result (Option ℤ) Refusal → Option ℤ → Option ℤ
total_in (Ok t) u = t
total_in (Err e) u = u

pub refused_at : (w : Which) (a b : GeoStatistics) {r : Result (Option ℤ) Refusal} {e : Refusal} → r ≡ checked_total (total w a) (total w b) → r ≡ Err e → merge_value a b ≡ given (Err e)
unfolding checked_total merge_value
refused_at w a b {e = e} p q = go (sum_is_outside (total w a) (total w b)) refl
  where
    go : (t : Bool) → sum_is_outside (total w a) (total w b) ≡ t → merge_value a b ≡ given (Err e)
    go true s = rw (outside_at w a b s, ← ap error_in (sym (rw s at p) ∙ q))
    go false s = absurd (subst T (ap is_ok (sym (rw s at p) ∙ q)) tt)

pub stays_at : (w : Which) (a b : GeoStatistics) {r : Result (Option ℤ) Refusal} {t : Option ℤ} → r ≡ checked_total (total w a) (total w b) → r ≡ Ok t
    → (sum_is_outside (total w a) (total w b) ≡ false) × (t ≡ add_totals (total w a) (total w b))
unfolding checked_total
stays_at w a b {t = t} p q = go (sum_is_outside (total w a) (total w b)) refl
  where
    go : (s : Bool) → sum_is_outside (total w a) (total w b) ≡ s → (sum_is_outside (total w a) (total w b) ≡ false) × (t ≡ add_totals (total w a) (total w b))
    go true s = absurd (subst T (sym (ap is_ok (sym (rw s at p) ∙ q))) tt)
    go false s = (s, sym (ap (λ x. total_in x t) (sym (rw s at p) ∙ q)))

pub all_stay : (a b : GeoStatistics) → ((w : Which) → sum_is_outside (total w a) (total w b) ≡ false) → (totals_overflow a b || counts_overflow a b) ≡ false
unfolding totals_overflow counts_overflow
all_stay a b h = rw (h geometries, h size_bytes, h points, h puntal, h lineal, h polygonal, h collection)

-- ---- a fold that is refused stays refused
pub refusal_stays : (e : Refusal) (rs : List GeoStatistics) → fold_from (folded (Err e)) rs ≡ folded (Err e)
unfolding step fold_from
refusal_stays e [] = refl
refusal_stays e (r ∷ rs) = rw (ne_eqb (error.number e) 0 (number_is_not_zero e)) (refusal_stays e rs)
