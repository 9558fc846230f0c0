-- Records in flat lists: so many elements a record, by quotient and remainder; and the fold of the rest. Assumes nothing.
use mathlib.Core.Path.{◌≡◌, refl, sym, ap, ◌∙◌}
use mathlib.Core.Bool.{Bool, true, false, not, ◌||◌}
use mathlib.Core.List.{List}
use Prim.Native.Nat.{ℕ, suc, ◌+◌, ◌-◌, ◌*◌, ◌/◌, ◌%◌, ◌≤◌, ◌<◌}
use native.Mathlib.Nat.{add-zero, sub-zero, div-add-mod'}
use native.Mathlib.Numerals.{add-one}
use native.Mathlib.Omega.{arith}
use lib.Arith.{digits_div, digits_mod}
use lib.Dec.{eqb}
use lib.ListN.{length, get_or, take, drop, length-drop}
use lib.Seq.{take-length}
use borrow.Author.Tests.{eq-eqb, ne_eqb, eqb-true}
use Rattle.sedona_geometry.specs.Lists.{are_all}
use Rattle.sedona_expr.specs.Error as error
use Rattle.std.specs.Prelude.{Ok, Err, Option, Some, None}
use Rattle.std.specs.Option.{unwrap_or}
use Rattle.sedona_expr.specs.declared.statistics.GeoStatistics.{GeoStatistics}
use Rattle.sedona_expr.specs.Statistics.{start, step, folded, fold_from, fold, unspecified}
use Rattle.sedona_expr.specs.declared.error.Refusal.{Refusal}
use Rattle.sedona_expr.proofs.Checked.{refusal_stays}
use Rattle.sedona_expr.specs.Refusals.{refuse_if}
use Rattle.sedona_expr.specs.Statistics.{Folded}
use Rattle.johikape.specs.Within.{Fit, FoldedTo}
use Rattle.johikape.specs.Records.{width, Lists, read, from, records, good_flags, lists_refusal}

-- ---- k elements for each of f
module _ (k d f : ℕ) (p : 0 < k) where
  pub not_whole : (d % k ≡ 0 → ⊥) → eqb d (f * k) ≡ false
  not_whole h = ne_eqb d (f * k) (λ e. h (ap (λ (i : ℕ). i % k) (e ∙ sym (add-zero (f * k))) ∙ digits_mod f p))

  pub not_so_many : (d / k ≡ f → ⊥) → eqb d (f * k) ≡ false
  not_so_many h = ne_eqb d (f * k) (λ e. h (ap (λ (i : ℕ). i / k) (e ∙ sym (add-zero (f * k))) ∙ digits_div f p))

  pub so_many : d % k ≡ 0 → d / k ≡ f → eqb d (f * k) ≡ true
  so_many m q = eq-eqb d (f * k) (sym (div-add-mod' d k) ∙ rw (m, q) (add-zero (f * k)))

-- ---- a list from a place on, as it is lent
pub take_rest : {A : Type 0} (xs : List A) (d : ℕ) → take (length xs - d) (drop d xs) ≡ drop d xs
take_rest xs d = ap (λ (n : ℕ). take n (drop d xs)) (sym (length-drop d xs)) ∙ take-length (drop d xs)

-- ---- lists that pass fit
pub lists_pass : (l : Lists) (n : ℕ) → n ≡ lists_refusal l → n ≡ 0 → Fit l
unfolding lists_refusal
lists_pass l n is e = go (eqb (length l.doubles) (length l.flags * width)) (eqb (length l.totals) (length l.flags * 7)) (eqb (length l.types) (length l.flags)) (are_all good_flags l.flags) refl refl refl (sym is ∙ e)
  where
    go : (a b c d : Bool) → eqb (length l.doubles) (length l.flags * width) ≡ a → eqb (length l.totals) (length l.flags * 7) ≡ b
        → eqb (length l.types) (length l.flags) ≡ c → refuse_if (not a || not b || not c || not d) error.bad_lists ≡ 0 → Fit l
    go true true true d p q r z = record { doubles = eqb-true _ _ p; totals = eqb-true _ _ q; types = eqb-true _ _ r }
    go false b c d p q r z = absurd (omega arith)
    go true false c d p q r z = absurd (omega arith)
    go true true false d p q r z = absurd (omega arith)

-- what a record's place asks of them
pub place_fits : (l : Lists) (i : ℕ) → Fit l → i < length l.flags
    → (width * i + width ≤ length l.doubles) × ((7 * i + 7 ≤ length l.totals) × (i < length l.types))
place_fits l i F h = (omega (arith, F.doubles), (omega (arith, F.totals), omega (arith, F.types)))

-- ---- the fold: of none, one record on, of all
pub folded_none : (l : Lists) → FoldedTo l start 0
folded_none l = record { place = omega arith; rest = rw (sub-zero (length l.flags)) }

pub folded_next : (l : Lists) (f : Folded) (i : ℕ) {k : ℕ} → i < length l.flags → get_or l.flags i 0 ≡ k → FoldedTo l f i
    → FoldedTo l (step f (read (drop (width * i) l.doubles) (drop (7 * i) l.totals) (get_or l.types i 0) k)) (i + 1)
unfolding fold_from
folded_next l f i h e F = record { place = omega arith; rest = rw (← e, add-one i) (rw more at F.rest) }
  where
    more : length l.flags - i ≡ suc (length l.flags - suc i)
    more = omega arith

pub folded_all : (l : Lists) (f : Folded) (i : ℕ) → length l.flags ≤ i → FoldedTo l f i → f ≡ fold (records l)
unfolding fold_from
folded_all l f i h F = rw none at F.rest
  where
    none : length l.flags - i ≡ 0
    none = omega arith

-- a merge that is refused refuses the fold of all
pub refused_all : (l : Lists) (e : Refusal) (i : ℕ) → FoldedTo l (folded (Err e)) i → folded (Err e) ≡ fold (records l)
refused_all l e i F = sym (refusal_stays e (from l i (length l.flags - i))) ∙ F.rest

-- the number and the record of a fold that is not refused
pub number_of_fold : (o : Option GeoStatistics) → (folded (Ok o)).number ≡ 0
number_of_fold None = refl
number_of_fold (Some r) = refl

pub record_of_fold : (o : Option GeoStatistics) → (folded (Ok o)).rec ≡ unwrap_or o unspecified
record_of_fold None = refl
record_of_fold (Some r) = refl
