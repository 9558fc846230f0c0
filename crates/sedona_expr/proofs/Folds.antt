-- What a fold of records is where it is not refused, where it is refused, and what it keeps of its records. Assumes nothing.
use mathlib.Core.Logic.{◌⊎◌, inl, inr, ⊎_elim}
use mathlib.Core.Path.{◌≡◌, refl, sym, subst, ap, ◌∙◌}
use mathlib.Core.Bool.{Bool, true, false, ◌||◌}
use mathlib.Core.List.{List, [], ◌∷◌}
use Prim.Native.Nat.{ℕ}
use native.Mathlib.Omega.{arith}
use Rattle.sedona_geometry.specs.Lists.{All}
use Rattle.sedona_expr.specs.Statistics.{totals_overflow, counts_overflow, merge_parts, merge_value, plus_zero, step, fold_from, fold}
use Rattle.sedona_expr.specs.Demand.{Any}
use Rattle.sedona_expr.specs.Error as error
use Rattle.sedona_expr.specs.declared.statistics.GeoStatistics.{GeoStatistics}
use Rattle.sedona_expr.specs.Statistics.{Folded}

abbrev pub overflow : GeoStatistics → GeoStatistics → Bool
overflow a b = totals_overflow a b || counts_overflow a b

-- The records of a list merged one by one, whatever their totals.
abbrev pub merge_all : GeoStatistics → List GeoStatistics → GeoStatistics
merge_all a [] = a
merge_all a (r ∷ rs) = merge_all (merge_parts a r) rs

-- No step leaves the range.
abbrev pub Fits : GeoStatistics → List GeoStatistics → Type 0
Fits a [] = Unit {0}
Fits a (r ∷ rs) = (overflow a r ≡ false) × Fits (merge_parts a r) rs

-- Records merged so far.
abbrev taken : GeoStatistics → Folded
taken a = record { number = 0; any = true; rec = a }

-- ---- one step
step_refused : (f : Folded) (r : GeoStatistics) → f.number ≡ error.overflow → (step f r).number ≡ error.overflow
unfolding step
step_refused f r e = rw e

stays : (f : Folded) (rs : List GeoStatistics) → f.number ≡ error.overflow → (fold_from f rs).number ≡ error.overflow
unfolding fold_from
stays f [] e = e
stays f (r ∷ rs) e = stays (step f r) rs (step_refused f r e)

step_merged : (a r : GeoStatistics) → overflow a r ≡ false → step (taken a) r ≡ taken (merge_parts a r)
unfolding step merge_value
step_merged a r e = rw e

step_over : (a r : GeoStatistics) → overflow a r ≡ true → (step (taken a) r).number ≡ error.overflow
unfolding step merge_value
step_over a r e = rw e

-- ---- the whole list
pub three_not_zero : ◌≡◌ {A = ℕ} error.overflow 0 → ⊥
three_not_zero e = omega arith

-- a fold that is not refused has every step in range
pub fits_of_fold : (a : GeoStatistics) (rs : List GeoStatistics) → (fold_from (taken a) rs).number ≡ 0 → Fits a rs
unfolding fold_from
fits_of_fold a [] e = tt
fits_of_fold a (r ∷ rs) e = go (overflow a r) refl (λ h. fits_of_fold (merge_parts a r) rs h)
  where
    go : (b : Bool) → overflow a r ≡ b → ((fold_from (taken (merge_parts a r)) rs).number ≡ 0 → Fits (merge_parts a r) rs) → (overflow a r ≡ false) × Fits (merge_parts a r) rs
    go true o k = absurd (three_not_zero (sym (stays (step (taken a) r) rs (step_over a r o)) ∙ e))
    go false o k = (o, k (subst (λ (f : Folded). (fold_from f rs).number ≡ 0) (step_merged a r o) e))

-- and with every step in range it is the records merged one by one
pub fold_of_fits : (a : GeoStatistics) (rs : List GeoStatistics) → Fits a rs → fold_from (taken a) rs ≡ taken (merge_all a rs)
unfolding fold_from
fold_of_fits a [] h = refl
fold_of_fits a (r ∷ rs) h = ap (λ (f : Folded). fold_from f rs) (step_merged a r h.0) ∙ fold_of_fits (merge_parts a r) rs h.1

-- the number is 0 or 3
abbrev Numbered : Folded → List GeoStatistics → Type 0
Numbered f rs = ((fold_from f rs).number ≡ 0) ⊎ ((fold_from f rs).number ≡ error.overflow)

pub fold_number : (a : GeoStatistics) (rs : List GeoStatistics) → Numbered (taken a) rs
unfolding fold_from
fold_number a [] = inl refl
fold_number a (r ∷ rs) = go (overflow a r) refl (fold_number (merge_parts a r) rs)
  where
    go : (b : Bool) → overflow a r ≡ b → Numbered (taken (merge_parts a r)) rs → Numbered (step (taken a) r) rs
    go true o k = inr (stays (step (taken a) r) rs (step_over a r o))
    go false o k = subst (λ (f : Folded). Numbered f rs) (sym (step_merged a r o)) k

-- a list that is not empty is folded from its first record, with +0 for zero
pub fold_first : (r : GeoStatistics) (rs : List GeoStatistics) → fold (r ∷ rs) ≡ fold_from (taken (plus_zero r)) rs
unfolding fold_from step
fold_first r rs = refl

-- ---- what a fold keeps
pub some_map : {A : Type 0} (P Q : A → Type 0) (xs : List A) → ((x : A) → P x → Q x) → Any P xs → Any Q xs
some_map P Q [] f h = absurd h
some_map P Q (x ∷ xs) f h = ⊎_elim (λ p. inl (f x p)) (λ q. inr (some_map P Q xs f q)) h

-- where I is so of each record, and merging and handing on keep it so
module _ (I P : GeoStatistics → Type 0) (both : (a b : GeoStatistics) → I a → I b → I (merge_parts a b)) (alone : (a : GeoStatistics) → I a → I (plus_zero a))
    (either : (a b : GeoStatistics) → I a → I b → P a ⊎ P b → P (merge_parts a b)) (same : (a : GeoStatistics) → I a → P a → P (plus_zero a)) where
  merged_keeps : (a : GeoStatistics) (rs : List GeoStatistics) → I a → All I rs → P a ⊎ Any P rs → P (merge_all a rs)
  merged_keeps a [] i h p = ⊎_elim (λ q. q) (λ q. absurd q) p
  merged_keeps a (r ∷ rs) i h p =
      let keep = either a r i h.0 in
      merged_keeps (merge_parts a r) rs (both a r i h.0) h.1 (⊎_elim (λ q. inl (keep (inl q))) (λ q. ⊎_elim (λ s. inl (keep (inr s))) (λ s. inr s) q) p)

  -- What merging keeps of either record, a fold keeps of any.
  pub fold_keeps : (rs : List GeoStatistics) → All I rs → (fold rs).number ≡ 0 → Any P rs → P (fold rs).rec
  fold_keeps [] h e p = absurd p
  fold_keeps (r ∷ rs) h e p =
      let f = fits_of_fold (plus_zero r) rs (rw (fold_first r rs) at e) in
      subst (λ (g : Folded). P g.rec) (sym (fold_first r rs ∙ fold_of_fits (plus_zero r) rs f))
      (merged_keeps (plus_zero r) rs (alone r h.0) h.1 (⊎_elim (λ q. inl (same r h.0 q)) (λ s. inr s) p))

all_any : (rs : List GeoStatistics) → All (λ r. Unit {0}) rs
all_any [] = tt
all_any (r ∷ rs) = (tt, all_any rs)

-- the same where merging keeps it of any two records
pub fold_keeps_any : (P : GeoStatistics → Type 0) → ((a b : GeoStatistics) → P a ⊎ P b → P (merge_parts a b)) → ((a : GeoStatistics) → P a → P (plus_zero a))
    → (rs : List GeoStatistics) → (fold rs).number ≡ 0 → Any P rs → P (fold rs).rec
fold_keeps_any P either same rs = fold_keeps (λ r. Unit {0}) P (λ a b i j. tt) (λ a i. tt) (λ a b i j. either a b) (λ a i. same a) rs (all_any rs)
