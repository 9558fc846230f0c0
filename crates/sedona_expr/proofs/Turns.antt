-- What goes over a list member by member, seen from the place where a loop stands: a member more, and the end. Assumes nothing.
use mathlib.Core.Path.{◌≡◌, sym, ap, ◌∙◌}
use mathlib.Core.List.{List, [], ◌∷◌}
use Prim.Native.Nat.{ℕ, suc, ◌+◌, ◌<◌, ◌≤◌}
use lib.ListN.{length, get_or, drop, drop_of_length-le}
use lib.Seq.{drop-cons}
use Rattle.std.proofs.Common.{add-one}

pub one_more : {R F : Type 0} (step : F → R → F) (go : F → List R → F) → ((f : F) (r : R) (rs : List R) → go f (r ∷ rs) ≡ go (step f r) rs)
    → (rs : List R) (i : ℕ) (d : R) (f g t : F) → i < length rs → go f (drop i rs) ≡ t → g ≡ step f (get_or rs i d) → go g (drop (i + 1) rs) ≡ t
one_more step go next rs i d f g t l h e =
    rw (add-one i) (ap (λ x. go x (drop (suc i) rs)) e ∙ sym (next f (get_or rs i d) (drop (suc i) rs)) ∙ sym (ap (go f) (drop-cons rs i d l)) ∙ h)

pub at_end : {R F : Type 0} (go : F → List R → F) → ((f : F) → go f [] ≡ f) → (rs : List R) (i : ℕ) (f t : F) → length rs ≤ i → go f (drop i rs) ≡ t → f ≡ t
at_end go end rs i f t l h = sym (end f) ∙ sym (ap (go f) (drop_of_length-le rs l)) ∙ h
