-- The numbers that a call refuses by, beside those of sedona_geometry.
use Rattle.std.specs.Prelude.{ℕ, Result, Ok, Err, ⊤, ◌≡◌, T, ltb}
use mathlib.Core.Path.{subst}
use Rattle.sedona_expr.specs.declared.error.Refusal.{Refusal}

abbrev pub overflow : ℕ
overflow = 3

abbrev pub words : ℕ
words = 4

abbrev pub unknown_kind : ℕ
unknown_kind = 5

abbrev pub bad_tree : ℕ
bad_tree = 7

-- Lists of other lengths than they should have, or a bad flag or byte in one.
abbrev pub bad_lists : ℕ
bad_lists = 8

abbrev pub no_literal : ℕ
no_literal = 9

abbrev pub no_column : ℕ
no_column = 10

abbrev pub name_twice : ℕ
name_twice = 11

abbrev pub number : Refusal → ℕ
number Refusal.Overflow = overflow
number Refusal.Words = words
number Refusal.UnknownKind = unknown_kind
number Refusal.BadTree = bad_tree
number Refusal.BadLists = bad_lists
number Refusal.NoLiteral = no_literal
number Refusal.NoColumn = no_column
number Refusal.NameTwice = name_twice

-- An answer, or the number of what refused it.
abbrev pub with_number : {A : Type 0} → Result A Refusal → Result A ℕ
with_number (Ok a) = Ok a
with_number (Err e) = Err (number e)

-- Of a check: 0 where nothing is refused.
abbrev pub number_of : Result ⊤ Refusal → ℕ
number_of (Ok u) = 0
number_of (Err e) = number e

-- None of them is 0.
pub number_is_not_zero : (e : Refusal) → number e ≡ 0 → ⊥
number_is_not_zero Refusal.Overflow h = subst (λ n. T (ltb 0 n)) h tt
number_is_not_zero Refusal.Words h = subst (λ n. T (ltb 0 n)) h tt
number_is_not_zero Refusal.UnknownKind h = subst (λ n. T (ltb 0 n)) h tt
number_is_not_zero Refusal.BadTree h = subst (λ n. T (ltb 0 n)) h tt
number_is_not_zero Refusal.BadLists h = subst (λ n. T (ltb 0 n)) h tt
number_is_not_zero Refusal.NoLiteral h = subst (λ n. T (ltb 0 n)) h tt
number_is_not_zero Refusal.NoColumn h = subst (λ n. T (ltb 0 n)) h tt
number_is_not_zero Refusal.NameTwice h = subst (λ n. T (ltb 0 n)) h tt
