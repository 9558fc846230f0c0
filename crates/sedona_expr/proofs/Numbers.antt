-- The numbers that a filter call gives: 4, 5 and 7 to 11, and no longer 6. Assumes nothing.
use mathlib.Core.Path.{◌≡◌, ap}
use mathlib.Core.Bool.{Bool, true, false, not, ◌||◌}
use mathlib.Core.List.{List}
use Prim.Native.Nat.{ℕ, zero, suc, ◌%◌, ◌-◌}
use native.Mathlib.Omega.{arith}
use lib.Dec.{eqb, ltb}
use lib.ListN.{length}
use Rattle.std.specs.Prelude.{Result, Ok, Err}
use Rattle.sedona_geometry.specs.BoundingBox.{numbered}
use Rattle.sedona_geometry.specs.BoundingBox.{NumberedBox}
use Rattle.sedona_geometry.specs.Lists.{are_all}
use Rattle.sedona_geometry.proofs.Booleans.{of_cond}
use Rattle.sedona_expr.specs.Names.{has_twice}
use Rattle.sedona_expr.specs.Error as error
use Rattle.sedona_expr.specs.SpatialFilter.{answer}
use Rattle.sedona_expr.specs.Tables.{Records, Table, root, Lookup, by_position, by_name, record_of, word, kind, count, is_pair, is_leaf, are_below}
use Rattle.sedona_expr.specs.Refusals.{or_else, refuse_if, good_flag, words_refusal, are_in_boxes, literals_refusal, wrong_names, lengths_refusal, values_refusal, twice_refusal, records_refusal, is_lent, pair_refusal, column_refusal, leaf_refusal, node_refusal, nodes_refusal, uses, all_below, uses_refusal, table_refusal, tree_refusal, any, columns_of, lent_to, refusal, box_refusal}
use Rattle.sedona_expr.specs.declared.refusals.Lent.{Lent}
use Rattle.sedona_expr.specs.Calls.{outcome, evaluate, filter_bbox}
use Rattle.sedona_expr.specs.declared.spatial_filter.Evaluation.{Evaluation}

-- ---- what is so of 0 and of each of these numbers is so of what a call gives
module _ (P : ℕ → Type 0) (none : P 0) (words : P error.words) (unknown_kind : P error.unknown_kind) (bad_tree : P error.bad_tree) (bad_lists : P error.bad_lists)
    (no_literal : P error.no_literal) (no_column : P error.no_column) (name_twice : P error.name_twice) where
  of_refuse_if : (b : Bool) {n : ℕ} → P n → P (refuse_if b n)
  of_refuse_if b h = of_cond P b h none

  of_or_else : {m n : ℕ} → P m → P n → P (or_else m n)
  unfolding or_else
  of_or_else {m} h k = of_cond P (eqb m 0) k h

  of_table : (t : Table) → P (table_refusal t)
  unfolding table_refusal words_refusal literals_refusal
  of_table t =
      let n = length t.nodes in
      of_or_else (of_refuse_if (eqb n 0 || not (eqb (n % 4) 0) || ltb 4096 n) words)
      (of_refuse_if (not (are_in_boxes t.literals) || not (are_all (good_flag false) t.literals.flags)) bad_lists)

  of_twice : (l : Lookup) → P (twice_refusal l)
  unfolding twice_refusal
  of_twice by_position = none
  of_twice (by_name ns) = of_refuse_if (has_twice ns) name_twice

  of_records : (l : Lookup) (r : Records) → P (records_refusal l r)
  unfolding records_refusal lengths_refusal values_refusal
  of_records l r =
      let n = length r.boxes.flags in
      of_or_else (of_refuse_if (not (are_in_boxes r.boxes) || not (eqb (length r.types) n) || not (eqb (length r.known) n) || wrong_names l n) bad_lists)
      (of_or_else (of_refuse_if (not (are_all (good_flag true) r.boxes.flags) || not (are_all (λ b. ltb b 2) r.known)) bad_lists) (of_twice l))

  module _ (ns : List ℕ) (lent : Lent) where
    of_column : (n : ℕ) → P (column_refusal ns lent n)
    unfolding column_refusal
    of_column n = of_refuse_if (not (is_lent lent.columns (word ns n 1))) no_column

    of_node : (n : ℕ) → P (node_refusal ns lent n)
    unfolding node_refusal pair_refusal leaf_refusal
    of_node n =
        of_cond P (ltb 6 (kind ns n)) unknown_kind
        (of_cond P (eqb (kind ns n) 2) (of_column n)
        (of_cond P (is_pair (kind ns n)) (of_refuse_if (not (are_below ns n)) bad_tree) (of_cond P (is_leaf (kind ns n)) (of_cond P (is_lent lent.literals (word ns n 3)) (of_column n) no_literal) none)))

    of_nodes : (n : ℕ) → P (nodes_refusal ns lent n)
    of_nodes zero = none
    of_nodes (suc n) = of_or_else (of_nodes n) (of_node n)

    of_tree : P (tree_refusal ns lent)
    unfolding tree_refusal uses_refusal
    of_tree = of_or_else (of_nodes (count ns)) (of_refuse_if (not (all_below (λ m. eqb (uses ns (count ns) m) 1) (count ns - 1))) bad_tree)

  pub of_refusal : (l : Lookup) (t : Table) (r : Records) → P (refusal l t r)
  unfolding refusal
  of_refusal l t r =
      of_or_else (of_table t)
      (of_or_else (of_records l r) (of_tree t.nodes (lent_to t (columns_of l (length r.boxes.flags)))))

  pub of_box_refusal : (t : Table) → P (box_refusal t)
  unfolding box_refusal
  of_box_refusal t = of_or_else (of_table t) (of_tree t.nodes (lent_to t any))

-- ---- 6 is none of them
abbrev NotSix : ℕ → Type 0
NotSix n = n ≡ 6 → ⊥

zero_not_six : NotSix 0
zero_not_six e = absurd (omega arith)

-- what an answer is refused by, 0 where it is not
abbrev pub number : Result Evaluation ℕ → ℕ
number (Ok a) = 0
number (Err n) = n

outcome_not_six : (n : ℕ) (b : Bool) → NotSix n → outcome n b ≡ Err 6 → ⊥
unfolding outcome
outcome_not_six n b h e = of_cond (λ a. NotSix (number a)) (eqb n 0) (of_cond (λ a. NotSix (number a)) b zero_not_six zero_not_six) h (ap number e)

-- "Number 6 no longer occurs": no filter call gives it.
pub six_is_not_given : (l : Lookup) (t : Table) (r : Records) → evaluate l t r ≡ Err 6 → ⊥
six_is_not_given l t r =
    outcome_not_six (refusal l t r) (answer (record_of l r) (root t))
    (of_refusal NotSix zero_not_six (λ e. omega arith) (λ e. omega arith) (λ e. omega arith) (λ e. omega arith) (λ e. omega arith) (λ e. omega arith) (λ e. omega arith) l t r)

pub six_is_not_given_with_a_box : (t : Table) (name : ℕ) → (filter_bbox t name).number ≡ 6 → ⊥
unfolding numbered
six_is_not_given_with_a_box t name =
    of_cond (λ (b : NumberedBox). NotSix b.number) (eqb (box_refusal t) 0) zero_not_six
    (of_box_refusal NotSix zero_not_six (λ e. omega arith) (λ e. omega arith) (λ e. omega arith) (λ e. omega arith) (λ e. omega arith) (λ e. omega arith) (λ e. omega arith) t)
