-- A filter without HasZ answers as it does where no types are known: by the boxes alone. Assumes nothing.
use mathlib.Core.Path.{◌≡◌, refl, sym, ap, ◌∙◌}
use mathlib.Core.Bool.{true}
use mathlib.Core.List.{List, [], ◌∷◌}
use Prim.Native.Nat.{ℕ, zero, suc}
use lib.Dec.{ltb}
use lib.IntN.{pos}
use lib.Ieee.{Float, binary64, of_int}
use lib.ListN.{length, replicate, length-replicate}
use Rattle.sedona_geometry.specs.Lists.{are_all}
use Rattle.sedona_expr.specs.SpatialFilter.{Column, Filter, intersects, covers, has_z, and, or, literal_false, unknown, answer}
use Rattle.sedona_expr.specs.Tables.{Records, records, Table, table, leaf_of, pair_of, are_below, has_children, leaf_at, alone, tree_of, tree_at, root, Lookup, by_position, record_of}
use Rattle.sedona_expr.specs.Refusals.{lengths_refusal, values_refusal, records_refusal, refusal}
use Rattle.sedona_expr.specs.Calls.{evaluate}
use Rattle.sedona_expr.specs.WithoutHasZ.{NoHasZ, types_unknown, TypesPass}
use Rattle.sedona_expr.specs.declared.tables.ColumnRecord.{ColumnRecord}

-- Records that have the same boxes have the same answer.
pub same_boxes : (r s : Column → ColumnRecord) → ((c : Column) → (r c).bbox ≡ (s c).bbox) → (f : Filter) → NoHasZ f → answer r f ≡ answer s f
same_boxes r s e (intersects c k) n = rw (e c)
same_boxes r s e (covers c k) n = rw (e c)
same_boxes r s e (has_z c) n = absurd n
same_boxes r s e (and f g) n = rw (same_boxes r s e f n.0, same_boxes r s e g n.1)
same_boxes r s e (or f g) n = rw (same_boxes r s e f n.0, same_boxes r s e g n.1)
same_boxes r s e literal_false n = refl
same_boxes r s e unknown n = refl

-- types that pass, and such as are all unknown, add no number
zeros_pass : (n : ℕ) → are_all (λ b. ltb b 2) (replicate n 0) ≡ true
zeros_pass zero = refl
zeros_pass (suc n) = zeros_pass n

unknown_refusal : (l : Lookup) (t : Table) (r : Records) → TypesPass r → refusal l t r ≡ refusal l t (types_unknown r.boxes)
unfolding refusal records_refusal lengths_refusal values_refusal
unknown_refusal l t r p = let n = length r.boxes.flags in rw (p.types, p.known, p.bytes, length-replicate {A = ℕ} n 0, zeros_pass n)

-- Both calls answer a filter without HasZ as where no types are known, numbers included.
pub evaluate_by_boxes : (l : Lookup) (t : Table) (r : Records) → NoHasZ (root t) → TypesPass r → evaluate l t r ≡ evaluate l t (types_unknown r.boxes)
evaluate_by_boxes l t r n p = rw (unknown_refusal l t r p, same_boxes (record_of l r) (record_of l (types_unknown r.boxes)) (λ c. refl) (root t) n)

-- So its answer does not depend on the types.
pub types_unread : (l : Lookup) (t : Table) (r s : Records) → r.boxes ≡ s.boxes → NoHasZ (root t) → TypesPass r → TypesPass s
    → evaluate l t r ≡ evaluate l t s
types_unread l t r s e n p q = evaluate_by_boxes l t r n p ∙ ap (λ b. evaluate l t (types_unknown b)) e ∙ sym (evaluate_by_boxes l t s n q)

-- ---- the hypotheses can be met
-- An Or of an Intersects and an Unknown, held against a record that knows its types and against one that does not.
abbrev zeros : List Float
zeros = let z = of_int binary64 (pos 0) in z ∷ z ∷ z ∷ z ∷ z ∷ z ∷ z ∷ z ∷ []

abbrev t : Table
t = table (0 ∷ 0 ∷ 0 ∷ 0 ∷ 6 ∷ 0 ∷ 0 ∷ 0 ∷ 4 ∷ 0 ∷ 1 ∷ 0 ∷ []) zeros (1 ∷ [])

pub of_two : evaluate by_position t (records zeros (1 ∷ []) (0x200 ∷ []) (1 ∷ [])) ≡ evaluate by_position t (records zeros (1 ∷ []) (0 ∷ []) (0 ∷ []))
unfolding leaf_of pair_of are_below has_children leaf_at alone tree_of tree_at
of_two = types_unread by_position t _ _ refl (tt, tt) (record { types = refl; known = refl; bytes = refl }) (record { types = refl; known = refl; bytes = refl })
