-- What refuses a filter call: each definition is a number of the desk (Error), or 0 where it does not apply. `refusal` and `box_refusal`, at the
-- end, are the order of 01.
use Rattle.std.specs.Prelude.{Bool, true, false, not, ◌&&◌, ◌||◌, cond, List, ℕ, zero, suc, ◌+◌, ◌-◌, ◌*◌, ◌%◌, ◌^◌, eqb, ltb, length}
use Rattle.sedona_geometry.specs.Lists.{are_all}
use Rattle.sedona_expr.specs.Error as error
use Rattle.sedona_expr.specs.Names.{has_twice}
use Rattle.sedona_expr.specs.Tables.{ends, flag_limit, Boxes, Records, Table, word, kind, count, is_pair, is_leaf, are_below, Lookup, by_position, by_name}
use Rattle.sedona_expr.specs.declared.refusals.Lent.{Lent}

-- The first of two numbers that is not 0.
unfoldable pub or_else : ℕ → ℕ → ℕ
or_else m n = cond (eqb m 0) n m

-- The number where it is so.
abbrev pub refuse_if : Bool → ℕ → ℕ
refuse_if b n = cond b n 0

-- ---- the lists

-- 4: node words none, not in fours, or over 4,096.
unfoldable pub words_refusal : List ℕ → ℕ
words_refusal ns = refuse_if (eqb (length ns) 0 || not (eqb (length ns % 4) 0) || ltb 4096 (length ns)) error.words

-- A flag that has a box is odd; a record's may be 0 too.
unfoldable pub good_flag : Bool → ℕ → Bool
good_flag none f = ltb f flag_limit && (eqb (f % 2) 1 || (none && eqb f 0))

-- As many doubles as the flags ask for.
abbrev pub are_in_boxes : Boxes → Bool
are_in_boxes b = eqb (length b.doubles) (ends * length b.flags)

-- 8: not so many doubles, or bad flags.
unfoldable pub literals_refusal : Boxes → ℕ
literals_refusal b = refuse_if (not (are_in_boxes b) || not (are_all (good_flag false) b.flags)) error.bad_lists

-- By name: not as many names as records.
unfoldable pub wrong_names : Lookup → ℕ → Bool
wrong_names by_position records = false
wrong_names (by_name ns) records = not (eqb (length ns) records)

-- 8: the lists of the records do not fit: doubles, types or known bytes "unlike the record count", or by name the names.
unfoldable pub lengths_refusal : Lookup → Records → ℕ
lengths_refusal l r =
    let n = length r.boxes.flags in
    refuse_if (not (are_in_boxes r.boxes) || not (eqb (length r.types) n) || not (eqb (length r.known) n) || wrong_names l n) error.bad_lists

-- 8: bad flags, or a known byte that is not "0 or 1".
unfoldable pub values_refusal : List ℕ → List ℕ → ℕ
values_refusal fs ks = refuse_if (not (are_all (good_flag true) fs) || not (are_all (λ b. ltb b 2) ks)) error.bad_lists

-- 11, by name: a name number twice among the records.
unfoldable pub twice_refusal : Lookup → ℕ
twice_refusal by_position = 0
twice_refusal (by_name ns) = refuse_if (has_twice ns) error.name_twice

-- Of the records: 8, then 11.
unfoldable pub records_refusal : Lookup → Records → ℕ
records_refusal l r = or_else (lengths_refusal l r) (or_else (values_refusal r.boxes.flags r.known) (twice_refusal l))

-- ---- node by node

-- So many that every number is lent: no word reaches it.
abbrev pub any : ℕ
any = 2 ^ 32

-- A number is lent: it is below so many, or any is.
unfoldable pub is_lent : ℕ → ℕ → Bool
is_lent count i = eqb count any || ltb i count

-- An And or Or: 7 child not below its parent.
unfoldable pub pair_refusal : List ℕ → ℕ → ℕ
pair_refusal ns n = refuse_if (not (are_below ns n)) error.bad_tree

-- A HasZ: 10 column index not lent.
unfoldable pub column_refusal : List ℕ → Lent → ℕ → ℕ
column_refusal ns lent n = refuse_if (not (is_lent lent.columns (word ns n 1))) error.no_column

-- An Intersects or Covers: 9 literal number not lent; then 10.
unfoldable pub leaf_refusal : List ℕ → Lent → ℕ → ℕ
leaf_refusal ns lent n = cond (is_lent lent.literals (word ns n 3)) (column_refusal ns lent n) error.no_literal

-- 5 kind over 6; then by the kind.
unfoldable pub node_refusal : List ℕ → Lent → ℕ → ℕ
node_refusal ns lent n =
    cond (ltb 6 (kind ns n)) error.unknown_kind
    (cond (eqb (kind ns n) 2) (column_refusal ns lent n)
    (cond (is_pair (kind ns n)) (pair_refusal ns n) (cond (is_leaf (kind ns n)) (leaf_refusal ns lent n) 0)))

-- The nodes below n, upward.
abbrev pub nodes_refusal : List ℕ → Lent → ℕ → ℕ
nodes_refusal ns lent zero = 0
nodes_refusal ns lent (suc n) = or_else (nodes_refusal ns lent n) (node_refusal ns lent n)

-- ---- uses of nodes as children

abbrev pub one : Bool → ℕ
one b = cond b 1 0

-- How often node n has m as a child.
unfoldable pub uses_by : List ℕ → ℕ → ℕ → ℕ
uses_by ns n m = cond (is_pair (kind ns n)) (one (eqb (word ns n 1) m) + one (eqb (word ns n 2) m)) 0

-- How often the nodes below n have m as a child.
abbrev pub uses : List ℕ → ℕ → ℕ → ℕ
uses ns zero m = 0
uses ns (suc n) m = uses ns n m + uses_by ns n m

-- Of all numbers below n.
abbrev pub all_below : (ℕ → Bool) → ℕ → Bool
all_below p zero = true
all_below p (suc n) = all_below p n && p n

-- 7: a node but the root not used exactly once.
unfoldable pub uses_refusal : List ℕ → ℕ
uses_refusal ns = refuse_if (not (all_below (λ m. eqb (uses ns (count ns) m) 1) (count ns - 1))) error.bad_tree

-- ---- the order

-- Of the table: its words, then its literals.
unfoldable pub table_refusal : Table → ℕ
table_refusal t = or_else (words_refusal t.nodes) (literals_refusal t.literals)

-- Of the nodes: each upward, then the use count.
unfoldable pub tree_refusal : List ℕ → Lent → ℕ
tree_refusal ns lent = or_else (nodes_refusal ns lent (count ns)) (uses_refusal ns)

-- How many column indices are lent. By name none is looked at.
abbrev pub columns_of : Lookup → ℕ → ℕ
columns_of by_position records = records
columns_of (by_name ns) records = any

-- So many literals, and so many columns or any.
abbrev pub lent_to : Table → ℕ → Lent
lent_to t columns = record { literals = length t.literals.flags; columns = columns }

-- The first number in 01's order.
unfoldable pub refusal : Lookup → Table → Records → ℕ
refusal l t r = or_else (table_refusal t) (or_else (records_refusal l r) (tree_refusal t.nodes (lent_to t (columns_of l (length r.boxes.flags)))))

-- Of `filter_bbox`, which has no records.
unfoldable pub box_refusal : Table → ℕ
box_refusal t = or_else (table_refusal t) (tree_refusal t.nodes (lent_to t any))
