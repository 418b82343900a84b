-- The size and the depth of a merged tuple.
use Rattle.std.proofs.Common.{◌≡◌, ℕ, ◌+◌, ◌≤◌, max, nat_le, [], ◌∷◌, Bool, true, false, List, length, ap, sym, ◌∙◌, arith, if◌then◌else◌}
use Rattle.std.proofs.lemmas.Bool.Decides.{nat_tests}
use Rattle.cl_values.specs.Computed.{is_defined, kept}
use Rattle.cl_apply.proofs.DefinedLaws.{both_by, gives_is}
use Rattle.cl_values.specs.Tree.{Tree, TupleV, Entries, NoEntry, Entry, entries_depth, depth_of}
use Rattle.cl_values.specs.Wire.{size_of, entries_size}
use Rattle.cl_values.specs.Valid.{is_below}
use Rattle.cl_values.specs.Tuples.{is_among, placed, merged, merge}
use Rattle.cl_apply.specs.Added.{added_size}

placed_size : (k : List ℕ) (v : Tree) (es : Entries) → entries_size (placed k v es) ≡ 1 + length k + size_of v + entries_size es
placed_size k v NoEntry = omega arith
placed_size k v (Entry j w es) = by (is_below j k) (placed_size k v es)
  where
    by : (b : Bool) → entries_size (placed k v es) ≡ 1 + length k + size_of v + entries_size es → entries_size (if b then Entry j w (placed k v es) else Entry k v (Entry j w es)) ≡ 1 + length k + size_of v + entries_size (Entry j w es)
    by true rest = omega (arith, rest)
    by false rest = omega arith

placed_depth : (k : List ℕ) (v : Tree) (es : Entries) → entries_depth (placed k v es) ≡ max (depth_of v) (entries_depth es)
placed_depth k v NoEntry = omega arith
placed_depth k v (Entry j w es) = by (is_below j k) (placed_depth k v es)
  where
    by : (b : Bool) → entries_depth (placed k v es) ≡ max (depth_of v) (entries_depth es) → entries_depth (if b then Entry j w (placed k v es) else Entry k v (Entry j w es)) ≡ max (depth_of v) (entries_depth (Entry j w es))
    by true rest = omega (arith, rest)
    by false rest = omega arith

pub merged_size : (es fs : Entries) → entries_size (merged es fs) ≡ added_size es fs + entries_size fs
merged_size NoEntry fs = omega arith
merged_size (Entry k v es) fs = by (is_among k fs) (merged_size es fs)
  where
    by : (b : Bool) → entries_size (merged es fs) ≡ added_size es fs + entries_size fs → entries_size (if b then merged es fs else placed k v (merged es fs)) ≡ (if b then 0 else (1 + length k + size_of v)) + added_size es fs + entries_size fs
    by true rest = omega (arith, rest)
    by false rest = let more = placed_size k v (merged es fs) in omega (arith, rest, more)

pub merged_depth : (es fs : Entries) → entries_depth (merged es fs) ≤ max (entries_depth es) (entries_depth fs)
merged_depth NoEntry fs = omega arith
merged_depth (Entry k v es) fs = by (is_among k fs) (merged_depth es fs)
  where
    by : (b : Bool) → entries_depth (merged es fs) ≤ max (entries_depth es) (entries_depth fs) → entries_depth (if b then merged es fs else placed k v (merged es fs)) ≤ max (entries_depth (Entry k v es)) (entries_depth fs)
    by true rest = omega (arith, rest)
    by false rest = let more = placed_depth k v (merged es fs) in omega (arith, rest, more)

-- a merged tuple is as deep as one of the two at most
pub merges_is : (es fs : Entries) (added size : ℕ) → added ≡ added_size es fs → size ≡ size_of (TupleV fs) → depth_of (TupleV es) ≤ 32 → depth_of (TupleV fs) ≤ 32
    → nat_le (added + size) 1048576 ≡ is_defined (kept (merge (TupleV es ∷ TupleV fs ∷ [])))
merges_is es fs added size a s d e =
    let w = TupleV (merged es fs) in
    let long = merged_size es fs in
    let deep = merged_depth es fs in
    let counted : added + size ≡ size_of w = omega (arith, long, a, s) in
    let shallow : depth_of w ≤ 32 = omega (arith, deep, d, e) in
    let under : nat_le (depth_of w) 32 ≡ true = grind (arith, nat_tests, shallow) in
    ap (λ n. nat_le n 1048576) counted ∙ sym (both_by (nat_le (depth_of w) 32) (nat_le (size_of w) 1048576) under) ∙ sym (gives_is w)
