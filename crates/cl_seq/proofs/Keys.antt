-- The entry at a key.
use Rattle.std.proofs.Common.{◌≡◌, ◌<◌, ℕ, List, [], ◌∷◌, length, get_or, zero, suc, arith}
use Rattle.cl_values.specs.Tree.{Tree, TupleV, entries_of}
use Rattle.cl_values.specs.Valid.{IsVal, AreEntries}
use Rattle.cl_values.proofs.Parts.{tuple_part, first_entry, rest_entries}

entry_known : (es : List (List ℕ × Tree)) (i : ℕ) (e : List ℕ × Tree) → AreEntries (entries_of es) → i < length es → e ≡ get_or es i e → IsVal e.1
entry_known [] i e h k at = absurd (omega (arith, k))
entry_known (f ∷ es) zero e h k at = rw at (first_entry f.0 f.1 (entries_of es) h)
entry_known (f ∷ es) (suc i) e h k at = entry_known es i e (rest_entries f.0 f.1 (entries_of es) h) (omega (arith, k)) at

pub entry_of_tuple : (es : List (List ℕ × Tree)) (i : ℕ) (e : List ℕ × Tree) → IsVal (TupleV (entries_of es)) → i < length es → e ≡ get_or es i e → IsVal e.1
entry_of_tuple es i e h k at = entry_known es i e (tuple_part (entries_of es) h) k at
