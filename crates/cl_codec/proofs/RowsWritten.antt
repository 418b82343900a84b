-- One step along a row of values, and one writing behind another.
use Rattle.std.proofs.Common.{◌≡◌, ℕ, ◌+◌, ◌<◌, ◌≤◌, List, ◌++◌, length, drop, get_or, ap, sym, subst, ◌∙◌, append_assoc, append-nil, Result, IfOk}
use Rattle.std.proofs.lemmas.List.{drop_all}
use Rattle.cl_values.specs.Tree.{Tree, Items, items_of, Entries, entries_of}
use Rattle.cl_values.specs.Wire.{wire, items_wire, entries_wire, name_wire, size_of, items_size, entries_size}
use Rattle.cl_values.specs.Rows.{items_at, entries_at}

pub values_written : (vs : List Tree) (i : ℕ) (v : Tree) (out : List ℕ) → i < length vs → v ≡ get_or vs i v → out ++ items_wire (items_of (drop i vs)) ≡ (out ++ wire v) ++ items_wire (items_of (drop (i + 1) vs))
values_written vs i v out h e =
    ap (λ (ws : Items). out ++ items_wire ws) (items_at vs i v h e) ∙ sym (append_assoc out (wire v) (items_wire (items_of (drop (i + 1) vs))))

pub values_sized : (vs : List Tree) (i : ℕ) (v : Tree) → i < length vs → v ≡ get_or vs i v → items_size (items_of (drop i vs)) ≡ size_of v + items_size (items_of (drop (i + 1) vs))
values_sized vs i v h e = ap items_size (items_at vs i v h e)

pub entries_written : (es : List (List ℕ × Tree)) (i : ℕ) (e : List ℕ × Tree) (out : List ℕ) → i < length es → e ≡ get_or es i e → out ++ entries_wire (entries_of (drop i es)) ≡ (out ++ (name_wire e.0 ++ wire e.1)) ++ entries_wire (entries_of (drop (i + 1) es))
entries_written es i e out h at =
    let rest : List ℕ = entries_wire (entries_of (drop (i + 1) es)) in
    ap (λ (fs : Entries). out ++ entries_wire fs) (entries_at es i e h at)
    ∙ ap (λ (bytes : List ℕ). out ++ bytes) (sym (append_assoc (name_wire e.0) (wire e.1) rest))
    ∙ sym (append_assoc out (name_wire e.0 ++ wire e.1) rest)

pub entries_sized : (es : List (List ℕ × Tree)) (i : ℕ) (e : List ℕ × Tree) → i < length es → e ≡ get_or es i e → entries_size (entries_of (drop i es)) ≡ 1 + length e.0 + size_of e.1 + entries_size (entries_of (drop (i + 1) es))
entries_sized es i e h at = ap entries_size (entries_at es i e h at)

-- the one was written, and then the other
pub both_written : {A E : Type 0} (r : Result A E) (out first second mid new : List ℕ) → mid ≡ out ++ first → IfOk r (λ done. new ≡ mid ++ second) → IfOk r (λ done. new ≡ out ++ (first ++ second))
both_written r out first second mid new e h =
    subst (λ (bytes : List ℕ). IfOk r (λ done. new ≡ bytes)) (ap (λ (m : List ℕ). m ++ second) e ∙ append_assoc out first second) h

pub values_end : (vs : List Tree) (i : ℕ) (out new : List ℕ) → out ++ items_wire (items_of vs) ≡ new ++ items_wire (items_of (drop i vs)) → length vs ≤ i → new ≡ out ++ items_wire (items_of vs)
values_end vs i out new e h =
    sym (e ∙ ap (λ (ws : List Tree). new ++ items_wire (items_of ws)) (drop_all i vs h) ∙ append-nil new)

pub entries_end : (es : List (List ℕ × Tree)) (i : ℕ) (out new : List ℕ) → out ++ entries_wire (entries_of es) ≡ new ++ entries_wire (entries_of (drop i es)) → length es ≤ i → new ≡ out ++ entries_wire (entries_of es)
entries_end es i out new e h =
    sym (e ∙ ap (λ (fs : List (List ℕ × Tree)). new ++ entries_wire (entries_of fs)) (drop_all i es h) ∙ append-nil new)
