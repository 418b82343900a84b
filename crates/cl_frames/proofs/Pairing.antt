-- Parameters beside the values that they are bound to.
use Rattle.std.proofs.Common.{◌≡◌, ℕ, zero, suc, ◌+◌, ◌<◌, ◌≤◌, List, [], ◌∷◌, ◌++◌, length, get_or, take, drop, Bool, false, Some, refl, sym, ap, ◌∙◌, arith}
use Rattle.std.specs.Prelude.{if◌then◌else◌}
use Rattle.std.specs.Str.{bytes_eq}
use Rattle.std.proofs.lemmas.List.{drop_all}
use Rattle.cl_types.specs.Types.{PlainType}
use Rattle.cl_values.proofs.Lists.{next_part}
use Rattle.cl_values.specs.Tree.{Tree as Val}
use Rattle.cl_meaning.specs.Deployed.{value_of}
use Rattle.cl_meaning.specs.Scope.{BoundValues}
use Rattle.cl_frames.specs.Named.{paired}

abbrev pub Params : Type 0
Params = List (List ℕ × PlainType)

pub paired-nil : (params : Params) → paired params [] ≡ []
paired-nil [] = refl
paired-nil (x ∷ params) = refl

pub none_taken : (values : List Val) → take 0 values ≡ []
none_taken [] = refl
none_taken (v ∷ values) = refl

pub there : {A : Type 0} (xs : List A) (i : ℕ) → i < length xs → (x : A) × (x ≡ get_or xs i x)
there [] i h = absurd (omega arith)
there (x ∷ xs) zero h = (x, refl)
there (x ∷ xs) (suc i) h = there xs i (omega arith)

-- one more pair
pub more_pairs : (params : Params) (values : List Val) (i : ℕ) (x : List ℕ × PlainType) (v : Val) → i < length params → i < length values → x ≡ get_or params i x → v ≡ get_or values i v → paired params (take (suc i) values) ≡ paired params (take i values) ++ (x.0, v) ∷ []
more_pairs [] values i x v h k hx hv = absurd (omega arith)
more_pairs (y ∷ params) [] i x v h k hx hv = absurd (omega arith)
more_pairs (y ∷ params) (w ∷ values) zero x v h k hx hv =
    ap (λ l. (y.0, w) ∷ paired params l) (none_taken values) ∙ ap (λ l. (y.0, w) ∷ l) (paired-nil params) ∙ ap (λ z. (z.0, w) ∷ []) (sym hx) ∙ ap (λ u. (x.0, u) ∷ []) (sym hv)
more_pairs (y ∷ params) (w ∷ values) (suc i) x v h k hx hv = ap (λ l. (y.0, w) ∷ l) (more_pairs params values i x v (omega arith) (omega arith) hx hv)

-- the pairs from a place on
pub next_pair : (params : Params) (values : List Val) (i : ℕ) (x : List ℕ × PlainType) (v : Val) → i < length params → i < length values → x ≡ get_or params i x → v ≡ get_or values i v → paired (drop i params) (drop i values) ≡ (x.0, v) ∷ paired (drop (i + 1) params) (drop (i + 1) values)
next_pair params values i x v h k hx hv =
    ap (λ l. paired l (drop i values)) (next_part params i x h hx) ∙ ap (paired (x ∷ drop (i + 1) params)) (next_part values i v k hv)

-- another parameter's name
pub next_under : (name : List ℕ) (params : Params) (values : List Val) (i : ℕ) (x : List ℕ × PlainType) → i < length params → i < length values → x ≡ get_or params i x → bytes_eq x.0 name ≡ false → value_of name (paired (drop (i + 1) params) (drop (i + 1) values)) ≡ value_of name (paired (drop i params) (drop i values))
next_under name params values i x h k hx other =
    let given = there values i k in
    let rest : BoundValues = paired (drop (i + 1) params) (drop (i + 1) values) in
    sym (ap (value_of name) (next_pair params values i x given.0 h k hx given.1) ∙ ap (λ (b : Bool). if b then Some given.0 else value_of name rest) other)

pub none_given : (name : List ℕ) (params : Params) (values : List Val) (i : ℕ) → length values ≤ i → value_of name (paired (drop i params) (drop i values)) ≡ value_of name []
none_given name params values i h =
    ap (λ l. value_of name (paired (drop i params) l)) (drop_all i values h) ∙ ap (value_of name) (paired-nil (drop i params))
