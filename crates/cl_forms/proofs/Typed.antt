-- Parameters with their types, one after another.
use Rattle.std.specs.Prelude.{◌≡◌, ℕ, ◌+◌, ◌≤◌, ◌<◌, List, [], ◌∷◌, ◌++◌, length, drop, get_or, Option, Some, None, option_map, refl}
use Rattle.std.proofs.Common.{◌∙◌, sym, ap, add-one, drop-cons, append_assoc, append-nil}
use Rattle.std.proofs.lemmas.List.{drop_all}
use Rattle.cl_types.specs.Types.{PlainType}
use Rattle.cl_sexpr.specs.Tree.{Tree}
use Rattle.cl_forms.specs.WrittenTypes.{written_type}
use Rattle.cl_forms.specs.Items.{and_type, typed}

abbrev Typed : Type 0
Typed = List ℕ × PlainType

next_typed : (k : List ℕ) (o : Option PlainType) (pair : Typed) (rest : Option (List Typed)) → Some pair ≡ option_map (λ t. (k, t)) o → and_type k o rest ≡ option_map (λ more. pair ∷ more) rest
next_typed k None pair rest h = absurd cc
next_typed k (Some t) pair None h = refl
next_typed k (Some t) pair (Some more) h = let e : pair ≡ (k, t) = cc in ap (λ (p : Typed). Some (p ∷ more)) (sym e)

push_typed : (xs : List Typed) (pair : Typed) (rest : Option (List Typed)) → option_map (λ more. (xs ++ pair ∷ []) ++ more) rest ≡ option_map (λ more. xs ++ more) (option_map (λ more. pair ∷ more) rest)
push_typed xs pair None = refl
push_typed xs pair (Some more) = ap (λ (ys : List Typed). Some ys) (append_assoc xs (pair ∷ []) more)

pub typed_more : (ps : List (List ℕ × Tree)) (i : ℕ) (d : List ℕ × Tree) → i < length ps → (xs : List Typed) (whole : Option (List Typed)) → option_map (λ more. xs ++ more) (typed (drop i ps)) ≡ whole → (pair : Typed) → Some pair ≡ option_map (λ t. ((get_or ps i d).0, t)) (written_type (get_or ps i d).1) → option_map (λ more. (xs ++ pair ∷ []) ++ more) (typed (drop (i + 1) ps)) ≡ whole
typed_more ps i d inside xs whole inv pair h =
    let e : get_or ps i d ∷ drop (i + 1) ps ≡ drop i ps = rw add-one (sym (drop-cons ps i d inside)) in
    push_typed xs pair (typed (drop (i + 1) ps))
    ∙ ap (option_map (λ more. xs ++ more)) (sym (next_typed (get_or ps i d).0 (written_type (get_or ps i d).1) pair (typed (drop (i + 1) ps)) h))
    ∙ ap (λ us. option_map (λ more. xs ++ more) (typed us)) e ∙ inv

-- where one has no type, there are none
none_typed : (k : List ℕ) (o : Option PlainType) (rest : Option (List Typed)) → ◌≡◌ {A = Option Typed} None (option_map (λ t. (k, t)) o) → None ≡ and_type k o rest
none_typed k None None h = refl
none_typed k None (Some more) h = refl
none_typed k (Some t) rest h = absurd cc

pub typed_stops : (ps : List (List ℕ × Tree)) (i : ℕ) (d : List ℕ × Tree) → i < length ps → (xs : List Typed) (whole : Option (List Typed)) → option_map (λ more. xs ++ more) (typed (drop i ps)) ≡ whole → ◌≡◌ {A = Option Typed} None (option_map (λ t. ((get_or ps i d).0, t)) (written_type (get_or ps i d).1)) → None ≡ whole
typed_stops ps i d inside xs whole inv h =
    let e : get_or ps i d ∷ drop (i + 1) ps ≡ drop i ps = rw add-one (sym (drop-cons ps i d inside)) in
    ap (option_map (λ more. xs ++ more)) (none_typed (get_or ps i d).0 (written_type (get_or ps i d).1) (typed (drop (i + 1) ps)) h)
    ∙ ap (λ us. option_map (λ more. xs ++ more) (typed us)) e ∙ inv

pub all_typed : (ps : List (List ℕ × Tree)) (i : ℕ) (xs : List Typed) (whole : Option (List Typed)) → length ps ≤ i → option_map (λ more. xs ++ more) (typed (drop i ps)) ≡ whole → Some xs ≡ whole
all_typed ps i xs whole past inv =
    ap (λ (ys : List Typed). Some ys) (sym (append-nil xs))
    ∙ ap (λ us. option_map (λ more. xs ++ more) (typed us)) (sym (drop_all i ps past)) ∙ inv
