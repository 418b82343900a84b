-- Tuples, as the code has their keys and their values.
use Rattle.std.proofs.Common.{◌≡◌, ◌≢◌, ◌<◌, ◌≤◌, ◌+◌, ℕ, List, [], ◌∷◌, ◌++◌, Bool, true, false, length, map, drop, get_or, append_assoc, Some, refl, sym, ap, ◌∙◌, arith}
use Rattle.std.specs.Prelude.{◌&&◌, ◌||◌, not, zip}
use Rattle.std.specs.List.{list_any}
use Rattle.std.specs.Str.{bytes_eq}
use Rattle.std.proofs.lemmas.List.{append-nil, drop_all}
use Rattle.cl_values.proofs.Lists.{next_part}
use Rattle.cl_shapes.specs.Limits.{Purse}
use Rattle.cl_sexpr.specs.Tree.{Tree}
use Rattle.cl_values.specs.Tree.{Tree as Val, entries_of}
use Rattle.cl_values.specs.Tuples.{is_among}
use Rattle.cl_seq.specs.Merging.{are_apart}
use Rattle.cl_forms.specs.Shapes.{pairs_of, bindings_of, and_binding}
use Rattle.cl_events.specs.State.{State}
use Rattle.cl_code.specs.declared.op.Binding.{Binding}
use Rattle.cl_code.specs.Nodes.{are_once, bound_names}
use Rattle.cl_code.specs.Expression.{keyed, bound_items}
use Rattle.cl_code.specs.Typed.{Typed, expression_of}
use Rattle.cl_meaning.specs.Answers.{and_then, with_known, Wrong}
use Rattle.cl_meaning.specs.Scope.{Scope, Take, parts}
use Rattle.cl_meaning.specs.Values.{tuple_form}
use Rattle.cl_meaning.specs.Limits.{Costs}
use Rattle.cl_frames.specs.Watching.{Seen, Lost, watched}
use Rattle.cl_frames.proofs.WatchLaws.{watched-stop}
use Rattle.cl_frames.specs.Tails.{tuple_made}

-- ---- keys and values side by side

both_true : (a b : Bool) → a && b ≡ true → (a ≡ true) × (b ≡ true)
both_true true true h = (refl, refl)
both_true true false h = absurd cc
both_true false b h = absurd cc

true_both : (a b : Bool) → a ≡ true → b ≡ true → a && b ≡ true
true_both true true h k = refl
true_both true false h k = absurd cc
true_both false b h k = absurd cc

not_or : (a b : Bool) → not (a || b) ≡ true → (a ≡ false) × (not b ≡ true)
not_or true b h = absurd cc
not_or false b h = (refl, h)

or_of : (a b : Bool) → a ≡ false → not b ≡ true → not (a || b) ≡ true
or_of true b h k = absurd cc
or_of false b h k = k

not_among : (k : List ℕ) (ks : List (List ℕ)) (vs : List Val) → not (list_any (bytes_eq k) ks) ≡ true → not (is_among k (entries_of (zip ks vs))) ≡ true
not_among k [] vs h = refl
not_among k (j ∷ ks) [] h = refl
not_among k (j ∷ ks) (v ∷ vs) h =
    let each = not_or (bytes_eq k j) (list_any (bytes_eq k) ks) h in
    or_of (bytes_eq k j) (is_among k (entries_of (zip ks vs))) each.0 (not_among k ks vs each.1)

pub apart : (ks : List (List ℕ)) (vs : List Val) → are_once ks ≡ true → are_apart (zip ks vs) ≡ true
apart [] vs h = refl
apart (k ∷ ks) [] h = refl
apart (k ∷ ks) (v ∷ vs) h =
    let each = both_true (not (list_any (bytes_eq k) ks)) (are_once ks) h in
    true_both (not (is_among k (entries_of (zip ks vs)))) (are_apart (zip ks vs)) (not_among k ks vs each.0) (apart ks vs each.1)

pub some_pair : (ks : List (List ℕ)) (vs : List Val) → 0 < length vs → length vs ≡ length ks → zip ks vs ≢ []
some_pair [] [] h k = absurd (omega (arith, h))
some_pair [] (v ∷ vs) h k = absurd (omega (arith, k))
some_pair (j ∷ ks) [] h k = absurd (omega (arith, h))
some_pair (j ∷ ks) (v ∷ vs) h k = λ e. absurd cc

-- a turn of the loop over the values
pub next_pair : (ks : List (List ℕ)) (i j : ℕ) (k : List ℕ) (v : Val) (vs us : List Val) (ps qs : List (List ℕ × Val)) → us ≡ v ∷ vs → i < length ks → k ≡ get_or ks j k → j ≡ i → length qs ≡ i + 1 → qs ≡ ps ++ (k, v) ∷ [] → ps ++ zip (drop i ks) us ≡ qs ++ zip (drop (length qs) ks) vs
next_pair ks i j k v vs us ps qs h here read same count more =
    ap (λ l. ps ++ zip (drop i ks) l) h
    ∙ ap (λ l. ps ++ zip l (v ∷ vs)) (next_part ks i k here (read ∙ ap (λ m. get_or ks m k) same))
    ∙ sym (append_assoc ps ((k, v) ∷ []) (zip (drop (i + 1) ks) vs))
    ∙ ap (λ l. l ++ zip (drop (i + 1) ks) vs) (sym more)
    ∙ ap (λ n. qs ++ zip (drop n ks) vs) (sym count)

pub no_key : (ks : List (List ℕ)) (i : ℕ) (vs : List Val) (ps : List (List ℕ × Val)) → length ks ≤ i → ps ++ zip (drop i ks) vs ≡ ps
no_key ks i vs ps h = ap (λ l. ps ++ zip l vs) (drop_all i ks h) ∙ append-nil ps

no_pair : (ks : List (List ℕ)) (vs : List Val) → length vs ≡ 0 → zip ks vs ≡ []
no_pair [] vs h = refl
no_pair (k ∷ ks) [] h = refl
no_pair (k ∷ ks) (v ∷ vs) h = absurd (omega arith)

pub no_value : (ks : List (List ℕ)) (i : ℕ) (vs : List Val) (ps : List (List ℕ × Val)) → length vs ≡ 0 → ps ++ zip (drop i ks) vs ≡ ps
no_value ks i vs ps h = ap (λ l. ps ++ l) (no_pair (drop i ks) vs h) ∙ append-nil ps

-- ---- the forms

pub keyed_are : (ks : List (List ℕ)) (es : List Tree) → pairs_of (keyed ks es) ≡ zip ks es
keyed_are [] es = refl
keyed_are (k ∷ ks) [] = refl
keyed_are (k ∷ ks) (e ∷ es) = ap (λ l. (k, e) ∷ l) (keyed_are ks es)

bound_are : (bs : List Binding) (es : List Tree) → bindings_of (bound_items bs es) ≡ Some (zip (bound_names bs) es)
bound_are [] es = refl
bound_are (b ∷ bs) [] = refl
bound_are (b ∷ bs) (e ∷ es) = ap (and_binding (Some (b.word.name, e))) (bound_are bs es)

pub bound_keys : (costs : Costs) (p : Purse) (sp : Seen) (take : Take) (S : Scope) (bs : List Binding) (keys seen : List (List ℕ)) (es : List Tree) (s : State) → keys ≡ bound_names bs → seen ≡ keys → watched costs p sp (with_known (bindings_of (bound_items bs es)) (tuple_form take S) s) ≡ watched costs p sp (tuple_form take S (zip seen es) s)
bound_keys costs p sp take S bs keys seen es s h k =
    ap (λ o. watched costs p sp (with_known o (tuple_form take S) s)) (bound_are bs es)
    ∙ ap (λ l. watched costs p sp (tuple_form take S (zip l es) s)) (sym h ∙ sym k)

-- the keys as the code hands them on
pub keys_are : (costs : Costs) (p : Purse) (sp : Seen) (take : Take) (S : Scope) (keys seen : List (List ℕ)) (es : List Tree) (s : State) → seen ≡ keys → watched costs p sp (tuple_form take S (pairs_of (keyed keys es)) s) ≡ watched costs p sp (tuple_form take S (zip seen es) s)
keys_are costs p sp take S keys seen es s h =
    ap (λ l. watched costs p sp (tuple_form take S l s)) (keyed_are keys es) ∙ ap (λ l. watched costs p sp (tuple_form take S (zip l es) s)) (sym h)

no_parts : (take : Take) (S : Scope) (ks : List (List ℕ)) (xs : List Typed) (s : State) → length xs ≡ 0 → tuple_form take S (zip ks (map expression_of xs)) s ≡ Rattle.cl_meaning.specs.Answers.wrong s
unfolding tuple_form
no_parts take S [] [] s h = refl
no_parts take S (k ∷ ks) [] s h = refl
no_parts take S ks (x ∷ xs) s h = absurd (omega arith)

pub no_tuple : (costs : Costs) (p : Purse) (sp : Seen) (take : Take) (S : Scope) (ks : List (List ℕ)) (xs : List Typed) (s : State) → length xs ≡ 0 → watched costs p sp (tuple_form take S (zip ks (map expression_of xs)) s) ≡ Lost p sp
no_tuple costs p sp take S ks xs s h = ap (watched costs p sp) (no_parts take S ks xs s h) ∙ watched-stop costs p sp Wrong s

firsts : (ks : List (List ℕ)) (xs : List Typed) → length xs ≡ length ks → map (λ (q : List ℕ × Tree). q.0) (zip ks (map expression_of xs)) ≡ ks
firsts [] xs h = refl
firsts (k ∷ ks) [] h = absurd (omega arith)
firsts (k ∷ ks) (x ∷ xs) h = ap (λ l. k ∷ l) (firsts ks xs (omega (arith, h)))

seconds : (ks : List (List ℕ)) (xs : List Typed) → length xs ≡ length ks → map (λ (q : List ℕ × Tree). q.1) (zip ks (map expression_of xs)) ≡ map expression_of xs
seconds [] [] h = refl
seconds [] (x ∷ xs) h = absurd (omega arith)
seconds (k ∷ ks) [] h = refl
seconds (k ∷ ks) (x ∷ xs) h = ap (λ l. expression_of x ∷ l) (seconds ks xs (omega (arith, h)))

some_parts : (take : Take) (S : Scope) (ps : List (List ℕ × Tree)) (s : State) → ps ≢ [] → tuple_form take S ps s ≡ and_then (parts take S (map (λ (q : List ℕ × Tree). q.1) ps) s) (tuple_made (map (λ (q : List ℕ × Tree). q.0) ps))
unfolding tuple_form
some_parts take S [] s h = absurd (h refl)
some_parts take S (p ∷ ps) s h = refl

not_none : (ks : List (List ℕ)) (xs : List Typed) → length xs ≢ 0 → length xs ≡ length ks → zip ks (map expression_of xs) ≢ []
not_none ks [] h k = absurd (h refl)
not_none [] (x ∷ xs) h k = absurd (omega arith)
not_none (j ∷ ks) (x ∷ xs) h k = λ e. absurd cc

pub tuple_at : (take : Take) (S : Scope) (ks : List (List ℕ)) (xs : List Typed) (s : State) → length xs ≢ 0 → length xs ≡ length ks → tuple_form take S (zip ks (map expression_of xs)) s ≡ and_then (parts take S (map expression_of xs) s) (tuple_made ks)
tuple_at take S ks xs s h k =
    some_parts take S (zip ks (map expression_of xs)) s (not_none ks xs h k)
    ∙ ap (λ l. and_then (parts take S l s) (tuple_made (map (λ (q : List ℕ × Tree). q.0) (zip ks (map expression_of xs))))) (seconds ks xs k)
    ∙ ap (λ l. and_then (parts take S (map expression_of xs) s) (tuple_made l)) (firsts ks xs k)

pub pairs_are : (costs : Costs) (p : Purse) (sp : Seen) (take : Take) (S : Scope) (bs seen : List Binding) (es : List Tree) (s : State) → seen ≡ bs → watched costs p sp (with_known (bindings_of (bound_items bs es)) (tuple_form take S) s) ≡ watched costs p sp (with_known (bindings_of (bound_items seen es)) (tuple_form take S) s)
pairs_are costs p sp take S bs seen es s h = ap (λ l. watched costs p sp (with_known (bindings_of (bound_items l es)) (tuple_form take S) s)) (sym h)

-- ---- names in brackets

pub next_name : (bs : List Binding) (i : ℕ) (b : Binding) (ns ms : List (List ℕ)) → i < length bs → b ≡ get_or bs i b → ms ≡ ns ++ b.word.name ∷ [] → ns ++ bound_names (drop i bs) ≡ ms ++ bound_names (drop (i + 1) bs)
next_name bs i b ns ms here is more =
    ap (λ l. ns ++ bound_names l) (next_part bs i b here is) ∙ sym (append_assoc ns (b.word.name ∷ []) (bound_names (drop (i + 1) bs)))
    ∙ ap (λ l. l ++ bound_names (drop (i + 1) bs)) (sym more)

pub no_name : (bs : List Binding) (i : ℕ) (ns : List (List ℕ)) → length bs ≤ i → ns ++ bound_names (drop i bs) ≡ ns
no_name bs i ns h = ap (λ l. ns ++ bound_names l) (drop_all i bs h) ∙ append-nil ns
