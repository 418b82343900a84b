-- match and let, and the bodies of functions.
use Rattle.std.proofs.Common.{◌≡◌, ℕ, ◌+◌, ◌-◌, ◌<◌, ◌≤◌, zero, suc, List, [], ◌∷◌, ◌++◌, length, map, take, drop, get_or, append_assoc, true, false, Result, Err, refl, sym, ap, ◌∙◌, subst, arith}
use Rattle.std.proofs.lemmas.List.{length-map, length-drop, drop_all, append-nil}
use Rattle.std.proofs.Common.{Vec, Global}
use Rattle.cl_values.proofs.Lists.{next_part}
use Rattle.cl_shapes.specs.Limits.{Purse}
use Rattle.cl_shapes.specs.declared.name.CostName.TheVariants.{Control, Bind}
use Rattle.cl_sexpr.specs.declared.sexpr.Span.{Span}
use Rattle.cl_sexpr.specs.Tree.{Tree, ListAt, forest}
use Rattle.cl_forms.proofs.Bindings.{trees_forest}
use Rattle.cl_values.specs.Tree.{Tree as Val, NoneV, SomeV, ResponseV}
use Rattle.cl_values.specs.Wire.{size_of}
use Rattle.cl_events.specs.State.{State}
use Rattle.cl_code.specs.Typed.{Typed, expression_of}
use Rattle.cl_code.specs.Expression.{bound_items, optional_branches, response_branches}
use Rattle.cl_code.specs.declared.op.Word.{Word}
use Rattle.cl_code.specs.declared.op.Binding.{Binding}
use Rattle.cl_meaning.specs.Answers.{wrong, charged, and_then}
use Rattle.cl_meaning.specs.Deployed.{Function}
use Rattle.cl_meaning.specs.Scope.{Scope, Take, BoundValues, parts, binding, with_bound, taken_with}
use Rattle.cl_meaning.specs.Control.{match_optional, match_response, match_form, let_form, let_in, last_of}
use Rattle.cl_meaning.specs.Calls.{body_in}
use Rattle.cl_meaning.specs.Limits.{Costs}
use Rattle.cl_frames.specs.Watching.{Seen, Watched, watched, seen_of, IsStart, Stops, BindsAll}
use Rattle.cl_frames.specs.declared.stop.Stop.{Stop}
use Rattle.cl_frames.specs.declared.stop.Stop.TheVariants.{NoMemory}
use Rattle.cl_frames.specs.declared.way.Way.TheVariants.{Good, Bad, Neither}
use Rattle.cl_frames.specs.Runs.{optional_way_of, response_way_of, content}
use Rattle.cl_frames.proofs.Steps.{Handed}
use Rattle.cl_frames.proofs.WatchSteps.{stops_eq}
use Rattle.cl_frames.proofs.Forms.{three_of}

pub optional_at : (take : Take) (S : Scope) (x : Word) (xs : List Typed) (s : State) → length xs ≡ 3 → (a : Typed) → a ≡ get_or xs 0 a → (b : Typed) → b ≡ get_or xs 1 b → (c : Typed) → c ≡ get_or xs 2 c → match_form take S (optional_branches x (map expression_of xs)) s ≡ charged Control 4 (and_then (take S (expression_of a) s) (match_optional take S x.name (expression_of b) (expression_of c)))
unfolding match_form
optional_at take S x xs s l a ha b hb c hc = ap (λ ys. match_form take S (optional_branches x (map expression_of ys)) s) (three_of xs l a ha b hb c hc)

pub response_at : (take : Take) (S : Scope) (x y : Word) (xs : List Typed) (s : State) → length xs ≡ 3 → (a : Typed) → a ≡ get_or xs 0 a → (b : Typed) → b ≡ get_or xs 1 b → (c : Typed) → c ≡ get_or xs 2 c → match_form take S (response_branches x y (map expression_of xs)) s ≡ charged Control 5 (and_then (take S (expression_of a) s) (match_response take S x.name (expression_of b) y.name (expression_of c)))
unfolding match_form
response_at take S x y xs s l a ha b hb c hc = ap (λ ys. match_form take S (response_branches x y (map expression_of ys)) s) (three_of xs l a ha b hb c hc)

pub some_branch : (take : Take) (S : Scope) (x : List ℕ) (a b : Tree) (v : Val) (s : State) (w : Val) → Good ≡ optional_way_of v → w ≡ content v → match_optional take S x a b v s ≡ taken_with take S x w a s
some_branch take S x a b (SomeV v) s w h k = ap (λ u. taken_with take S x u a s) (sym k)
some_branch take S x a b NoneV s w h k = absurd cc
some_branch take S x a b v s w h k = absurd cc

pub none_branch : (take : Take) (S : Scope) (x : List ℕ) (a b : Tree) (v : Val) (s : State) → Bad ≡ optional_way_of v → match_optional take S x a b v s ≡ take S b s
none_branch take S x a b NoneV s h = refl
none_branch take S x a b (SomeV v) s h = absurd cc
none_branch take S x a b v s h = absurd cc

pub no_optional : (take : Take) (S : Scope) (x : List ℕ) (a b : Tree) (v : Val) (s : State) → Neither ≡ optional_way_of v → match_optional take S x a b v s ≡ wrong s
no_optional take S x a b NoneV s h = absurd cc
no_optional take S x a b (SomeV v) s h = absurd cc
no_optional take S x a b v s h = refl

pub ok_branch : (take : Take) (S : Scope) (x : List ℕ) (a : Tree) (y : List ℕ) (b : Tree) (v : Val) (s : State) (w : Val) → Good ≡ response_way_of v → w ≡ content v → match_response take S x a y b v s ≡ taken_with take S x w a s
ok_branch take S x a y b (ResponseV true v) s w h k = ap (λ u. taken_with take S x u a s) (sym k)
ok_branch take S x a y b (ResponseV false v) s w h k = absurd cc
ok_branch take S x a y b v s w h k = absurd cc

pub err_branch : (take : Take) (S : Scope) (x : List ℕ) (a : Tree) (y : List ℕ) (b : Tree) (v : Val) (s : State) (w : Val) → Bad ≡ response_way_of v → w ≡ content v → match_response take S x a y b v s ≡ taken_with take S y w b s
err_branch take S x a y b (ResponseV false v) s w h k = ap (λ u. taken_with take S y u b s) (sym k)
err_branch take S x a y b (ResponseV true v) s w h k = absurd cc
err_branch take S x a y b v s w h k = absurd cc

pub no_response : (take : Take) (S : Scope) (x : List ℕ) (a : Tree) (y : List ℕ) (b : Tree) (v : Val) (s : State) → Neither ≡ response_way_of v → match_response take S x a y b v s ≡ wrong s
no_response take S x a y b (ResponseV true v) s h = absurd cc
no_response take S x a y b (ResponseV false v) s h = absurd cc
no_response take S x a y b v s h = refl

-- the names of a scope within another, as the code has them
within : (inner base own seen : BoundValues) → inner ≡ base ++ seen → seen ≡ own → base ++ own ≡ inner
within inner base own seen h k = ap (λ l. base ++ l) (sym k) ∙ sym h

-- one more name, in a scope of its own
pub bound_in : (costs : Costs) (q : Purse) (sq : Seen) (through : Take) (S : Scope) (base : BoundValues) (x : List ℕ) (v : Val) (inner : BoundValues) (e : Tree) (s : State) → inner ≡ base ++ (x, v) ∷ [] → watched costs q sq (through (binding x v (with_bound base S)) e s) ≡ watched costs q sq (through (with_bound inner S) e s)
bound_in costs q sq through S base x v inner e s h = ap (λ b. watched costs q sq (through (with_bound b S) e s)) (sym h)

-- ---- let

-- the bindings as the code hands them on
pub let_names : (costs : Costs) (p : Purse) (sp : Seen) (take : Take) (S : Scope) (bs seen : List Binding) (xs : List Typed) (at : Span) (s : State) → seen ≡ bs → watched costs p sp (let_form take S (ListAt (forest (bound_items bs (map expression_of xs))) at ∷ drop (length bs) (map expression_of xs)) s) ≡ watched costs p sp (let_form take S (ListAt (forest (bound_items seen (map expression_of xs))) at ∷ drop (length seen) (map expression_of xs)) s)
let_names costs p sp take S bs seen xs at s h = ap (λ ns. watched costs p sp (let_form take S (ListAt (forest (bound_items ns (map expression_of xs))) at ∷ drop (length ns) (map expression_of xs)) s)) (sym h)

pub let_at : (take : Take) (S : Scope) (bs : List Binding) (xs : List Typed) (at : Span) (n : ℕ) (s : State) → length bs < length xs → n ≡ length xs - length bs + 1 → let_form take S (ListAt (forest (bound_items bs (map expression_of xs))) at ∷ drop (length bs) (map expression_of xs)) s ≡ charged Control n (let_in take (drop (length bs) (map expression_of xs)) S (bound_items bs (map expression_of xs)) s)
unfolding let_form
let_at take S bs xs at n s few h =
    let body = drop (length bs) (map expression_of xs) in
    let count : suc (length body) ≡ n = omega (arith, h, few, length-drop (length bs) (map expression_of xs), length-map xs expression_of) in
    ap (λ items. charged Control (suc (length body)) (let_in take body S items s)) (trees_forest (bound_items bs (map expression_of xs)))
    ∙ ap (λ m. charged Control m (let_in take body S (bound_items bs (map expression_of xs)) s)) count

pub let_start : (costs : Costs) (p : Purse) (sp : Seen) (take : Take) (body : List Tree) (S : Scope) (base own : BoundValues) (items : List Tree) (s : State) → own ≡ [] → watched costs p sp (let_in take body (with_bound base S) items s) ≡ watched costs p sp (let_in take body (with_bound (base ++ own) S) items s)
let_start costs p sp take body S base own items s h = ap (λ b. watched costs p sp (let_in take body (with_bound b S) items s)) (sym (append-nil base) ∙ ap (λ l. base ++ l) (sym h))

one_binding : (take : Take) (body : List Tree) (S : Scope) (b : Binding) (bs : List Binding) (e : Tree) (es : List Tree) (s : State) → let_in take body S (bound_items (b ∷ bs) (e ∷ es)) s ≡ and_then (take S e s) (λ v u. charged Bind (size_of v) (let_in take body (binding b.word.name v S) (bound_items bs es) u))
unfolding let_in
one_binding take body S b bs e es s = refl

pub let_next : (costs : Costs) (p : Purse) (sp : Seen) (take : Take) (body : List Tree) (S : Scope) (base : BoundValues) (bs : List Binding) (xs : List Typed) (i j : ℕ) (b : Binding) (c : Typed) (s : State) (own inner seen : BoundValues) → inner ≡ base ++ seen → seen ≡ own → j ≡ i → i < length bs → length bs ≤ length xs → b ≡ get_or bs i b → c ≡ get_or xs j c → watched costs p sp (let_in take body (with_bound (base ++ own) S) (bound_items (drop i bs) (map expression_of (drop i xs))) s) ≡ watched costs p sp (and_then (take (with_bound inner S) (expression_of c) s) (λ v u. charged Bind (size_of v) (let_in take body (binding b.word.name v (with_bound (base ++ own) S)) (bound_items (drop (i + 1) bs) (map expression_of (drop (i + 1) xs))) u)))
let_next costs p sp take body S base bs xs i j b c s own inner seen h k at here few hb hc =
    let there : i < length xs = omega (arith, here, few) in
    let read : c ≡ get_or xs i c = hc ∙ ap (λ m. get_or xs m c) at in
    let T = with_bound (base ++ own) S in
    ap (λ l. watched costs p sp (let_in take body T (bound_items l (map expression_of (drop i xs))) s)) (next_part bs i b here hb)
    ∙ ap (λ l. watched costs p sp (let_in take body T (bound_items (b ∷ drop (i + 1) bs) (map expression_of l)) s)) (next_part xs i c there read)
    ∙ ap (watched costs p sp) (one_binding take body T b (drop (i + 1) bs) (expression_of c) (map expression_of (drop (i + 1) xs)) s)
    ∙ ap (λ e. watched costs p sp (and_then (take (with_bound e S) (expression_of c) s) (λ v u. charged Bind (size_of v) (let_in take body (binding b.word.name v T) (bound_items (drop (i + 1) bs) (map expression_of (drop (i + 1) xs))) u)))) (within inner base own seen h k)

pub let_bound : (costs : Costs) (q : Purse) (sq : Seen) (take : Take) (body : List Tree) (S : Scope) (base : BoundValues) (x : List ℕ) (v : Val) (own more : BoundValues) (items : List Tree) (s : State) → more ≡ own ++ (x, v) ∷ [] → watched costs q sq (let_in take body (binding x v (with_bound (base ++ own) S)) items s) ≡ watched costs q sq (let_in take body (with_bound (base ++ more) S) items s)
let_bound costs q sq take body S base x v own more items s h =
    ap (λ l. watched costs q sq (let_in take body (with_bound l S) items s)) (append_assoc base own ((x, v) ∷ []) ∙ ap (λ l. base ++ l) (sym h))

pub let_end : (costs : Costs) (p : Purse) (sp : Seen) (take : Take) (body : List Tree) (S : Scope) (bs : List Binding) (es : List Tree) (i : ℕ) (s : State) → length bs ≤ i → watched costs p sp (let_in take body S (bound_items (drop i bs) es) s) ≡ watched costs p sp (let_in take body S [] s)
let_end costs p sp take body S bs es i s h = ap (λ l. watched costs p sp (let_in take body S (bound_items l es) s)) (drop_all i bs h)

let_body : (take : Take) (S : Scope) (body : List Tree) (s : State) → let_in take body S [] s ≡ and_then (parts take S body s) last_of
unfolding let_in
let_body take S body s = refl

pub binds_not : (costs : Costs) (take : Take) (body : List Tree) (S : BoundValues → Scope) (l : Watched Val) (r : Result (Vec (List ℕ × Val) Global) Stop) (e : Stop) (q : Purse) (sq : Seen) (s : State) → Handed r e → Stops l e q sq s → BindsAll costs take body S l r q sq s
binds_not costs take body S l r e q sq s p h = subst (λ x. BindsAll costs take body S l x q sq s) (sym (p.1 ∙ ap Err p.2)) h

-- memory runs out where the start of all was seen
pub binds_memory : (costs : Costs) (take : Take) (body : List Tree) (S : BoundValues → Scope) (l x : Watched Val) (r : Result (Vec (List ℕ × Val) Global) Stop) (q : Purse) (sq : Seen) (s : State) → Handed r NoMemory → l ≡ x → IsStart sq (seen_of x) → BindsAll costs take body S l r q sq s
binds_memory costs take body S l x r q sq s p same start = binds_not costs take body S l r NoMemory q sq s p (stops_eq l x NoMemory q sq s same start)

taken_all : (k : ℕ) (ys : List Typed) → k ≡ length ys → take k ys ≡ ys
taken_all zero [] h = refl
taken_all zero (y ∷ ys) h = absurd (omega (arith, h))
taken_all (suc k) [] h = absurd (omega (arith, h))
taken_all (suc k) (y ∷ ys) h = ap (λ l. y ∷ l) (taken_all k ys (omega (arith, h)))

-- the body of let, as the code has its names and its parts
pub let_rest : (costs : Costs) (p : Purse) (sp : Seen) (through : Take) (S : Scope) (base : BoundValues) (n : ℕ) (xs : List Typed) (own inner seen : BoundValues) (s : State) → inner ≡ base ++ seen → seen ≡ own → watched costs p sp (let_in through (drop n (map expression_of xs)) (with_bound (base ++ own) S) [] s) ≡ watched costs p sp (and_then (parts through (with_bound inner S) (map expression_of (take (length xs - n) (drop n xs))) s) last_of)
let_rest costs p sp through S base n xs own inner seen s h k =
    ap (watched costs p sp) (let_body through (with_bound (base ++ own) S) (drop n (map expression_of xs)) s)
    ∙ ap (λ l. watched costs p sp (and_then (parts through (with_bound (base ++ own) S) l s) last_of)) (dropped n xs ∙ ap (map expression_of) (sym (taken_all (length xs - n) (drop n xs) (sym (length-drop n xs)))))
    ∙ ap (λ e. watched costs p sp (and_then (parts through (with_bound e S) (map expression_of (take (length xs - n) (drop n xs))) s) last_of)) (within inner base own seen h k)
  where
    dropped : (m : ℕ) (ys : List Typed) → drop m (map expression_of ys) ≡ map expression_of (drop m ys)
    dropped zero ys = refl
    dropped (suc m) [] = refl
    dropped (suc m) (y ∷ ys) = dropped m ys

-- ---- the body of a function, whose names stand alone
pub body_bound : (costs : Costs) (p : Purse) (sp : Seen) (through : Take) (S : Scope) (f : Function) (bound names seen : BoundValues) (s : State) → names ≡ seen → seen ≡ bound → watched costs p sp (body_in through S f bound s) ≡ watched costs p sp (body_in through S f names s)
body_bound costs p sp through S f bound names seen s h k = ap (λ b. watched costs p sp (body_in through S f b s)) (sym k ∙ sym h)
