-- A typed expression is quiet where no call in it writes.
use Rattle.std.proofs.Common.{◌≡◌, ℕ, Bool, true, false, List, [], ◌∷◌, ◌++◌, length, map, take, drop, Option, Some, None, refl, sym, ap, ◌∙◌, arith, eqb-true}
use Rattle.std.specs.Prelude.{filter_map, codes, is_some, not, nat_eq, ◌||◌}
use Rattle.cl_types.specs.Types.{NoType}
use Rattle.cl_types.proofs.Lattice.{keys_equal}
use Rattle.cl_c32.specs.declared.principal.Principal.{Principal}
use Rattle.cl_sexpr.specs.Tree.{Tree, LeafAt, ListAt, TupleAt, Named, Forest, Empty, Then}
use Rattle.cl_values.specs.declared.native.Native.TheVariants.{Add}
use Rattle.cl_forms.specs.declared.head.TokenNative.TheVariants.{MintFt}
use Rattle.cl_forms.specs.declared.head.Head.{Head}
use Rattle.cl_forms.specs.declared.head.Head.TheVariants.{OnValues, OnToken, TupleOf, ContractCall}
use Rattle.cl_forms.specs.declared.version.Version.{Version}
use Rattle.cl_forms.specs.declared.version.Version.TheVariants.{One, Two}
use Rattle.cl_forms.specs.Heads.{row_of, native, words, is_reserved}
use Rattle.cl_forms.specs.HeadNames.{name_of}
use Rattle.cl_forms.specs.Names.{same, is_one_of}
use Rattle.cl_forms.specs.Shapes.{trees_of, binding_of, bindings_of, and_binding}
use Rattle.cl_forms.specs.Writes.{writing_natives, applying_natives, Call, calls_in, calls_of_list, calls_behind}
use Rattle.cl_meaning.specs.Deployed.{Deployed, Function, contract_at, native_of, function_of}
use Rattle.cl_rules.specs.Faults.{shape_rules}
use Rattle.cl_rules.specs.Context.{Context, Names, bind, is_taken, is_top_level, is_named}
use Rattle.cl_rules.specs.Verdicts.{Found}
use Rattle.cl_rules.specs.Shapes.{Plan, Ends, Part, Gives, parts, First, There, Absent, NoName, NoSuch, first_named, is_no_name, is_no_such}
use Rattle.cl_rules.specs.ControlShapes.{is_shadowed, bound_name, let_plan}
use Rattle.cl_rules.specs.DataShapes.{literal_at}
use Rattle.cl_rules.specs.CallShapes.{contract_call_shape, used, target_of, function_of as function_behind}
use Rattle.cl_expression_sound.proofs.Rules.{not_false, or_left, or_right}
use Rattle.cl_readonly_sound.proofs.Quiet.{Plain, AtPairs, IsQuietOne, IsQuietUse, IsQuietAcross, IsQuiet, AreQuietBehind, AllQuiet, AllQuietPairs}

-- ---- names of natives

abbrev pub is_tuple : Head → Bool
is_tuple TupleOf = true
is_tuple head = false

pub tuple_alone : (head : Head) → same (name_of head) (codes "tuple") ≡ is_tuple head
tuple_alone TupleOf = refl
tuple_alone (OnValues Add) = refl
tuple_alone (OnValues n) = refl
tuple_alone (OnToken MintFt) = refl
tuple_alone (OnToken act) = refl
tuple_alone head = refl

tuple_reserved : (version : Version) → is_reserved version (codes "tuple") ≡ true
unfolding words is_reserved
tuple_reserved One = refl
tuple_reserved Two = refl

-- a name that is not reserved isn't that of tuple
not_tuple : (version : Version) (x : List ℕ) → is_reserved version x ≡ false → same x (codes "tuple") ≡ false
not_tuple version x h = by (same x (codes "tuple")) refl
  where
    by : (b : Bool) → same x (codes "tuple") ≡ b → b ≡ false
    by true e = sym (tuple_reserved version) ∙ ap (is_reserved version) (sym (keys_equal x (codes "tuple") e)) ∙ h
    by false e = refl

pub tuple_is_native : (version : Version) (x : List ℕ) → native version x ≡ None → same x (codes "tuple") ≡ false
unfolding native
tuple_is_native version x h = by (same x (codes "tuple")) refl
  where
    none_found : (version : Version) → native version (codes "tuple") ≡ None → true ≡ false
    none_found One h = absurd cc
    none_found Two h = absurd cc

    by : (b : Bool) → same x (codes "tuple") ≡ b → b ≡ false
    by true e = none_found version (ap (native version) (sym (keys_equal x (codes "tuple") e)) ∙ h)
    by false e = refl

module _ (Apart : Call → Type 0) where
  -- ---- calls, none of which writes

  abbrev pub AllCalls : List Call → Type 0
  AllCalls [] = Unit {0}
  AllCalls (c ∷ cs) = Apart c × AllCalls cs

  pub all_front : (xs ys : List Call) → AllCalls (xs ++ ys) → AllCalls xs
  all_front [] ys h = tt
  all_front (x ∷ xs) ys h = (h.0, all_front xs ys h.1)

  pub all_back : (xs ys : List Call) → AllCalls (xs ++ ys) → AllCalls ys
  all_back [] ys h = h
  all_back (x ∷ xs) ys h = all_back xs ys h.1

  abbrev pub EachCalls : List Tree → Type 0
  EachCalls [] = Unit {0}
  EachCalls (e ∷ es) = AllCalls (calls_in e) × EachCalls es

  pub behind_each : (es : Forest) → AllCalls (calls_behind false es) → EachCalls (trees_of es)
  behind_each Empty h = tt
  behind_each (Then e es) h = (all_front (calls_in e) (calls_behind false es) h, behind_each es (all_back (calls_in e) (calls_behind false es) h))

  -- the items of a list of bindings
  pub list_each : (bs : Forest) → is_some (bindings_of (trees_of bs)) ≡ true → AllCalls (calls_of_list bs) → EachCalls (trees_of bs)
  list_each Empty are h = tt
  list_each (Then (ListAt items at) bs) are h = (all_front (calls_of_list items) (calls_behind false bs) h, behind_each bs (all_back (calls_of_list items) (calls_behind false bs) h))
  list_each (Then (LeafAt leaf at) bs) are h = absurd cc
  list_each (Then (TupleAt ps at) bs) are h = absurd cc

  binding_each : (x : List ℕ) (e : Tree) (b : Bool) → b ≡ false → AllCalls (calls_behind b (Then e Empty)) → AllCalls (calls_in e)
  binding_each x e false is h = all_front (calls_in e) [] h
  binding_each x e true is h = absurd cc

-- What is known of the calls in the code of a contract, in a context of it: natives are those of its text's version, and where a
-- call doesn't write, what it calls is quiet.
pub record CallsAreQuiet (W : Deployed) (Q : Principal → Function → Type 0) (p : Principal) (G : Context) (Apart : Call → Type 0) : Type 0 where
  pub versions : (x : List ℕ) → native_of x (contract_at p W) ≡ native G.version x
  pub natives : (x : List ℕ) (es : Forest) → Apart (record { operator = x; parts = es }) → is_one_of writing_natives x ≡ true → ⊥
  pub functions : (x : List ℕ) (es : Forest) → Apart (record { operator = x; parts = es }) → IsQuietOne W Q p (function_of x (contract_at p W))
  pub uses : (x : List ℕ) (es : Forest) → Apart (record { operator = x; parts = es }) → is_one_of applying_natives x ≡ true → IsQuietUse W Q p es
  pub across : (B : Names) (es : Forest) → shape_rules (contract_call_shape (row_of ContractCall) G B (trees_of es)).faults ≡ [] → Apart (record { operator = codes "contract-call?"; parts = es }) → IsQuietAcross W Q p es

module _ (W : Deployed) (Q : Principal → Function → Type 0) (p : Principal) (G : Context) (Apart : Call → Type 0) where
  -- ---- parts of plans

  -- the parts of a plan, of which this was found, are quiet where no call in them writes
  abbrev pub PlanQuiet : Plan → List Found → Type 0
  PlanQuiet Ends [] = Unit {0}
  PlanQuiet Ends (f ∷ fs) = ⊥
  PlanQuiet (Part B e plan) [] = ⊥
  PlanQuiet (Part B e plan) (f ∷ fs) = (AllCalls Apart (calls_in e) → IsQuiet W Q p e) × PlanQuiet plan fs
  PlanQuiet (Gives B e k) [] = ⊥
  PlanQuiet (Gives B e k) (f ∷ fs) = (AllCalls Apart (calls_in e) → IsQuiet W Q p e) × PlanQuiet (k f) fs

  pub parts_quiet : (B : Names) (es : List Tree) (fs : List Found) → PlanQuiet (parts B es) fs → EachCalls Apart es → AllQuiet W Q p es
  parts_quiet B [] fs q h = tt
  parts_quiet B (e ∷ es) [] q h = absurd q
  parts_quiet B (e ∷ es) (f ∷ fs) q h = (q.0 h.0, parts_quiet B es fs q.1 h.1)

  pub plain_quiet : (es : Forest) → AllQuiet W Q p (trees_of es) → AreQuietBehind W Q p Plain es
  plain_quiet Empty q = tt
  plain_quiet (Then e es) q = (q.0, plain_quiet es q.1)

  pub pairs_quiet : (es : Forest) → AllQuietPairs W Q p (trees_of es) → AreQuietBehind W Q p AtPairs es
  pairs_quiet Empty q = tt
  pairs_quiet (Then e es) q = (q.0, pairs_quiet es q.1)

  -- the first item is a token
  pub named_quiet : {A : Type 0} (find : List ℕ → Option A) (es : List Tree) → is_no_name (first_named find es) ≡ false → (B : Names) (fs : List Found) → PlanQuiet (parts B (drop 1 es)) fs → EachCalls Apart es → AllQuiet W Q p es
  named_quiet find [] named B fs q h = tt
  named_quiet find (LeafAt leaf at ∷ es) named B fs q h = (tt, parts_quiet B es fs q h.1)
  named_quiet find (ListAt items at ∷ es) named B fs q h = absurd cc
  named_quiet find (TupleAt ps at ∷ es) named B fs q h = absurd cc

  pub used_quiet : (es : List Tree) → is_no_such (used G es) ≡ false → (B : Names) (fs : List Found) → PlanQuiet (parts B (drop 1 es)) fs → EachCalls Apart es → AllQuiet W Q p es
  used_quiet [] there B fs q h = tt
  used_quiet (LeafAt leaf at ∷ es) there B fs q h = (tt, parts_quiet B es fs q h.1)
  used_quiet (ListAt items at ∷ es) there B fs q h = absurd cc
  used_quiet (TupleAt ps at ∷ es) there B fs q h = absurd cc

  pub max_len_quiet : (es : List Tree) → not (nat_eq (length es) 2) ≡ false → is_no_such (literal_at es) ≡ false → (B : Names) (fs : List Found) → PlanQuiet (parts B (take 1 es)) fs → EachCalls Apart es → AllQuiet W Q p es
  max_len_quiet [] count literal B fs q h = tt
  max_len_quiet (e ∷ []) count literal B fs q h = parts_quiet B (e ∷ []) fs q h
  max_len_quiet (e ∷ LeafAt leaf at ∷ []) count literal B fs q h = let first = parts_quiet B (e ∷ []) fs q (h.0, tt) in (first.0, (tt, tt))
  max_len_quiet (e ∷ ListAt items at ∷ []) count literal B fs q h = absurd cc
  max_len_quiet (e ∷ TupleAt ps at ∷ []) count literal B fs q h = absurd cc
  max_len_quiet (e ∷ d ∷ c ∷ es) count literal B fs q h = let many = eqb-true (length (e ∷ d ∷ c ∷ es)) 2 (not_false (nat_eq (length (e ∷ d ∷ c ∷ es)) 2) count) in absurd (omega (arith, many))

  second_quiet : (target : First _) (e d : Tree) (es : List Tree) → is_no_name (function_behind target (e ∷ d ∷ es)) ≡ false → IsQuiet W Q p d
  second_quiet target e (LeafAt leaf at) es named = tt
  second_quiet (There k) e (ListAt items at) es named = absurd cc
  second_quiet (There k) e (TupleAt ps at) es named = absurd cc
  second_quiet Absent e (ListAt items at) es named = absurd cc
  second_quiet Absent e (TupleAt ps at) es named = absurd cc
  second_quiet NoName e (ListAt items at) es named = absurd cc
  second_quiet NoName e (TupleAt ps at) es named = absurd cc
  second_quiet NoSuch e (ListAt items at) es named = absurd cc
  second_quiet NoSuch e (TupleAt ps at) es named = absurd cc

  target_quiet : (e : Tree) (es : List Tree) → is_no_name (target_of G (e ∷ es)) ≡ false → IsQuiet W Q p e
  target_quiet (LeafAt leaf at) es named = tt
  target_quiet (ListAt items at) es named = absurd cc
  target_quiet (TupleAt ps at) es named = absurd cc

  pub across_quiet : (es : List Tree) → is_no_name (target_of G es) ≡ false → is_no_name (function_behind (target_of G es) es) ≡ false → (B : Names) (fs : List Found) → PlanQuiet (parts B (drop 2 es)) fs → EachCalls Apart es → AllQuiet W Q p es
  across_quiet [] target named B fs q h = tt
  across_quiet (e ∷ []) target named B fs q h = (target_quiet e [] target, tt)
  across_quiet (e ∷ d ∷ es) target named B fs q h = (target_quiet e (d ∷ es) target, (second_quiet (target_of G (e ∷ d ∷ es)) e d es named, parts_quiet B es fs q h.1.1))

  -- ---- pairs and bindings

  pub tuple_quiet : (es : Forest) (B : Names) (fs : List Found) → is_some (bindings_of (trees_of es)) ≡ true → PlanQuiet (parts B (map (λ (b : List ℕ × Tree). b.1) (filter_map binding_of (trees_of es)))) fs → AllCalls Apart (calls_behind true es) → AreQuietBehind W Q p AtPairs es
  tuple_quiet Empty B fs are q h = tt
  tuple_quiet (Then (ListAt (Then (LeafAt (Named k) at) (Then e Empty)) at') es) B fs are q h = by (bindings_of (trees_of es)) are fs q (λ fs are q. tuple_quiet es B fs are q (all_back Apart (calls_in e) (calls_behind true es) h))
    where
      by : (o : Option (List (List ℕ × Tree))) → is_some (and_binding (Some (k, e)) o) ≡ true → (fs : List Found) → PlanQuiet (Part B e (parts B (map (λ (b : List ℕ × Tree). b.1) (filter_map binding_of (trees_of es))))) fs →
          ((fs : List Found) → is_some o ≡ true → PlanQuiet (parts B (map (λ (b : List ℕ × Tree). b.1) (filter_map binding_of (trees_of es)))) fs → AreQuietBehind W Q p AtPairs es) → IsQuiet W Q p e × AreQuietBehind W Q p AtPairs es
      by (Some ps) are (f ∷ fs) q rest = (q.0 (all_front Apart (calls_in e) (calls_behind true es) h), rest fs refl q.1)
      by (Some ps) are [] q rest = absurd q
      by None are fs q rest = absurd cc
  tuple_quiet (Then e es) B fs are q h = absurd cc

  pub let_quiet : (body bs : List Tree) (B C : Names) (fs : List Found) → is_some (bindings_of bs) ≡ true → is_shadowed G C (filter_map bound_name bs) ≡ false → PlanQuiet (let_plan body B (filter_map binding_of bs)) fs → EachCalls Apart bs → EachCalls Apart body → AllQuietPairs W Q p bs × AllQuiet W Q p body
  let_quiet body [] B C fs are free q h k = (tt, parts_quiet B body fs q k)
  let_quiet body (ListAt (Then (LeafAt (Named x) at) (Then e Empty)) at' ∷ bs) B C fs are free q h k =
      by (bindings_of bs) are fs q (λ f fs are q. let_quiet body bs (bind x f.type B) (bind x NoType C) fs are (or_right (is_taken G C x) (is_shadowed G (bind x NoType C) (filter_map bound_name bs)) free) q h.1 k)
    where
      reserved : is_reserved G.version x ≡ false
      reserved = or_left (is_reserved G.version x) (is_top_level G x) (or_left (is_reserved G.version x || is_top_level G x) (is_named x C) (or_left (is_taken G C x) (is_shadowed G (bind x NoType C) (filter_map bound_name bs)) free))

      by : (o : Option (List (List ℕ × Tree))) → is_some (and_binding (Some (x, e)) o) ≡ true → (fs : List Found) → PlanQuiet (Gives B e (λ f. let_plan body (bind x f.type B) (filter_map binding_of bs))) fs →
          ((f : Found) (fs : List Found) → is_some o ≡ true → PlanQuiet (let_plan body (bind x f.type B) (filter_map binding_of bs)) fs → AllQuietPairs W Q p bs × AllQuiet W Q p body) → (IsQuiet W Q p e × AllQuietPairs W Q p bs) × AllQuiet W Q p body
      by (Some ps) are (f ∷ fs) q rest =
          let later = rest f fs refl q.1 in
          ((q.0 (binding_each Apart x e (same x (codes "tuple")) (not_tuple G.version x reserved) h.0.1), later.0), later.1)
      by (Some ps) are [] q rest = absurd q
      by None are fs q rest = absurd cc
  let_quiet body (b ∷ bs) B C fs are free q h k = absurd cc
