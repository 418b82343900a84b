-- Literals, names, variables and maps: what each is, as equations.
use Rattle.std.proofs.Common.{◌≡◌, ◌≢◌, ℕ, ◌+◌, Bool, true, false, List, [], ◌∷◌, ◌++◌, length, Option, Some, None, Result, refl, sym, ap, ◌∙◌, subst, ◌≤◌, arith}
use Rattle.std.proofs.lemmas.Bool.Decides.{nat_tests}
use Rattle.std.specs.Prelude.{if◌then◌else◌, not, is_some, nat_le, option_map}
use Rattle.std.specs.Str.{bytes_eq}
use Rattle.std.specs.Option.{option_or}
use Rattle.cl_shapes.specs.Limits.{Purse}
use Rattle.cl_shapes.specs.declared.name.CostName.{CostName}
use Rattle.cl_shapes.specs.declared.name.CostName.TheVariants.{Lookup, ReadVar, ReadMap}
use Rattle.cl_values.specs.declared.refusal.ValueRefusal.{ValueRefusal}
use Rattle.cl_values.specs.Tree.{Tree as Val, BoolV, NoneV, SomeV}
use Rattle.cl_values.specs.Wire.{size_of}
use Rattle.cl_values.specs.Computed.{Gives, Undefined}
use Rattle.cl_values.specs.Sequences.{optional, entries_of, on_entries, within_length}
use Rattle.cl_maps.specs.Maps.{get, put, without}
use Rattle.cl_c32.specs.declared.principal.Principal.{Principal}
use Rattle.cl_events.specs.declared.event.EventKind.TheVariants.{Print}
use Rattle.cl_meaning.specs.Limits.{Costs, Gave, Lost, limited}
use Rattle.cl_meaning.proofs.LimitLaws.{limited-stop}
use Rattle.cl_values.specs.declared.native.Native.{Native}
use Rattle.cl_values.specs.Natives.{native_value}
use Rattle.cl_meaning.specs.Values.{on_values, number_of}
use Rattle.cl_state.specs.Stack.{Stack, with_top}
use Rattle.cl_frames.specs.declared.stop.Stop.{Stop}
use Rattle.cl_frames.specs.Runs.{Computes}
use Rattle.cl_frames.proofs.Steps.{gives}
use Rattle.cl_forms.specs.Names.{is_one_of}
use Rattle.cl_forms.specs.declared.keyword.Keyword.{Keyword}
use Rattle.cl_forms.specs.Keywords.{keyword_name, keywords}
use Rattle.cl_forms.proofs.Keywords.{keyword_there, keyless}
use Rattle.cl_code.specs.declared.op.NameNative.{NameNative}
use Rattle.cl_code.specs.declared.op.NameNative.TheVariants as on_name
use Rattle.cl_events.specs.State.{State, spot, with_variables, with_entries, with_event}
use Rattle.cl_meaning.specs.Answers.{Answer, Wrong, stop, give, wrong, charged, with_known, outcome_of}
use Rattle.cl_meaning.specs.Deployed.{Contract, value_of, constant_of, has_map}
use Rattle.cl_meaning.specs.Scope.{Scope, home}
use Rattle.cl_meaning.specs.Names.{standing, literal, keyword_form, known_form, keyword_or, name_form}
use Rattle.cl_meaning.specs.Data.{here, variable_set, only_if, with_map, found_at, entry_at, key_and_value, insert_entry, delete_entry}
use Rattle.cl_frames.specs.Tails.{variable_read, entry_read, with_nothing, with_one, with_all}

-- ---- literals and names

pub standing_at : (name : CostName) (v : Val) (s : State) → standing name v s ≡ charged name (size_of v) (give v s)
unfolding standing
standing_at name v s = refl

abbrev pub literal_of : Result Val ValueRefusal → State → Answer Val
literal_of o s = literal o s

pub keyword_at : (S : Scope) (k l : Keyword) (s : State) → k ≡ l → name_form S (keyword_name k) s ≡ keyword_form S l s
unfolding name_form
keyword_at S k l s h = ap (λ o. keyword_or S o (known_form S (keyword_name k)) s) (keyword_there k) ∙ ap (λ m. keyword_form S m s) h

name_at : (S : Scope) (x : List ℕ) (s : State) → is_one_of keywords x ≡ false → name_form S x s ≡ known_form S x s
unfolding name_form
name_at S x s h = ap (λ o. keyword_or S o (known_form S x) s) (keyless x h)

pub name_is : (S : Scope) (x : List ℕ) (o c : Option Val) (H : Contract) (s : State) → is_one_of keywords x ≡ false → o ≡ value_of x S.bound → home S ≡ Some H → c ≡ value_of x H.constants → name_form S x s ≡ with_known (option_or o c) (standing Lookup) s
name_is S x o c H s k h i j =
    name_at S x s k ∙ ap (λ p. with_known (option_or p (constant_of x (home S))) (standing Lookup) s) (sym h)
    ∙ ap (λ p. with_known (option_or o (constant_of x p)) (standing Lookup) s) i
    ∙ ap (λ p. with_known (option_or o p) (standing Lookup) s) (sym j)

-- ---- variables

pub set_there : (o : Option Val) (at : List ℕ) (v : Val) (s : State) → true ≡ is_some o → with_known o (variable_set at v) s ≡ give (BoolV true) (with_variables (put at v s.variables) s)
set_there None at v s h = absurd cc
set_there (Some w) at v s h = refl

pub set_absent : (o : Option Val) (at : List ℕ) (v : Val) (s : State) → false ≡ is_some o → with_known o (variable_set at v) s ≡ wrong s
set_absent None at v s h = refl
set_absent (Some w) at v s h = absurd cc

-- ---- maps

pub no_map : (S : Scope) (m : List ℕ) (go_on : State → Answer Val) (s : State) → has_map m (home S) ≡ false → with_map S m go_on s ≡ wrong s
no_map S m go_on s h = ap (λ b. only_if b go_on s) h

pub a_map : (S : Scope) (m : List ℕ) (go_on : State → Answer Val) (s : State) → has_map m (home S) ≡ true → with_map S m go_on s ≡ go_on s
a_map S m go_on s h = ap (λ b. only_if b go_on s) h

pub not_pair : (act : Val → Val → State → Answer Val) (vs : List Val) (s : State) → length vs ≢ 2 → key_and_value act vs s ≡ wrong s
not_pair act [] s k = refl
not_pair act (a ∷ []) s k = refl
not_pair act (a ∷ b ∷ []) s k = absurd (k refl)
not_pair act (a ∷ b ∷ c ∷ us) s k = refl

pub found_size : (m n k l : ℕ) → m ≡ k → n ≡ l → m + n ≡ k + l
found_size m n k l h i = ap (λ x. x + n) h ∙ ap (λ x. k + x) i

-- ---- reading

pub variable_some : (S : Scope) (x : List ℕ) (v : Val) (s : State) → get (here S x) s.variables ≡ Some v → variable_read S x s ≡ standing ReadVar v s
variable_some S x v s h = ap (λ o. with_known o (λ w t. charged ReadVar (size_of w) (give w t)) s) h ∙ sym (standing_at ReadVar v s)

pub variable_none : (S : Scope) (x : List ℕ) (s : State) → get (here S x) s.variables ≡ None → variable_read S x s ≡ wrong s
variable_none S x s h = ap (λ o. with_known o (λ w t. charged ReadVar (size_of w) (give w t)) s) h

-- an entry, as the code has found it
pub entry_at_is : (S : Scope) (m : List ℕ) (key : Val) (entry : Option Val) (s : State) → has_map m (home S) ≡ true → entry ≡ entry_at S m key s → entry_read S m key s ≡ charged ReadMap (size_of key + size_of (optional entry)) (stop (outcome_of (Gives (optional entry))) s)
entry_at_is S m key entry s there h = a_map S m _ s there ∙ ap (λ o. found_at key (optional o) s) (sym h)

-- an entry that is deleted
pub deleted_is : (S : Scope) (m : List ℕ) (key : Val) (was : Bool) (s t : State) → has_map m (home S) ≡ true → was ≡ is_some (entry_at S m key s) → t ≡ with_entries (without (spot S.frame.contract m key) s.entries) s → with_map S m (delete_entry S m key) s ≡ give (BoolV was) t
deleted_is S m key was s t there h k = a_map S m _ s there ∙ ap (λ b. give (BoolV b) (with_entries (without (spot S.frame.contract m key) s.entries) s)) (sym h) ∙ ap (λ u. give (BoolV was) u) (sym k)

-- a key and a value, as the code has them
pub pair_is : (S : Scope) (m : List ℕ) (act : Val → Val → State → Answer Val) (vs : List Val) (key v : Val) (s : State) → has_map m (home S) ≡ true → vs ≡ key ∷ v ∷ [] → with_map S m (key_and_value act vs) s ≡ act key v s
pair_is S m act vs key v s there h = a_map S m _ s there ∙ ap (λ us. key_and_value act us s) h

pub no_pair : (S : Scope) (m : List ℕ) (act : Val → Val → State → Answer Val) (vs : List Val) (s : State) → has_map m (home S) ≡ true → length vs ≢ 2 → with_map S m (key_and_value act vs) s ≡ wrong s
no_pair S m act vs s there h = a_map S m _ s there ∙ not_pair act vs s h

pub inserted_is : (S : Scope) (m : List ℕ) (key v : Val) (o : Option Val) (b : Bool) (s t : State) → not b ≡ is_some o → (b ≡ true → t ≡ with_entries (put (spot S.frame.contract m key) v s.entries) s) → (b ≡ false → t ≡ s)
    → insert_entry S m key v o s ≡ give (BoolV b) t
inserted_is S m key v None true s t found done same = ap (give (BoolV true)) (sym (done refl))
inserted_is S m key v None false s t found done same = absurd cc
inserted_is S m key v (Some old) true s t found done same = absurd cc
inserted_is S m key v (Some old) false s t found done same = ap (give (BoolV false)) (sym (same refl))

-- whether it was written or not
pub same_below : (b : Bool) (old new : Stack) (s : State) → (b ≡ true → new ≡ with_top old s) → (b ≡ false → new ≡ old) → new.below ≡ old.below
same_below true old new s done same = ap (λ (w : Stack). w.below) (done refl)
same_below false old new s done same = ap (λ (w : Stack). w.below) (same refl)

pub print_ends : (costs : Costs) (q : Purse) (F : Principal) (v told : Val) (s t : State) → told ≡ v → t ≡ with_event F (Print told) s → limited costs q (give v (with_event F (Print v) s)) ≡ Gave v t q
print_ends costs q F v told s t h k = gives costs q v v (with_event F (Print v) s) t refl (k ∙ ap (λ x. with_event F (Print x) s) h)

pub literal_is : (o p : Result Val ValueRefusal) (s : State) → o ≡ p → literal o s ≡ literal p s
literal_is o p s h = ap (λ q. literal q s) h

pub optional_some : (o : Option Val) (v : Val) (r : Result Val Stop) → o ≡ Some v → Computes (outcome_of (Gives (SomeV v))) r → Computes (outcome_of (Gives (optional o))) r
optional_some o v r h k = subst (λ p. Computes (outcome_of (Gives (optional p))) r) (sym h) k

-- a native on values, as the code has its charge and its arguments
pub charged_as : (native : Native) (cost name : CostName) (vs seen : List Val) (m : ℕ) (s : State) → name ≡ cost → seen ≡ vs → m ≡ number_of name seen → on_values native cost vs s ≡ charged name m (stop (outcome_of (native_value native vs)) s)
unfolding on_values
charged_as native cost name vs seen m s h k n =
    ap (λ d. charged d (number_of d vs) (stop (outcome_of (native_value native vs)) s)) (sym h)
    ∙ ap (λ l. charged name (number_of name l) (stop (outcome_of (native_value native vs)) s)) (sym k)
    ∙ ap (λ i. charged name i (stop (outcome_of (native_value native vs)) s)) (sym n)

-- ---- what isn't one of the natives

pub not_nothing : (n : NameNative) (S : Scope) (x : List ℕ) (s : State) → n ≢ on_name.VarGet → n ≢ on_name.FtSupply → with_nothing n S x s ≡ wrong s
not_nothing on_name.VarGet S x s h k = absurd (h refl)
not_nothing on_name.FtSupply S x s h k = absurd (k refl)
not_nothing n S x s h k = refl

pub not_one : (n : NameNative) (S : Scope) (x : List ℕ) (v : Val) (s : State) → n ≢ on_name.Get → n ≢ on_name.VarSet → n ≢ on_name.MapGet → n ≢ on_name.MapDelete → n ≢ on_name.FtBalance → n ≢ on_name.NftOwner → with_one n S x v s ≡ wrong s
not_one on_name.Get S x v s h i j k l m = absurd (h refl)
not_one on_name.VarSet S x v s h i j k l m = absurd (i refl)
not_one on_name.MapGet S x v s h i j k l m = absurd (j refl)
not_one on_name.MapDelete S x v s h i j k l m = absurd (k refl)
not_one on_name.FtBalance S x v s h i j k l m = absurd (l refl)
not_one on_name.NftOwner S x v s h i j k l m = absurd (m refl)
not_one n S x v s h i j k l m = refl

pub not_all : (n : NameNative) (S : Scope) (x : List ℕ) (vs : List Val) (s : State) → n ≢ on_name.MapSet → n ≢ on_name.MapInsert → n ≢ on_name.MintFt → n ≢ on_name.BurnFt → n ≢ on_name.SendFt → n ≢ on_name.MintNft → n ≢ on_name.BurnNft → n ≢ on_name.SendNft → with_all n S x vs s ≡ wrong s
not_all on_name.MapSet S x vs s a b c d e f g h = absurd (a refl)
not_all on_name.MapInsert S x vs s a b c d e f g h = absurd (b refl)
not_all on_name.MintFt S x vs s a b c d e f g h = absurd (c refl)
not_all on_name.BurnFt S x vs s a b c d e f g h = absurd (d refl)
not_all on_name.SendFt S x vs s a b c d e f g h = absurd (e refl)
not_all on_name.MintNft S x vs s a b c d e f g h = absurd (f refl)
not_all on_name.BurnNft S x vs s a b c d e f g h = absurd (g refl)
not_all on_name.SendNft S x vs s a b c d e f g h = absurd (h refl)
not_all n S x vs s a b c d e f g h = refl

-- ---- names of a scope within another

one_before : (b : Bool) (v : Val) (o c r : Option Val) → option_or o c ≡ r → option_or (if b then Some v else o) c ≡ (if b then Some v else r)
one_before true v o c r h = refl
one_before false v o c r h = h

pub value_in_both : (x : List ℕ) (outer own : List (List ℕ × Val)) → option_or (value_of x outer) (value_of x own) ≡ value_of x (outer ++ own)
value_in_both x [] own = refl
value_in_both x (e ∷ outer) own = one_before (bytes_eq e.0 x) e.1 (value_of x outer) (value_of x own) (value_of x (outer ++ own)) (value_in_both x outer own)

-- ---- sequences within a length

within_by : (most : ℕ) (v : Val) (n : ℕ) (e : Option (List Val)) → option_map length e ≡ Some n → on_entries (λ xs. Gives (if nat_le (length xs) most then SomeV v else NoneV)) e ≡ Gives (if nat_le n most then SomeV v else NoneV)
within_by most v n None h = absurd cc
within_by most v n (Some xs) h =
    let same : length xs ≡ n = cc in
    ap (λ m. Gives (if nat_le m most then SomeV v else NoneV)) same

within_not : (most : ℕ) (v : Val) (e : Option (List Val)) → option_map length e ≡ None → on_entries (λ xs. Gives (if nat_le (length xs) most then SomeV v else NoneV)) e ≡ Undefined
within_not most v None h = refl
within_not most v (Some xs) h = absurd cc

pub within_some : (costs : Costs) (p : Purse) (most : ℕ) (v : Val) (n : ℕ) (o : Option ℕ) (s : State) → o ≡ Some n → o ≡ option_map length (entries_of v) → limited costs p (stop (outcome_of (within_length most v)) s) ≡ limited costs p (stop (outcome_of (Gives (if nat_le n most then SomeV v else NoneV))) s)
within_some costs p most v n o s h k = ap (λ c. limited costs p (stop (outcome_of c) s)) (within_by most v n (entries_of v) (sym k ∙ h))

pub within_none : (costs : Costs) (p : Purse) (most : ℕ) (v : Val) (o : Option ℕ) (s : State) → o ≡ None → o ≡ option_map length (entries_of v) → limited costs p (stop (outcome_of (within_length most v)) s) ≡ Lost p
within_none costs p most v o s h k = ap (λ c. limited costs p (stop (outcome_of c) s)) (within_not most v (entries_of v) (sym k ∙ h)) ∙ limited-stop costs p Wrong s

within_true : (m n : ℕ) → m ≤ n → nat_le m n ≡ true
within_true m n h = grind (arith, nat_tests)

pub held_some : (n most : ℕ) (v : Val) (r : Result Val Stop) → n ≤ most → Computes (outcome_of (Gives (SomeV v))) r → Computes (outcome_of (Gives (if nat_le n most then SomeV v else NoneV))) r
held_some n most v r h k = subst (λ b. Computes (outcome_of (Gives (if b then SomeV v else NoneV))) r) (sym (within_true n most h)) k
