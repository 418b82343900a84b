-- What is done once the parts of a node have their values: no node ends in it but a native by name.
use Rattle.std.proofs.Common.{◌≡◌, ℕ, zero, suc, List, [], ◌∷◌, Bool, true, false, Option, Some, None, refl, sym, ap, ◌∙◌}
use Rattle.std.specs.Prelude.{Result, Ok, Err}
use Rattle.std.specs.Option.{option_or}
use Rattle.cl_shapes.specs.Limits.{Purse, spend}
use Rattle.cl_shapes.specs.declared.name.CostName.{CostName}
use Rattle.cl_shapes.specs.declared.name.CostName.TheVariants.{Literal, Lookup, ReadVar}
use Rattle.cl_sexpr.specs.declared.sexpr.Span.{Span}
use Rattle.cl_values.specs.Tree.{Tree as Val, BoolV, UintV, PrincipalV, NoneV, SomeV, ResponseV}
use Rattle.cl_values.specs.Wire.{wire, size_of}
use Rattle.cl_values.specs.Sequences.{optional}
use Rattle.cl_maps.specs.Maps.{get}
use Rattle.cl_values.specs.declared.refusal.ValueRefusal.{ValueRefusal}
use Rattle.cl_values.specs.declared.native.Native.{Native}
use Rattle.cl_tokens.specs.declared.refusal.TokenRefusal.TheVariants.{Code, SupplyOverflow}
use Rattle.cl_tokens.specs.Ledger.{Ledger}
use Rattle.cl_events.specs.Acts.{Acted}
use Rattle.cl_events.specs.State.{State}
use Rattle.cl_types.specs.declared.sized.Access.TheVariants.{Public}
use Rattle.cl_forms.specs.declared.head.Head.{Head}
use Rattle.cl_forms.specs.declared.head.Head.TheVariants as heads
use Rattle.cl_forms.specs.declared.head.TokenNative.{TokenNative}
use Rattle.cl_forms.specs.declared.head.TokenNative.TheVariants as tokens
use Rattle.cl_forms.specs.Heads.{Row, row_of}
use Rattle.cl_code.specs.declared.op.NameNative.{NameNative}
use Rattle.cl_code.specs.declared.op.NameNative.TheVariants.{Get, VarGet, VarSet, MapGet, MapSet, MapInsert, MapDelete, FtBalance, FtSupply, NftOwner, MintFt, BurnFt, SendFt, MintNft, BurnNft, SendNft}
use Rattle.cl_forms.specs.declared.keyword.Keyword.{Keyword}
use Rattle.cl_forms.specs.Keywords.{keyword_of, keyword_cost}
use Rattle.cl_meaning.specs.Answers.{Outcome, Given, Thrown, Wrong, Deeper, Answer, Note, stop, give, charged, with_known, ending, outcome_of}
use Rattle.cl_meaning.specs.Limits.{Costs, cost_of, Paid, Within, Past, paid_by, limited}
use Rattle.cl_meaning.specs.Trace.{claims, trace_of}
use Rattle.cl_meaning.specs.Scope.{Scope, Frame, ByName, home}
use Rattle.cl_meaning.specs.Deployed.{has_map, value_of, constant_of}
use Rattle.cl_meaning.specs.Names.{standing, literal, keyword_value, keyword_or, known_form, name_form}
use Rattle.cl_meaning.specs.Values.{number_of, on_values}
use Rattle.cl_meaning.specs.Control.{last_of, tried}
use Rattle.cl_meaning.specs.Data.{here, only_if, variable_set, key_and_value, entry_at, found_at, set_entry, insert_entry, delete_entry}
use Rattle.cl_meaning.specs.Tokens.{balance_in, owner_value, act_of, answered, acts}
use Rattle.cl_meaning.specs.Calls.{closing, truth_value, native_form, application}
use Rattle.cl_meaning.specs.Meaning.{applied}
use Rattle.cl_meaning.proofs.Equations.{applied_zero, applied_step}
use Rattle.cl_meaning.proofs.LimitLaws.{limited-stop, limited-ending}
use Rattle.cl_frames.specs.declared.applied.ByName.{ByName as ByNameOfCode}
use Rattle.cl_frames.specs.declared.applied.ByName.TheVariants as code
use Rattle.cl_frames.specs.Applying.{by_name, place_by_name}
use Rattle.cl_frames.specs.Kept.{flags_of, sieved, kept_of}
use Rattle.cl_frames.specs.Tails.{shortened, tuple_made, token_acted, stx_read, printed, with_nothing, with_one, with_all}
use Rattle.cl_frames.specs.Watching.{Seen, watched_as, watched, after}
use Rattle.cl_frames.proofs.WatchLaws.{watched-stop, watched-ending, noting, unseen}

-- no node ends in it
abbrev pub IsUnseen : {A : Type 0} → Answer A → Type 0
IsUnseen a = (costs : Costs) (p : Purse) → trace_of costs p a ≡ []

pub stopped : {A : Type 0} (o : Outcome A) (s : State) → IsUnseen (stop o s)
unfolding stop trace_of claims
stopped o s costs p = refl

paid_so : (costs : Costs) (r : Paid) (log : List Note) → ((p : Purse) → claims costs (Within p) log ≡ []) → claims costs r log ≡ []
unfolding claims
paid_so costs (Past over p) log h = refl
paid_so costs (Within p) log h = h p

pub paid : {A : Type 0} (name : CostName) (n : ℕ) (a : Answer A) → IsUnseen a → IsUnseen (charged name n a)
unfolding charged trace_of claims
paid name n a h costs p = paid_so costs (paid_by p (spend p (cost_of costs name n))) a.log (λ q. h costs q)

pub known : {A B : Type 0} (o : Option A) (go_on : A → State → Answer B) (s : State) → ((v : A) → IsUnseen (go_on v s)) → IsUnseen (with_known o go_on s)
known None go_on s h = stopped Wrong s
known (Some v) go_on s h = h v

-- ---- literals and names

pub standing_unseen : (name : CostName) (v : Val) (s : State) → IsUnseen (standing name v s)
unfolding standing
standing_unseen name v s = paid name (size_of v) (give v s) (stopped (Given v) s)

pub literal_unseen : (r : Result Val ValueRefusal) (s : State) → IsUnseen (literal r s)
literal_unseen (Ok v) s = standing_unseen Literal v s
literal_unseen (Err refusal) s = stopped Wrong s

keyword_unseen : (S : Scope) (o : Option Keyword) (other : State → Answer Val) (s : State) → IsUnseen (other s) → IsUnseen (keyword_or S o other s)
keyword_unseen S (Some k) other s h = standing_unseen (keyword_cost k) (keyword_value S k) s
keyword_unseen S None other s h = h

pub name_unseen : (S : Scope) (x : List ℕ) (s : State) → IsUnseen (name_form S x s)
unfolding name_form
name_unseen S x s = keyword_unseen S (keyword_of x) (known_form S x) s (known (option_or (value_of x S.bound) (constant_of x (home S))) (standing Lookup) s (λ v. standing_unseen Lookup v s))

-- ---- natives on values, tuples and sequences

pub values_unseen : (native : Native) (cost : CostName) (vs : List Val) (s : State) → IsUnseen (on_values native cost vs s)
unfolding on_values
values_unseen native cost vs s = paid cost (number_of cost vs) _ (stopped _ s)

pub shortened_unseen : (most : ℕ) (v : Val) (s : State) → IsUnseen (shortened most v s)
shortened_unseen most v s = paid _ _ _ (stopped _ s)

pub tuple_unseen : (keys : List (List ℕ)) (vs : List Val) (s : State) → IsUnseen (tuple_made keys vs s)
tuple_unseen keys vs s = paid _ _ _ (stopped _ s)

pub kept_unseen : (v : Val) (vs : List Val) (s : State) → IsUnseen (kept_of v vs s)
kept_unseen v vs s = known (flags_of vs) (λ bs. stop (outcome_of (sieved v bs))) s (λ bs. stopped (outcome_of (sieved v bs)) s)

-- ---- control

pub last_unseen : (vs : List Val) (s : State) → IsUnseen (last_of vs s)
last_unseen [] s = stopped Wrong s
last_unseen (v ∷ []) s = stopped (Given v) s
last_unseen (v ∷ w ∷ vs) s = last_unseen (w ∷ vs) s

pub tried_unseen : (v : Val) (s : State) → IsUnseen (tried v s)
tried_unseen (SomeV v) s = stopped (Given v) s
tried_unseen NoneV s = stopped (Thrown NoneV) s
tried_unseen (ResponseV true v) s = stopped (Given v) s
tried_unseen (ResponseV false v) s = stopped (Thrown (ResponseV false v)) s
tried_unseen v s = stopped Wrong s

pub closing_unseen : (before : State) (v : Val) (s : State) → IsUnseen (closing Public before v s)
closing_unseen before (ResponseV true v) s = stopped (Given (ResponseV true v)) s
closing_unseen before (ResponseV false v) s = stopped (Given (ResponseV false v)) before
closing_unseen before v s = stopped Wrong s

-- ---- variables, maps and tokens

map_unseen : (b : Bool) (go_on : State → Answer Val) (s : State) → IsUnseen (go_on s) → IsUnseen (only_if b go_on s)
map_unseen true go_on s h = h
map_unseen false go_on s h = stopped Wrong s

pair_unseen : (act : Val → Val → State → Answer Val) (vs : List Val) (s : State) → ((key v : Val) → IsUnseen (act key v s)) → IsUnseen (key_and_value act vs s)
pair_unseen act [] s h = stopped Wrong s
pair_unseen act (key ∷ []) s h = stopped Wrong s
pair_unseen act (key ∷ v ∷ []) s h = h key v
pair_unseen act (key ∷ v ∷ w ∷ vs) s h = stopped Wrong s

insert_unseen : (S : Scope) (m : List ℕ) (key v : Val) (o : Option Val) (s : State) → IsUnseen (insert_entry S m key v o s)
insert_unseen S m key v (Some old) s = stopped _ s
insert_unseen S m key v None s = stopped _ _

balance_unseen : (v : Val) (l : Ledger) (s : State) → IsUnseen (balance_in v l s)
balance_unseen (PrincipalV who) l s = stopped _ s
balance_unseen v l s = stopped Wrong s

answered_unseen : (s : State) (a : Acted) → IsUnseen (answered s a)
answered_unseen s None = stopped Wrong s
answered_unseen s (Some (Ok t)) = stopped _ t
answered_unseen s (Some (Err (Code n))) = stopped _ s
answered_unseen s (Some (Err SupplyOverflow)) = stopped _ s

pub token_unseen : (native : TokenNative) (S : Scope) (x : List ℕ) (vs : List Val) (s : State) → IsUnseen (token_acted native S x vs s)
token_unseen native S x vs s = paid _ _ _ (known (act_of native x vs) (acts S) s (λ kind. answered_unseen s _))

pub stx_unseen : (v : Val) (s : State) → IsUnseen (stx_read v s)
stx_unseen v s = paid _ _ _ (balance_unseen v s.stx s)

pub printed_unseen : (F : Frame) (v : Val) (s : State) → IsUnseen (printed F v s)
printed_unseen F v s = paid _ _ _ (stopped _ _)

pub nothing_unseen : (native : NameNative) (S : Scope) (x : List ℕ) (s : State) → IsUnseen (with_nothing native S x s)
nothing_unseen VarGet S x s = known (get (here S x) s.variables) (λ v t. charged ReadVar (size_of v) (give v t)) s (λ v. paid ReadVar (size_of v) (give v s) (stopped (Given v) s))
nothing_unseen FtSupply S x s = paid _ _ _ (known (get (here S x) s.fungibles) (λ l. give (UintV l.supply)) s (λ l. stopped (Given (UintV l.supply)) s))
nothing_unseen native S x s = stopped Wrong s

pub one_unseen : (native : NameNative) (S : Scope) (x : List ℕ) (v : Val) (s : State) → IsUnseen (with_one native S x v s)
one_unseen Get S x v s = paid _ _ _ (stopped _ s)
one_unseen VarSet S x v s = paid _ _ _ (known (get (here S x) s.variables) (variable_set (here S x) v) s (λ old. stopped _ _))
one_unseen MapGet S x v s = map_unseen (has_map x (home S)) (λ t. found_at v (optional (entry_at S x v t)) t) s (paid _ _ _ (stopped _ s))
one_unseen MapDelete S x v s = paid _ _ _ (map_unseen (has_map x (home S)) (delete_entry S x v) s (stopped _ _))
one_unseen FtBalance S x v s = paid _ _ _ (known (get (here S x) s.fungibles) (balance_in v) s (λ l. balance_unseen v l s))
one_unseen NftOwner S x v s = paid _ _ _ (known (get (here S x) s.nonfungibles) (λ owners. with_known (owner_value (get (wire v) owners)) give) s (λ owners. known (owner_value (get (wire v) owners)) give s (λ w. stopped (Given w) s)))
one_unseen native S x v s = stopped Wrong s

pub all_unseen : (native : NameNative) (S : Scope) (x : List ℕ) (vs : List Val) (s : State) → IsUnseen (with_all native S x vs s)
all_unseen MapSet S x vs s = paid _ _ _ (map_unseen (has_map x (home S)) (key_and_value (set_entry S x) vs) s (pair_unseen (set_entry S x) vs s (λ key v. stopped _ _)))
all_unseen MapInsert S x vs s =
    paid _ _ _
    (map_unseen (has_map x (home S)) (key_and_value (λ key v t. insert_entry S x key v (entry_at S x key t) t) vs) s
    (pair_unseen (λ key v t. insert_entry S x key v (entry_at S x key t) t) vs s (λ key v. insert_unseen S x key v (entry_at S x key s) s)))
all_unseen MintFt S x vs s = token_unseen tokens.MintFt S x vs s
all_unseen BurnFt S x vs s = token_unseen tokens.BurnFt S x vs s
all_unseen SendFt S x vs s = token_unseen tokens.SendFt S x vs s
all_unseen MintNft S x vs s = token_unseen tokens.MintNft S x vs s
all_unseen BurnNft S x vs s = token_unseen tokens.BurnNft S x vs s
all_unseen SendNft S x vs s = token_unseen tokens.SendNft S x vs s
all_unseen native S x vs s = stopped Wrong s

-- ---- natives by name

truth_unseen : (o : Option Bool) (s : State) → IsUnseen (truth_value o s)
truth_unseen None s = stopped Wrong s
truth_unseen (Some b) s = stopped (Given (BoolV b)) s

native_unseen : (head : Head) (cost : CostName) (vs : List Val) (s : State) → IsUnseen (native_form head cost vs s)
unfolding native_form
native_unseen (heads.OnValues native) cost vs s = values_unseen native cost vs s
native_unseen heads.And cost vs s = paid _ _ _ (truth_unseen _ s)
native_unseen heads.Or cost vs s = paid _ _ _ (truth_unseen _ s)
native_unseen head cost vs s = stopped Wrong s

at_its_name : (depth : ℕ) (S : Scope) (row : Row) (at : Span) (vs : List Val) (s : State) → applied (suc depth) S (ByName row at) vs s ≡ ending at (native_form row.head row.cost vs s)
unfolding application
at_its_name depth S row at vs s = applied_step depth S (ByName row at) vs s

-- the application of a native by name is seen where it gives a value
native_noted : (costs : Costs) (p : Purse) (k : Seen) (depth : ℕ) (S : Scope) (row : Row) (at : Span) (vs : List Val) (s : State) → watched costs p k (applied depth S (ByName row at) vs s) ≡ after (watched_as (limited costs p (applied depth S (ByName row at) vs s)) k) (noting at)
native_noted costs p k zero S row at vs s =
    ap (watched costs p k) (applied_zero S (ByName row at) vs s) ∙ watched-stop costs p k Deeper s
    ∙ sym (ap (λ a. after (watched_as (limited costs p a) k) (noting at)) (applied_zero S (ByName row at) vs s) ∙ ap (λ l. after (watched_as l k) (noting at)) (limited-stop costs p Deeper s))
native_noted costs p k (suc depth) S row at vs s =
    let a = native_form row.head row.cost vs s in
    ap (watched costs p k) (at_its_name depth S row at vs s) ∙ watched-ending costs p k at a
    ∙ ap (λ w. after w (noting at)) (unseen costs p k a (native_unseen row.head row.cost vs s costs p))
    ∙ ap (λ l. after (watched_as l k) (noting at)) (sym (ap (limited costs p) (at_its_name depth S row at vs s) ∙ limited-ending costs p at a))

pub by_name_noted : (costs : Costs) (p : Purse) (k : Seen) (depth : ℕ) (S : Scope) (b : ByNameOfCode) (vs : List Val) (s : State) → watched costs p k (applied depth S (by_name b) vs s) ≡ after (watched_as (limited costs p (applied depth S (by_name b) vs s)) k) (noting (place_by_name b))
by_name_noted costs p k depth S (code.OnValues n at) vs s = native_noted costs p k depth S (row_of (heads.OnValues n)) at vs s
by_name_noted costs p k depth S (code.And at) vs s = native_noted costs p k depth S (row_of heads.And) at vs s
by_name_noted costs p k depth S (code.Or at) vs s = native_noted costs p k depth S (row_of heads.Or) at vs s
