-- The height of each expression is above 0.
use Rattle.std.proofs.Common.{ℕ, ◌<◌, Bool, true, false, List, [], ◌∷◌, Option, Some, None, subst, arith}
use Rattle.cl_types.specs.Types.{PlainType, UintType, PrincipalType, OptionalType, ResponseType}
use Rattle.cl_sexpr.specs.Tree.{Tree, LeafAt, ListAt, TupleAt, Leaf, Named, Then}
use Rattle.cl_forms.specs.declared.head.Head.{Head}
use Rattle.cl_forms.specs.declared.head.Head.TheVariants.{OnToken, AsMaxLen, Get, VarGet, VarSet, MapGet, MapSet, MapInsert, MapDelete, FtBalance, FtSupply, NftOwner, If, Let, Match, Map, Filter, Fold, ContractCall}
use Rattle.cl_forms.specs.declared.head.TokenNative.TheVariants.{MintFt, BurnFt, SendFt, MintNft, BurnNft, SendNft, SendStx, BurnStx}
use Rattle.cl_forms.specs.declared.keyword.Keyword.{Keyword}
use Rattle.cl_forms.specs.Keywords.{keyword_of}
use Rattle.cl_forms.specs.Heads.{Row, native}
use Rattle.cl_forms.specs.Shapes.{trees_of}
use Rattle.cl_rules.specs.Bills.{Bill, Charge, Both}
use Rattle.cl_rules.specs.Context.{Context, Names, same, Signature, signature_in, named_in, is_no_value}
use Rattle.cl_rules.specs.Verdicts.{Found, Verdict}
use Rattle.cl_rules.specs.Shapes.{Shape, First, There, Absent, NoName, NoSuch, at_first, first_named, evaluated, stated, AUint, APrincipal, Admitted}
use Rattle.cl_rules.specs.ControlShapes.{keyword_or, value_or, no_value_shape, leaf_shape, if_verdict, let_shape, match_verdict, optional_verdict, response_verdict}
use Rattle.cl_rules.specs.DataShapes.{at_literal, literal_at, var_get, var_set, map_get, map_put, map_delete, if_fungible, act_answer}
use Rattle.cl_rules.specs.NativeTypes.{fine, one, get_row}
use Rattle.std.specs.List.{list_any}
use Rattle.std.specs.Prelude.{nat_eq, length}
use Rattle.cl_rules.specs.CallShapes.{Usable, map_verdict, call_verdict, length_at, filter_verdict, fold_verdict, used, call_shape, target_of, function_of}
use Rattle.cl_rules.specs.Table.{head_shape, operator_shape, shape}
use Rattle.cl_expression_sound.specs.Fitted.{Fitted, fitted}

abbrev IsHigh : Verdict → Type 0
IsHigh v = 0 < v.found.height

abbrev AreHigh : Shape → Type 0
AreHigh sh = (fs : List Found) → IsHigh (sh.verdict fs)

high_first : {A : Type 0} (f : First A) (verdict : A → List Found → Verdict) → ((a : A) (fs : List Found) → IsHigh (verdict a fs)) → (fs : List Found) → IsHigh (at_first f verdict fs)
high_first (There a) verdict h fs = h a fs
high_first Absent verdict h fs = omega arith
high_first NoName verdict h fs = omega arith
high_first NoSuch verdict h fs = omega arith

high_value : (o p : Option PlainType) (known : Bool) → AreHigh (value_or o (value_or p (no_value_shape known)))
high_value (Some t) p known fs = omega arith
high_value None (Some t) known fs = omega arith
high_value None None known fs = omega arith

high_keyword : (o : Option Keyword) (other : Shape) → AreHigh other → AreHigh (keyword_or o other)
high_keyword (Some k) other h fs = omega arith
high_keyword None other h fs = h fs

high_leaf : (G : Context) (B : Names) (leaf : Leaf) → AreHigh (leaf_shape G B leaf)
high_leaf G B (Named x) = high_keyword (keyword_of x) _ (high_value (named_in x B) (named_in x G.constants) (is_no_value G x))
high_leaf G B leaf = λ fs. omega arith

high_if : (own : Bill) (fs : List Found) → IsHigh (if_verdict own fs)
high_if own (c ∷ a ∷ b ∷ []) = omega arith
high_if own fs = omega arith

high_optional : (own : Bill) (i a b : Found) (t : PlainType) → IsHigh (optional_verdict own i a b t)
high_optional own i a b (OptionalType t) = omega arith
high_optional own i a b t = omega arith

high_response : (own : Bill) (i a b : Found) (t : PlainType) → IsHigh (response_verdict own i a b t)
high_response own i a b (ResponseType t e) = omega arith
high_response own i a b t = omega arith

high_match : (optional : Bool) (own : Bill) (fs : List Found) → IsHigh (match_verdict optional own fs)
high_match true own (i ∷ a ∷ b ∷ []) = high_optional own i a b i.type
high_match false own (i ∷ a ∷ b ∷ []) = high_response own i a b i.type
high_match true own fs = omega arith
high_match false own fs = omega arith

high_literal : (row : Row) (o : First ℕ) (fs : List Found) → IsHigh (at_literal row o fs)
high_literal row (There m) fs = omega arith
high_literal row Absent fs = omega arith
high_literal row NoName fs = omega arith
high_literal row NoSuch fs = omega arith

high_filter : (row : Row) (u : Usable) (fs : List Found) → IsHigh (filter_verdict row u fs)
high_filter row u (f ∷ []) = omega arith
high_filter row u fs = omega arith

high_fold : (row : Row) (u : Usable) (fs : List Found) → IsHigh (fold_verdict row u fs)
high_fold row u (s ∷ i ∷ []) = omega arith
high_fold row u fs = omega arith

high_let : (row : Row) (G : Context) (B : Names) (es : List Tree) → AreHigh (let_shape row G B es)
high_let row G B [] = λ fs. omega arith
high_let row G B (ListAt bs at ∷ body) = λ fs. omega arith
high_let row G B (e ∷ body) = λ fs. omega arith

high_call : (o : Option Signature) (B : Names) (es : List Tree) → AreHigh (call_shape o B es)
high_call (Some f) B es fs = omega arith
high_call None B es fs = omega arith

high_head : (head : Head) (row : Row) (G : Context) (B : Names) (es : List Tree) → AreHigh (head_shape head row G B es)
unfolding head_shape
high_head If row G B es fs = high_if (Charge row.cost (length es)) fs
high_head Let row G B es fs = high_let row G B es fs
high_head Match row G B es fs = high_match (nat_eq (length es) 4) (Charge row.cost (length es)) fs
high_head AsMaxLen row G B es fs = high_literal row (literal_at es) fs
high_head Filter row G B es fs = high_first (used G es) (filter_verdict row) (λ u. high_filter row u) fs
high_head Fold row G B es fs = high_first (used G es) (fold_verdict row) (λ u. high_fold row u) fs
high_head Map row G B es fs = high_first (used G es) (map_verdict row) (λ u fs. omega arith) fs
high_head ContractCall row G B es fs = high_first (function_of (target_of G es) es) (λ f. call_verdict f (Both (Charge row.cost (length_at (target_of G es))) f.bound)) (λ f fs. omega arith) fs
high_head Get row G B es fs = high_first (first_named (λ x. Some x) es) (λ k. evaluated row (one (get_row k))) (λ k fs. omega arith) fs
high_head VarGet row G B es fs = high_first (first_named (λ x. named_in x G.variables) es) (var_get row) (λ k fs. omega arith) fs
high_head VarSet row G B es fs = high_first (first_named (λ x. named_in x G.variables) es) (var_set row) (λ k fs. omega arith) fs
high_head MapGet row G B es fs = high_first (first_named (λ x. named_in x G.maps) es) (map_get row) (λ k fs. omega arith) fs
high_head MapSet row G B es fs = high_first (first_named (λ x. named_in x G.maps) es) (map_put row) (λ k fs. omega arith) fs
high_head MapInsert row G B es fs = high_first (first_named (λ x. named_in x G.maps) es) (map_put row) (λ k fs. omega arith) fs
high_head MapDelete row G B es fs = high_first (first_named (λ x. named_in x G.maps) es) (map_delete row) (λ k fs. omega arith) fs
high_head FtBalance row G B es fs = high_first (first_named (λ x. if_fungible (list_any (same x) G.fungibles)) es) (λ u. evaluated row (stated (APrincipal ∷ []) (fine UintType))) (λ k fs. omega arith) fs
high_head FtSupply row G B es fs = high_first (first_named (λ x. if_fungible (list_any (same x) G.fungibles)) es) (λ u. evaluated row (stated ([]) (fine UintType))) (λ k fs. omega arith) fs
high_head NftOwner row G B es fs = high_first (first_named (λ x. named_in x G.nonfungibles) es) (λ id. evaluated row (stated (Admitted id ∷ []) (fine (OptionalType PrincipalType)))) (λ k fs. omega arith) fs
high_head (OnToken MintFt) row G B es fs = high_first (first_named (λ x. if_fungible (list_any (same x) G.fungibles)) es) (λ u. evaluated row (stated (AUint ∷ APrincipal ∷ []) (fine act_answer))) (λ k fs. omega arith) fs
high_head (OnToken BurnFt) row G B es fs = high_first (first_named (λ x. if_fungible (list_any (same x) G.fungibles)) es) (λ u. evaluated row (stated (AUint ∷ APrincipal ∷ []) (fine act_answer))) (λ k fs. omega arith) fs
high_head (OnToken SendFt) row G B es fs = high_first (first_named (λ x. if_fungible (list_any (same x) G.fungibles)) es) (λ u. evaluated row (stated (AUint ∷ APrincipal ∷ APrincipal ∷ []) (fine act_answer))) (λ k fs. omega arith) fs
high_head (OnToken MintNft) row G B es fs = high_first (first_named (λ x. named_in x G.nonfungibles) es) (λ id. evaluated row (stated (Admitted id ∷ APrincipal ∷ []) (fine act_answer))) (λ k fs. omega arith) fs
high_head (OnToken BurnNft) row G B es fs = high_first (first_named (λ x. named_in x G.nonfungibles) es) (λ id. evaluated row (stated (Admitted id ∷ APrincipal ∷ []) (fine act_answer))) (λ k fs. omega arith) fs
high_head (OnToken SendNft) row G B es fs = high_first (first_named (λ x. named_in x G.nonfungibles) es) (λ id. evaluated row (stated (Admitted id ∷ APrincipal ∷ APrincipal ∷ []) (fine act_answer))) (λ k fs. omega arith) fs
high_head (OnToken SendStx) row G B es fs = omega arith
high_head (OnToken BurnStx) row G B es fs = omega arith
high_head head row G B es fs = omega arith

high_operator : (o : Option Row) (f : Option Signature) (G : Context) (B : Names) (es : List Tree) → AreHigh (operator_shape o f G B es)
high_operator (Some row) f G B es = high_head row.head row G B es
high_operator None f G B es = high_call f B es

high_shape : (G : Context) (B : Names) (e : Tree) → AreHigh (shape G B e)
unfolding shape
high_shape G B (LeafAt leaf at) = high_leaf G B leaf
high_shape G B (TupleAt ps at) = λ fs. omega arith
high_shape G B (ListAt (Then (LeafAt (Named x) at') es) at) = high_operator (native G.version x) (signature_in x G.functions) G B (trees_of es)
high_shape G B (ListAt es at) = λ fs. omega arith

pub high : (G : Context) (B : Names) (e : Tree) (f : Found) → Fitted G B e f → 0 < f.height
high G B e f (fitted fs fit shape follows types is) = subst (λ (f : Found). 0 < f.height) is (high_shape G B e fs)
