-- Natives with another number of arguments than they take.
use Rattle.std.proofs.Common.{◌≡◌, ◌+◌, Bool, true, false, List, [], ◌∷◌, length, Some, Err, refl, ap, sym, ◌∙◌, arith}
use Rattle.std.specs.Prelude.{◌||◌, not, drop}
use Rattle.std.proofs.lemmas.Bool.{leb-false}
use Rattle.cl_types.specs.declared.fault.Fault.{Fault}
use Rattle.cl_types.specs.declared.fault.Fault.TheVariants.{Refused}
use Rattle.cl_sexpr.specs.declared.sexpr.Span.{Span}
use Rattle.cl_sexpr.specs.declared.rule.Rule.{Rule}
use Rattle.cl_sexpr.specs.declared.rule.Rule.TheVariants.{ArgumentCount}
use Rattle.cl_sexpr.specs.declared.rule.Break.{Break}
use Rattle.cl_sexpr.specs.Tree.{Tree, LeafAt, ListAt, TupleAt, forest, forest_depth}
use Rattle.cl_forms.specs.declared.head.Head.{Head}
use Rattle.cl_forms.specs.declared.head.Head.TheVariants.{OnValues, OnToken, TupleOf, AsMaxLen, Get, VarGet, VarSet, MapGet, MapSet, MapInsert, MapDelete, FtBalance, FtSupply, StxBalance, NftOwner, Print, If, Let, Begin, And, Or, Asserts, Unwrap, UnwrapErr, Try, Match, AsContract, Map, Filter, Fold, ContractCall}
use Rattle.cl_forms.specs.declared.head.TokenNative.TheVariants.{MintFt, BurnFt, SendFt, MintNft, BurnNft, SendNft, SendStx, BurnStx}
use Rattle.cl_forms.specs.Heads.{row_of, takes}
use Rattle.cl_rules.specs.Faults.{shape_rules, when}
use Rattle.cl_rules.specs.Context.{Context, Names}
use Rattle.cl_rules.specs.CallShapes.{target_of, function_of, is_unlike_function, used, takes_no}
use Rattle.cl_rules.specs.Table.{head_shape}
use Rattle.cl_typing.specs.Verdicts.{first_rule}
use Rattle.cl_judging.specs.declared.context.Context.{Context as CodeContext}
use Rattle.cl_judging.specs.Walking.{ChecksHead}
use Rattle.cl_judging.proofs.Lists.{shape_fails}

count_first : (b : Bool) (rest : List Rule) → b ≡ true → first_rule (when b ArgumentCount rest) ≡ Some ArgumentCount
count_first b rest h = ap (λ (x : Bool). first_rule (when x ArgumentCount rest)) h

short_rules : (h : Head) (G : Context) (B : Names) (es : List Tree) → takes (row_of h).arity (length es) ≡ false → first_rule (shape_rules (head_shape h (row_of h) G B es).faults) ≡ Some ArgumentCount
unfolding head_shape
short_rules (OnValues n) G B es k = count_first _ _ (ap not k)
short_rules (OnToken MintFt) G B es k = count_first _ _ (ap not k)
short_rules (OnToken BurnFt) G B es k = count_first _ _ (ap not k)
short_rules (OnToken SendFt) G B es k = count_first _ _ (ap not k)
short_rules (OnToken MintNft) G B es k = count_first _ _ (ap not k)
short_rules (OnToken BurnNft) G B es k = count_first _ _ (ap not k)
short_rules (OnToken SendNft) G B es k = count_first _ _ (ap not k)
short_rules (OnToken SendStx) G B es k = count_first _ _ (ap not k)
short_rules (OnToken BurnStx) G B es k = count_first _ _ (ap not k)
short_rules TupleOf G B es k = count_first _ _ (ap not k)
short_rules AsMaxLen G B es k = count_first _ _ (ap not k)
short_rules Get G B es k = count_first _ _ (ap not k)
short_rules VarGet G B es k = count_first _ _ (ap not k)
short_rules VarSet G B es k = count_first _ _ (ap not k)
short_rules MapGet G B es k = count_first _ _ (ap not k)
short_rules MapSet G B es k = count_first _ _ (ap not k)
short_rules MapInsert G B es k = count_first _ _ (ap not k)
short_rules MapDelete G B es k = count_first _ _ (ap not k)
short_rules FtBalance G B es k = count_first _ _ (ap not k)
short_rules FtSupply G B es k = count_first _ _ (ap not k)
short_rules StxBalance G B es k = count_first _ _ (ap not k)
short_rules NftOwner G B es k = count_first _ _ (ap not k)
short_rules Print G B es k = count_first _ _ (ap not k)
short_rules If G B es k = count_first _ _ (ap not k)
short_rules Begin G B es k = count_first _ _ (ap not k)
short_rules And G B es k = count_first _ _ (ap not k)
short_rules Or G B es k = count_first _ _ (ap not k)
short_rules Asserts G B es k = count_first _ _ (ap not k)
short_rules Unwrap G B es k = count_first _ _ (ap not k)
short_rules UnwrapErr G B es k = count_first _ _ (ap not k)
short_rules Try G B es k = count_first _ _ (ap not k)
short_rules Match G B es k = count_first _ _ (ap not k)
short_rules AsContract G B es k = count_first _ _ (ap not k)
short_rules Let G B [] k = refl
short_rules Let G B (LeafAt leaf s ∷ []) k = refl
short_rules Let G B (TupleAt ps s ∷ []) k = refl
short_rules Let G B (ListAt fs s ∷ []) k = refl
short_rules Let G B (e ∷ d ∷ es) k = absurd (omega (arith, leb-false 2 (length (e ∷ d ∷ es)) k))
short_rules Map G B es k = count_first _ _ (λ i. not (k i) || takes_no (used G es) (length (drop 1 es)))
short_rules Filter G B es k = count_first _ _ (λ i. not (k i) || takes_no (used G es) (length (drop 1 es)))
short_rules Fold G B es k = count_first _ _ (λ i. not (k i) || takes_no (used G es) (length (drop 1 es)))
short_rules ContractCall G B es k = count_first _ _ (λ i. not (k i) || is_unlike_function (function_of (target_of G es) es) (drop 2 es))

pub head_short : (c : CodeContext) (h : Head) (B : Names) (args : List Tree) (at : Span) (b : Bool) (f : Fault Break) → b ≡ takes (row_of h).arity (length args) → b ≡ false → f ≡ Refused (record { rule = ArgumentCount; span = at }) → ChecksHead c h B args at (Err f)
head_short c h B args at b f is short fails = shape_fails c (λ G. head_shape h (row_of h) G B args) at (forest_depth (forest args) + 1) ArgumentCount f (λ G shows. short_rules h G B args (sym is ∙ short)) fails

-- a native that takes so many arguments, by another name for it
pub enough_as : (g h : Head) (es : List Tree) (b : Bool) → g ≡ h → b ≡ takes (row_of h).arity (length es) → b ≡ true → takes (row_of g).arity (length es) ≡ true
enough_as g h es b is test enough = ap (λ (k : Head). takes (row_of k).arity (length es)) is ∙ (sym test ∙ enough)
