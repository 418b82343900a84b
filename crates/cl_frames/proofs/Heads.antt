-- Natives by their names, and what each that isn't on values alone is.
use Rattle.std.proofs.Common.{◌≡◌, ◌<◌, ◌∷◌, [], ℕ, suc, List, length, get_or, map, true, Option, Some, None, refl, sym, ap, ◌∙◌, arith}
use Rattle.std.specs.Prelude.{◌==◌, nat_le, nat_lt}
use Rattle.std.proofs.lemmas.Bool.Decides.{nat_tests}
use Rattle.cl_shapes.specs.declared.name.CostName.{CostName}
use Rattle.cl_sexpr.specs.declared.sexpr.Span.{Span}
use Rattle.cl_sexpr.specs.Tree.{Tree, forest}
use Rattle.cl_values.specs.Tree.{Tree as Val}
use Rattle.cl_forms.specs.declared.head.Head.{Head}
use Rattle.cl_forms.specs.declared.head.TokenNative.TheVariants as tokens
use Rattle.cl_forms.specs.declared.version.Version.{Version}
use Rattle.cl_forms.specs.Heads.{row_of, takes}
use Rattle.cl_forms.specs.HeadNames.{name_of, has_head}
use Rattle.cl_code.proofs.Versions.{row_by_name, row_head}
use Rattle.cl_forms.proofs.Bindings.{trees_forest}
use Rattle.cl_events.specs.State.{State}
use Rattle.cl_code.specs.declared.op.PartsNative.{PartsNative}
use Rattle.cl_code.specs.declared.op.PartsNative.TheVariants as on_parts
use Rattle.cl_code.specs.declared.op.NameNative.{NameNative}
use Rattle.cl_code.specs.declared.op.NameNative.TheVariants as on_name
use Rattle.cl_code.specs.declared.op.Word.{Word}
use Rattle.cl_code.specs.OpNames.{parts_head, name_head}
use Rattle.cl_code.specs.Expression.{word, headed}
use Rattle.cl_code.specs.Typed.{Typed, expression_of}
use Rattle.cl_meaning.specs.Answers.{Answer, and_then}
use Rattle.cl_meaning.specs.Deployed.{native_of}
use Rattle.cl_meaning.specs.Scope.{Scope, Take, Enter, parts, home}
use Rattle.cl_meaning.specs.Control.{if_form, begin_form, and_form, or_form, asserts_form, unwrap_form, unwrap_err_form, try_form, as_contract_form}
use Rattle.cl_meaning.specs.Values.{get_form}
use Rattle.cl_meaning.specs.Data.{var_get_form, var_set_form, map_get_form, map_set_form, map_insert_form, map_delete_form}
use Rattle.cl_meaning.specs.Tokens.{print_form, stx_balance_form, token_form, ft_balance_form, ft_supply_form, nft_owner_form}
use Rattle.cl_meaning.specs.Meaning.{head_form, node}
use Rattle.cl_meaning.proofs.Equations.{node_of_row}
use Rattle.cl_frames.specs.Tails.{taking_of, with_nothing, with_one, with_all}
use Rattle.cl_frames.specs.declared.taking.Taking.TheVariants.{Nothing, One, All}
use Rattle.cl_frames.specs.Seen.{IsOfVersion}
use Rattle.cl_frames.proofs.Forms.{one_of}

-- ---- natives by their names

-- the row of a native in a scope of a version that has it
pub row_in_scope : (v : Version) (S : Scope) (h : Head) → IsOfVersion v S → has_head v h ≡ true → native_of (name_of h) (home S) ≡ Some (row_of h)
row_in_scope v S h is had = is (name_of h) ∙ row_by_name v h had

-- a list that begins with a native's name
pub by_head : (v : Version) (take : Take) (enter : Enter) (S : Scope) → IsOfVersion v S → (h : Head) → has_head v h ≡ true → (es : List Tree) (at head : Span) (s : State) → node take enter S (headed (name_of h) head es at) s ≡ head_form h (row_of h).cost take enter S es s
by_head v take enter S is h had es at head s =
    node_of_row take enter S (name_of h) (row_of h) (forest es) at head s (row_in_scope v S h is had)
    ∙ ap (λ l. head_form (row_of h).head (row_of h).cost take enter S l s) (trees_forest es)
    ∙ ap (λ k. head_form k (row_of h).cost take enter S es s) (row_head h)

-- ---- natives all of whose arguments are parts

abbrev pub parts_form : PartsNative → Take → Scope → List Tree → State → Answer Val
parts_form on_parts.If take S es s = if_form take S es s
parts_form on_parts.Begin take S es s = begin_form take S es s
parts_form on_parts.And take S es s = and_form take S es s
parts_form on_parts.Or take S es s = or_form take S es s
parts_form on_parts.Asserts take S es s = asserts_form take S es s
parts_form on_parts.Unwrap take S es s = unwrap_form take S es s
parts_form on_parts.UnwrapErr take S es s = unwrap_err_form take S es s
parts_form on_parts.Try take S es s = try_form take S es s
parts_form on_parts.AsContract take S es s = as_contract_form take S es s
parts_form on_parts.Print take S es s = print_form take S es s
parts_form on_parts.StxBalance take S es s = stx_balance_form take S es s
parts_form on_parts.SendStx take S es s = token_form tokens.SendStx take S es s
parts_form on_parts.BurnStx take S es s = token_form tokens.BurnStx take S es s

parts_native : (n : PartsNative) (cost : CostName) (take : Take) (enter : Enter) (S : Scope) (es : List Tree) (s : State) → head_form (parts_head n) cost take enter S es s ≡ parts_form n take S es s
unfolding head_form
parts_native on_parts.If cost take enter S es s = refl
parts_native on_parts.Begin cost take enter S es s = refl
parts_native on_parts.And cost take enter S es s = refl
parts_native on_parts.Or cost take enter S es s = refl
parts_native on_parts.Asserts cost take enter S es s = refl
parts_native on_parts.Unwrap cost take enter S es s = refl
parts_native on_parts.UnwrapErr cost take enter S es s = refl
parts_native on_parts.Try cost take enter S es s = refl
parts_native on_parts.AsContract cost take enter S es s = refl
parts_native on_parts.Print cost take enter S es s = refl
parts_native on_parts.StxBalance cost take enter S es s = refl
parts_native on_parts.SendStx cost take enter S es s = refl
parts_native on_parts.BurnStx cost take enter S es s = refl

pub parts_at : (n m : PartsNative) (cost : CostName) (take : Take) (enter : Enter) (S : Scope) (es : List Tree) (s : State) → n ≡ m → head_form (parts_head n) cost take enter S es s ≡ parts_form m take S es s
parts_at n m cost take enter S es s h = parts_native n cost take enter S es s ∙ ap (λ k. parts_form k take S es s) h

-- so many parts
pub counts : (n m : PartsNative) (count : ℕ) → n ≡ m → takes (row_of (parts_head n)).arity count ≡ true → takes (row_of (parts_head m)).arity count ≡ true
counts n m count h k = ap (λ l. takes (row_of (parts_head l)).arity count) (sym h) ∙ k

pub exactly : (m n : ℕ) → (m == n) ≡ true → m ≡ n
exactly m n h = grind (arith, nat_tests)

pub fewer : (m n : ℕ) → nat_lt m n ≡ true → m < n
fewer m n h = grind (arith, nat_tests)

pub some_parts : (n : ℕ) → nat_le 1 n ≡ true → 0 < n
some_parts n h = grind (arith, nat_tests)

-- ---- natives whose first argument is a name

too_many : (x : Typed) (xs : List Typed) → (suc (length (x ∷ xs)) == 1) ≡ true → ⊥
too_many x xs h = let count : suc (length (x ∷ xs)) ≡ 1 = exactly (suc (length (x ∷ xs))) 1 h in omega (arith, count)

pub nothing_at : (n : NameNative) (cost : CostName) (take : Take) (enter : Enter) (S : Scope) (w : Word) (xs : List Typed) (s : State) → Nothing ≡ taking_of n → takes (row_of (name_head n)).arity (suc (length xs)) ≡ true → head_form (name_head n) cost take enter S (word w ∷ map expression_of xs) s ≡ with_nothing n S w.name s
unfolding head_form var_get_form ft_supply_form
nothing_at on_name.VarGet cost take enter S w [] s h k = refl
nothing_at on_name.FtSupply cost take enter S w [] s h k = refl
nothing_at on_name.VarGet cost take enter S w (x ∷ xs) s h k = absurd (too_many x xs k)
nothing_at on_name.FtSupply cost take enter S w (x ∷ xs) s h k = absurd (too_many x xs k)
nothing_at n cost take enter S w xs s h k = absurd cc

pub is_one : (n : NameNative) (count : ℕ) → One ≡ taking_of n → takes (row_of (name_head n)).arity (suc count) ≡ true → count ≡ 1
is_one on_name.Get count h k = omega (arith, exactly (suc count) 2 k)
is_one on_name.VarSet count h k = omega (arith, exactly (suc count) 2 k)
is_one on_name.MapGet count h k = omega (arith, exactly (suc count) 2 k)
is_one on_name.MapDelete count h k = omega (arith, exactly (suc count) 2 k)
is_one on_name.FtBalance count h k = omega (arith, exactly (suc count) 2 k)
is_one on_name.NftOwner count h k = omega (arith, exactly (suc count) 2 k)
is_one n count h k = absurd cc

one_form : (n : NameNative) (cost : CostName) (take : Take) (enter : Enter) (S : Scope) (w : Word) (a : Typed) (s : State) → One ≡ taking_of n → head_form (name_head n) cost take enter S (word w ∷ expression_of a ∷ []) s ≡ and_then (take S (expression_of a) s) (with_one n S w.name)
unfolding head_form get_form var_set_form map_get_form map_delete_form ft_balance_form nft_owner_form
one_form on_name.Get cost take enter S w a s h = refl
one_form on_name.VarSet cost take enter S w a s h = refl
one_form on_name.MapGet cost take enter S w a s h = refl
one_form on_name.MapDelete cost take enter S w a s h = refl
one_form on_name.FtBalance cost take enter S w a s h = refl
one_form on_name.NftOwner cost take enter S w a s h = refl
one_form n cost take enter S w a s h = absurd cc

pub one_at : (n : NameNative) (cost : CostName) (take : Take) (enter : Enter) (S : Scope) (w : Word) (xs : List Typed) (a : Typed) (s : State) → One ≡ taking_of n → length xs ≡ 1 → a ≡ get_or xs 0 a → head_form (name_head n) cost take enter S (word w ∷ map expression_of xs) s ≡ and_then (take S (expression_of a) s) (with_one n S w.name)
one_at n cost take enter S w xs a s h count x =
    ap (λ ys. head_form (name_head n) cost take enter S (word w ∷ map expression_of ys) s) (one_of xs count a x) ∙ one_form n cost take enter S w a s h

pub all_at : (n : NameNative) (cost : CostName) (take : Take) (enter : Enter) (S : Scope) (w : Word) (es : List Tree) (s : State) → All ≡ taking_of n → head_form (name_head n) cost take enter S (word w ∷ es) s ≡ and_then (parts take S es s) (with_all n S w.name)
unfolding head_form map_set_form map_insert_form token_form
all_at on_name.MapSet cost take enter S w es s h = refl
all_at on_name.MapInsert cost take enter S w es s h = refl
all_at on_name.MintFt cost take enter S w es s h = refl
all_at on_name.BurnFt cost take enter S w es s h = refl
all_at on_name.SendFt cost take enter S w es s h = refl
all_at on_name.MintNft cost take enter S w es s h = refl
all_at on_name.BurnNft cost take enter S w es s h = refl
all_at on_name.SendNft cost take enter S w es s h = refl
all_at n cost take enter S w es s h = absurd cc
