-- Constants of contracts have their types.
use Rattle.std.proofs.Common.{◌≡◌, ℕ, Bool, true, false, List, [], ◌∷◌, ◌++◌, Option, Some, None, refl, sym, ap, subst, ◌∙◌}
use Rattle.std.specs.Prelude.{if◌then◌else◌, nat_eq, option_map, option_and_then}
use Rattle.std.specs.Cmp.Lexicographic.{pointwise}
use Rattle.std.specs.Option.{option_or}
use Rattle.cl_types.specs.Types.{PlainType}
use Rattle.cl_values.specs.Tree.{Tree as Val}
use Rattle.cl_values.specs.Inhabits.{inhabits}
use Rattle.cl_code.specs.declared.definition.Constant.{Constant as TypedConstant}
use Rattle.cl_code.specs.declared.definition.Definition.{Definition}
use Rattle.cl_code.specs.declared.definition.Definition.TheVariants.{Constant, Variable, MapOf, Fungible, NonFungible, Function, TopLevel}
use Rattle.cl_code.specs.Definitions.{form_defined}
use Rattle.cl_code.specs.Typed.{Typed, TypedAs, type_of}
use Rattle.cl_meaning.specs.Deployed.{value_of}
use Rattle.cl_rules.specs.Context.{Context, Names, named_in}
use Rattle.cl_rules.specs.Verdicts.{Found}
use Rattle.cl_rules.specs.FormRules.{Defined, nothing_defined, defined_after}
use Rattle.cl_contracts.specs.declared.parts.Parts.{Parts as Checked}
use Rattle.cl_contracts.specs.Contents.{ContractParts as Contract}
use Rattle.cl_contracts.specs.Known.{ConstantsAsKept}
use Rattle.cl_contracts.specs.Seen.{as_constant, constant_under, definition_under, type_given, IsConstant, AreConstants}
use Rattle.cl_contracts.specs.Standing.{Stands}
use Rattle.cl_contracts.specs.Standings.{StandsAs, definitions_in_order}
use Rattle.cl_contracts.proofs.Among.{or_none, one_of, all_defined, among_is}

-- ---- what definitions define

type_stands : (G : Context) (B : Names) (q : Typed) (f : Found) → Stands G B q f → type_of q ≡ f.type
type_stands G B (TypedAs e t vs ps) f s = s.5

one_more : (x : List ℕ) (cs : Names) (c : List ℕ × PlainType) → named_in x (cs ++ c ∷ []) ≡ option_or (named_in x cs) (named_in x (c ∷ []))
one_more x [] c = refl
one_more x (d ∷ cs) c = by (pointwise nat_eq d.0 x) (one_more x cs c)
  where
    by : (b : Bool) → named_in x (cs ++ c ∷ []) ≡ option_or (named_in x cs) (named_in x (c ∷ [])) →
        (if b then Some d.1 else named_in x (cs ++ c ∷ [])) ≡ option_or (if b then Some d.1 else named_in x cs) (named_in x (c ∷ []))
    by true rest = refl
    by false rest = rest

-- the type that is found of a constant is the one that is given to it
type_shown : (x : List ℕ) (c : TypedConstant) (t : PlainType) → type_given c ≡ t → named_in x ((c.name, t) ∷ []) ≡ option_map type_given (one_of as_constant x (Constant c))
type_shown x c t is = by (pointwise nat_eq c.name x)
  where
    by : (b : Bool) → (if b then Some t else None) ≡ option_map type_given (if b then Some c else None)
    by true = ap (λ (t : PlainType). Some t) (sym is)
    by false = refl

same_constants : (x : List ℕ) (cs : Names) → named_in x cs ≡ option_or (named_in x cs) None
same_constants x cs = sym (or_none (named_in x cs))

-- one definition more
with_one : (x : List ℕ) (D : Defined) (d : Definition) (fs : List Found) → StandsAs D d fs →
    named_in x (defined_after D (form_defined d) fs).context.constants ≡ option_or (named_in x D.context.constants) (option_map type_given (one_of as_constant x d))
with_one x D (Constant c) [] s = absurd s.trees
with_one x D (Constant c) (f ∷ fs) s =
    one_more x D.context.constants (c.name, f.type)
    ∙ ap (option_or (named_in x D.context.constants)) (type_shown x c f.type (type_stands D.context [] c.value f s.trees.1))
with_one x D (Variable c) fs s = same_constants x D.context.constants
with_one x D (MapOf c) fs s = same_constants x D.context.constants
with_one x D (Fungible c) fs s = same_constants x D.context.constants
with_one x D (NonFungible c) fs s = same_constants x D.context.constants
with_one x D (Function f) [] s = same_constants x D.context.constants
with_one x D (Function f) (found ∷ fs) s = same_constants x D.context.constants
with_one x D (TopLevel c) fs s = same_constants x D.context.constants

pub constants_kept : ConstantsAsKept
constants_kept before c defined ok s x =
    all_defined as_constant type_given x (λ (D : Defined). named_in x D.context.constants) (with_one x) (nothing_defined before c.principal c.version c.source_length) defined (definitions_in_order c) s
    ∙ ap (option_map type_given) (among_is as_constant x c ok)

-- ---- values

-- a value of the type that is given to a constant
pub is_constant : (x : List ℕ) (c : Checked) (t : PlainType) (v : Val) → option_map type_given (constant_under x c) ≡ Some t → inhabits v t ≡ true → IsConstant c x v
is_constant x c t v h typed = by (definition_under x c) refl h
  where
    same_type : (u : PlainType) → Some u ≡ Some t → u ≡ t
    same_type u e = cc

    by : (o : Option Definition) → definition_under x c ≡ o → option_map type_given (option_and_then as_constant o) ≡ Some t → IsConstant c x v
    by None e k = absurd cc
    by (Some (Constant d)) e k = record { constant = d; there = e; typed = subst (λ (t : PlainType). inhabits v t ≡ true) (sym (same_type (type_given d) k)) typed }
    by (Some (Variable d)) e k = absurd cc
    by (Some (MapOf d)) e k = absurd cc
    by (Some (Fungible d)) e k = absurd cc
    by (Some (NonFungible d)) e k = absurd cc
    by (Some (Function d)) e k = absurd cc
    by (Some (TopLevel d)) e k = absurd cc

-- a contract without values
pub no_constants : (c : Contract) → c.constants ≡ [] → AreConstants c
no_constants c e = record { each = λ x v h. absurd (none x v (sym (ap (value_of x) e) ∙ h)) }
  where
    none : (x : List ℕ) (v : Val) → None ≡ Some v → ⊥
    none x v h = cc
