-- What callers know of deployed contracts is what the code keeps of them.
use Rattle.std.proofs.Common.{◌≡◌, ℕ, suc, Bool, true, false, List, [], ◌∷◌, ◌++◌, Option, Some, None, refl, sym, ap, subst, ◌∙◌}
use Rattle.std.specs.Prelude.{if◌then◌else◌, nat_eq, option_map, unwrap_or}
use Rattle.std.specs.Cmp.Lexicographic.{pointwise}
use Rattle.std.specs.Option.{option_or}
use Rattle.cl_types.specs.Types.{NoType}
use Rattle.cl_c32.specs.declared.principal.Principal.{Principal}
use Rattle.cl_code.specs.declared.definition.Function.{Function as TypedFunction}
use Rattle.cl_code.specs.declared.definition.Definition.{Definition}
use Rattle.cl_code.specs.declared.definition.Definition.TheVariants.{Constant, Variable, MapOf, Fungible, NonFungible, Function, TopLevel}
use Rattle.cl_code.specs.Definitions.{form_defined}
use Rattle.cl_rules.specs.Context.{Signature, Known, known_at, signature_in, same_principal}
use Rattle.cl_rules.specs.Verdicts.{Found}
use Rattle.cl_rules.specs.FormRules.{Defined, nothing_defined, defined_after, return_of, signature_of}
use Rattle.cl_rules.specs.Acceptance.{known_of}
use Rattle.cl_contracts.specs.declared.parts.Parts.{Parts as Checked}
use Rattle.cl_contracts.specs.Contents.{ContractParts as Contract}
use Rattle.cl_contracts.specs.Seen.{function_under, as_function, contract_under, IsIndexed, AreEntries}
use Rattle.cl_contracts.specs.Standings.{AllStand, StandsAs, AreStanding, definitions_in_order}
use Rattle.cl_contracts.proofs.Among.{or_none, one_of, all_defined, among_is}
use Rattle.cl_contracts.specs.Known.{Shown, seen, shown, AreKnownAs, KnownAsDeployed, DefinedAsKept}

-- ---- what is known of functions

abbrev known_function : List ℕ → List Signature → Option Shown
known_function x fs = option_map seen (signature_in x fs)

one_more : (x : List ℕ) (fs : List Signature) (f : Signature) → known_function x (fs ++ f ∷ []) ≡ option_or (known_function x fs) (known_function x (f ∷ []))
one_more x [] f = refl
one_more x (g ∷ fs) f = by (pointwise nat_eq g.name x) (one_more x fs f)
  where
    by : (b : Bool) → known_function x (fs ++ f ∷ []) ≡ option_or (known_function x fs) (known_function x (f ∷ [])) →
        option_map seen (if b then Some g else signature_in x (fs ++ f ∷ [])) ≡ option_or (option_map seen (if b then Some g else signature_in x fs)) (known_function x (f ∷ []))
    by true rest = refl
    by false rest = rest

-- the signature of a function is what is shown of it
signature_shown : (x : List ℕ) (f : TypedFunction) (found : Found) → (return_of found).type ≡ Some f.returns → f.height ≡ suc found.height →
    known_function x (signature_of f.name f.access f.params.items found ∷ []) ≡ option_map shown (one_of as_function x (Function f))
signature_shown x f found returns height = by (pointwise nat_eq f.name x)
  where
    is : seen (signature_of f.name f.access f.params.items found) ≡ shown f
    is = λ i. record { access = f.access; params = f.params.items; returns = unwrap_or (returns i) NoType; height = sym height i }

    by : (b : Bool) → option_map seen (if b then Some (signature_of f.name f.access f.params.items found) else None) ≡ option_map shown (if b then Some f else None)
    by true = ap (λ (s : Shown). Some s) is
    by false = refl

same_functions : (x : List ℕ) (fs : List Signature) → known_function x fs ≡ option_or (known_function x fs) None
same_functions x fs = sym (or_none (known_function x fs))

-- one definition more
with_one : (x : List ℕ) (D : Defined) (d : Definition) (fs : List Found) → StandsAs D d fs →
    known_function x (defined_after D (form_defined d) fs).context.functions ≡ option_or (known_function x D.context.functions) (option_map shown (one_of as_function x d))
with_one x D (Constant c) [] s = same_functions x D.context.functions
with_one x D (Constant c) (f ∷ fs) s = same_functions x D.context.functions
with_one x D (Variable c) fs s = same_functions x D.context.functions
with_one x D (MapOf c) fs s = same_functions x D.context.functions
with_one x D (Fungible c) fs s = same_functions x D.context.functions
with_one x D (NonFungible c) fs s = same_functions x D.context.functions
with_one x D (Function f) [] s = absurd s.trees
with_one x D (Function f) (found ∷ fs) s =
    one_more x D.context.functions (signature_of f.name f.access f.params.items found)
    ∙ ap (option_or (known_function x D.context.functions)) (signature_shown x f found s.facts.0 s.facts.1)
with_one x D (TopLevel c) fs s = same_functions x D.context.functions

-- ---- contracts

known_one : (before : List Known) (p : Principal) (c : Checked) (defined : Defined) → IsIndexed c → AllStand (nothing_defined before p c.version c.source_length) (definitions_in_order c) defined → (x : List ℕ) → option_map seen (signature_in x defined.context.functions) ≡ option_map shown (function_under x c)
known_one before p c defined ok s x =
    all_defined as_function shown x (λ (D : Defined). known_function x D.context.functions) (with_one x) (nothing_defined before p c.version c.source_length) defined (definitions_in_order c) s
    ∙ ap (option_map shown) (among_is as_function x c ok)

known_more : (p : Principal) (ks : List Known) (k : Known) → known_at p ks ≡ None → known_at p (ks ++ k ∷ []) ≡ (if same_principal k.principal p then Some k else None)
known_more p [] k h = refl
known_more p (l ∷ ks) k h = by (same_principal l.principal p) refl h (known_more p ks k)
  where
    by : (b : Bool) → same_principal l.principal p ≡ b → (if b then Some l else known_at p ks) ≡ None → (known_at p ks ≡ None → known_at p (ks ++ k ∷ []) ≡ (if same_principal k.principal p then Some k else None)) →
        (if b then Some l else known_at p (ks ++ k ∷ [])) ≡ (if same_principal k.principal p then Some k else None)
    by true e none rest = absurd cc
    by false e none rest = rest none

known_stays : (p : Principal) (ks : List Known) (k l : Known) → known_at p ks ≡ Some l → known_at p (ks ++ k ∷ []) ≡ Some l
known_stays p [] k l h = absurd cc
known_stays p (m ∷ ks) k l h = by (same_principal m.principal p) h (known_stays p ks k l)
  where
    by : (b : Bool) → (if b then Some m else known_at p ks) ≡ Some l → (known_at p ks ≡ Some l → known_at p (ks ++ k ∷ []) ≡ Some l) → (if b then Some m else known_at p (ks ++ k ∷ [])) ≡ Some l
    by true e rest = e
    by false e rest = rest e

keeps : (p : Principal) (before after : List Known) (es : List (Principal × Contract)) (k : Known) → AreStanding before es after → known_at p before ≡ Some k → known_at p after ≡ Some k
keeps p before after [] k s h = ap (known_at p) (sym s) ∙ h
keeps p before after (e ∷ es) k s h =
    let one = known_of e.0 e.1.checked.source_length s.0 in
    keeps p (before ++ one ∷ []) after es k s.2 (known_stays p before one k h)

agree : (p : Principal) (before after : List Known) (es : List (Principal × Contract)) → AreEntries es → AreStanding before es after → known_at p before ≡ None → AreKnownAs (contract_under p es) (known_at p after)
agree p before after [] ok s h = subst (AreKnownAs None) (sym (ap (known_at p) (sym s) ∙ h)) tt
agree p before after (e ∷ es) ok s h = by (same_principal e.0 p) refl (agree p (before ++ one ∷ []) after es ok.1 s.2)
  where
    one : Known
    one = known_of e.0 e.1.checked.source_length s.0

    by : (b : Bool) → same_principal e.0 p ≡ b → (known_at p (before ++ one ∷ []) ≡ None → AreKnownAs (contract_under p es) (known_at p after)) → AreKnownAs (if b then Some e.1 else contract_under p es) (known_at p after)
    by true is rest =
        subst (AreKnownAs (Some e.1)) (sym (keeps p (before ++ one ∷ []) after es one s.2 (known_more p before one h ∙ ap (λ (b : Bool). if b then Some one else None) is)))
        (record { length = refl; functions = known_one before e.0 e.1.checked s.0 ok.0.indexed s.1 })
    by false is rest = rest (known_more p before one h ∙ ap (λ (b : Bool). if b then Some one else None) is)

pub known_is : KnownAsDeployed
known_is d known ok knows p = agree p [] known d.contracts ok.each knows refl

pub kept_is : DefinedAsKept
kept_is before c defined ok stands x = known_one before c.principal c defined ok stands x
