-- What callers know of contracts.
use Rattle.std.proofs.Common.{◌≡◌, ℕ, zero, suc, ◌+◌, ◌<◌, true, false, List, [], ◌∷◌, ◌++◌, length, map, take, get_or, slice_get, Option, Some, None, is_some, option_copied, Bor, refl, sym, ap, subst, ◌∙◌, append-nil}
use Rattle.std.proofs.lemmas.List.{take_more}
use Rattle.std.proofs.lemmas.List.Elements.{filter_map-append}
use Rattle.std.specs.Prelude.{option_map, option_and_then, filter_map}
use Rattle.std.specs.List.{cons_option}
use Rattle.cl_types.specs.Types.{PlainType}
use Rattle.cl_c32.specs.declared.principal.Principal.{Principal}
use Rattle.cl_forms.specs.Forms.{Form}
use Rattle.cl_code.specs.declared.definition.Definition.{Definition}
use Rattle.cl_code.specs.declared.definition.Definition.TheVariants.{Constant, Variable, MapOf, Fungible, NonFungible, Function, TopLevel}
use Rattle.cl_code.specs.declared.definition.Function.{Function as TypedFunction}
use Rattle.cl_code.specs.Definitions.{form_defined}
use Rattle.cl_meaning.specs.Deployed.{Contract}
use Rattle.cl_meaning.specs.Deploying.{in_order}
use Rattle.cl_rules.specs.Context.{Known, Signature, known_at, signature_in}
use Rattle.cl_rules.specs.FormRules.{Defined, nothing_defined}
use Rattle.cl_rules.specs.FormTyping.{FormsTyped}
use Rattle.cl_rules.specs.Acceptance.{known_of}
use Rattle.cl_rules.specs.Laws.{OneEnd}
use Rattle.cl_contracts.specs.declared.checked.Checked.{Checked}
use Rattle.cl_contracts.specs.declared.contract.Contract.{Contract as ContractOfCode}
use Rattle.cl_contracts.specs.declared.deployed.Deployed.{Deployed as DeployedOfCode}
use Rattle.cl_contracts.specs.Seen.{IsIndexed, AreIndexed, as_function, contract_under, forms_of, function_under}
use Rattle.cl_contracts.specs.Standings.{Knows, StandsAfter}
use Rattle.cl_contracts.specs.Known.{Shown, seen, shown, AreKnownAs, KnownAsDeployed, DefinedAsKept}
use Rattle.cl_contracts.proofs.Places.{get_map}
use Rattle.cl_tx.specs.Step.{return_of}
use Rattle.cl_nodes.specs.Seen.{node_with}
use Rattle.cl_nodes.specs.Known.{AreKnown}
use Rattle.cl_nodes.specs.Laws.{OneNode}
use Rattle.cl_nodes.specs.Accepting.{type_returned, with_type}

-- ---- one thing is known of contracts

same_forms : (o : Option (List Form)) (a b : List Form) → o ≡ Some a → o ≡ Some b → a ≡ b
same_forms o a b h k = one (sym h ∙ k)
  where
    one : Some a ≡ Some b → a ≡ b
    one e = cc

one_known : OneEnd → (before : List Known) (cs : List Contract) (a b : List Known) → AreKnown before cs a → AreKnown before cs b → a ≡ b
one_known one before [] a b h k = sym h ∙ k
one_known one before (c ∷ cs) a b h k =
    let forms : k.0 ≡ h.0 = same_forms (in_order c.forms) k.0 h.0 k.2 h.2 in
    let defined : k.1 ≡ h.1 = one (nothing_defined before c.principal c.version c.source_length) k.1 h.1 h.0 (subst (λ fs. FormsTyped (nothing_defined before c.principal c.version c.source_length) fs k.1) forms k.3) h.3 in
    one_known one (before ++ known_of c.principal c.source_length h.1 ∷ []) cs a b h.4
    (subst (λ (D : Defined). AreKnown (before ++ known_of c.principal c.source_length D ∷ []) cs b) defined k.4)

pub one_node : OneEnd → OneNode
one_node one n a b h k = h.is ∙ ap (λ ks. node_with ks n) (one_known one [] n.contracts a.known b.known h.known k.known) ∙ sym k.is

-- ---- one more contract

pub known_push : (before : List Known) (cs : List Contract) (after : List Known) (c : Contract) (forms : List Form) (defined : Defined) → AreKnown before cs after → in_order c.forms ≡ Some forms → FormsTyped (nothing_defined after c.principal c.version c.source_length) forms defined →
    AreKnown before (cs ++ c ∷ []) (after ++ known_of c.principal c.source_length defined ∷ [])
known_push before [] after c forms defined h order typed = subst (λ ks. AreKnown ks (c ∷ []) (after ++ known_of c.principal c.source_length defined ∷ [])) (sym h) (forms, defined, order, typed, refl)
known_push before (d ∷ cs) after c forms defined h order typed = (h.0, h.1, h.2, h.3, known_push (before ++ known_of d.principal d.source_length h.1 ∷ []) cs after c forms defined h.4 order typed)

-- ---- a principal

module _ (d : DeployedOfCode) (law : KnownAsDeployed) (indexed : AreIndexed d) (known : List Known) (knows : Knows d known) (p : Principal) where
  -- where no contract is deployed none is known
  pub unknown : contract_under p d.contracts ≡ None → known_at p known ≡ None
  unknown = by (contract_under p d.contracts) (known_at p known) (law d known indexed knows p)
    where
      by : (o : Option ContractOfCode) (q : Option Known) → AreKnownAs o q → o ≡ None → q ≡ None
      by None None h e = refl
      by None (Some k) h e = absurd h
      by (Some c) None h e = absurd h
      by (Some c) (Some k) h e = absurd cc

  -- and where one is, one is
  pub is_known : (c : ContractOfCode) → contract_under p d.contracts ≡ Some c → (k : Known) × (known_at p known ≡ Some k)
  is_known c = by (contract_under p d.contracts) (known_at p known) (law d known indexed knows p)
    where
      by : (o : Option ContractOfCode) (q : Option Known) → AreKnownAs o q → o ≡ Some c → (k : Known) × (q ≡ Some k)
      by None q h e = absurd cc
      by (Some c) None h e = absurd h
      by (Some c) (Some k) h e = (k, refl)

-- ---- return types

module _ (law : DefinedAsKept) (before : List Known) (c : Checked) (defined : Defined) (indexed : IsIndexed c) (stands : StandsAfter before c defined) where
  returns_so : (f : TypedFunction) (o : Option Signature) → option_map seen o ≡ Some (shown f) → option_map (λ (g : Signature). g.returns) o ≡ Some f.returns
  returns_so f None h = absurd cc
  returns_so f (Some g) h = ap Some (same (seen g) (shown f) h)
    where
      same : (a b : Shown) → Some a ≡ Some b → a.returns ≡ b.returns
      same a b e = ap (λ (s : Shown). s.returns) (one e)
        where
          one : Some a ≡ Some b → a ≡ b
          one k = cc

  function_at : (n : ℕ) (f : TypedFunction) → slice_get c.definitions.items n ≡ Some (Function f) → function_under f.name c ≡ Some f
  function_at n f there =
      let form = get_map c.definitions.items n ∙ ap (option_map form_defined) there in
      let place = indexed.placed f.name n (ap (option_and_then (λ (g : Form). g.name)) form) in
      ap (λ (o : Option ℕ). option_and_then as_function (option_and_then (slice_get c.definitions.items) o)) place ∙ ap (option_and_then as_function) there

  type_at : (n : ℕ) (d : Definition) → slice_get c.definitions.items n ≡ Some d → return_of defined (form_defined d) ≡ type_returned d
  type_at n (Function f) there = returns_so f (signature_in f.name defined.context.functions) (law before c defined indexed stands f.name ∙ ap (option_map shown) (function_at n f there))
  type_at n (Constant d) there = refl
  type_at n (Variable d) there = refl
  type_at n (MapOf d) there = refl
  type_at n (Fungible d) there = refl
  type_at n (NonFungible d) there = refl
  type_at n (TopLevel d) there = refl

  each_type : (ds : List Definition) → ((n : ℕ) (d : Definition) → slice_get ds n ≡ Some d → return_of defined (form_defined d) ≡ type_returned d) → filter_map (return_of defined) (map form_defined ds) ≡ filter_map type_returned ds
  each_type [] h = refl
  each_type (d ∷ ds) h = λ i. cons_option (h zero d refl i) (each_type ds (λ n e k. h (suc n) e k) i)

  -- the functions' return types are those of the typed functions
  pub types_told : filter_map (return_of defined) (forms_of c) ≡ filter_map type_returned c.definitions.items
  types_told = each_type c.definitions.items type_at

-- one more definition
pub one_more_type : (ds : List Definition) (i : ℕ) (d : Definition) (row grown : List PlainType) → d ≡ get_or ds i d → i < length ds → row ≡ filter_map type_returned (take i ds) → grown ≡ with_type row (type_returned d) → grown ≡ filter_map type_returned (take (i + 1) ds)
one_more_type ds i d row grown is low before after =
    after ∙ ap (λ (r : List PlainType). with_type r (type_returned d)) before ∙ with (type_returned d)
    ∙ sym (ap (filter_map type_returned) (take_more ds i d low ∙ ap (λ (x : Definition). take i ds ++ x ∷ []) (sym is)) ∙ filter_map-append type_returned (take i ds) (d ∷ []))
  where
    with : (o : Option PlainType) → with_type (filter_map type_returned (take i ds)) o ≡ filter_map type_returned (take i ds) ++ cons_option o []
    with None = sym (append-nil (filter_map type_returned (take i ds)))
    with (Some t) = refl

-- ---- what a look-up gives

pub some_copied : {A : Type 0} (o : Option (Bor A)) → is_some o ≡ true → (a : A) × (option_copied o ≡ Some a)
some_copied None e = absurd cc
some_copied (Some b) e = (b.now, refl)

pub none_copied : {A : Type 0} (o : Option (Bor A)) → is_some o ≡ false → option_copied o ≡ None
none_copied None e = refl
none_copied (Some b) e = absurd cc

pub none_mapped : {A B : Type 0} (f : Bor A → B) (o : Option (Bor A)) → is_some o ≡ false → option_map f o ≡ None
none_mapped f None e = refl
none_mapped f (Some b) e = absurd cc
