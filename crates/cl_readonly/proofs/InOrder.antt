-- The definitions of a contract, one after another in the order of evaluation.
use Rattle.std.proofs.Common.{◌≡◌, ℕ, zero, suc, ◌+◌, ◌<◌, ◌≤◌, Bool, true, false, List, [], ◌∷◌, ◌++◌, length, take, drop, get_or, slice_get, Option, Some, None, refl, sym, ap, subst, ◌∙◌, arith}
use Rattle.std.specs.Prelude.{option_map, if◌then◌else◌}
use Rattle.std.proofs.lemmas.List.{take_all, take_more, take-append-drop}
use Rattle.std.proofs.lemmas.Option.{slice_get-map}
use Rattle.indexmap.specs.IndexSet.{insert_key}
use Rattle.cl_types.specs.Types.{PlainType}
use Rattle.cl_types.specs.declared.sized.Access.{Access}
use Rattle.cl_values.proofs.Lists.{rest_of}
use Rattle.cl_sexpr.specs.Tree.{Tree, Leaf}
use Rattle.cl_forms.specs.declared.version.Version.{Version}
use Rattle.cl_forms.specs.Forms.{Form, FunctionForm}
use Rattle.cl_forms.specs.Heads.{native}
use Rattle.cl_forms.specs.Names.{same, name_at, Names as NamesAt, is_one_of}
use Rattle.cl_forms.specs.Order.{is_in}
use Rattle.cl_forms.specs.Writes.{Writes, has_writing_body, has_write}
use Rattle.cl_code.specs.Typed.{expression_of}
use Rattle.cl_code.specs.Definitions.{form_defined, function_form}
use Rattle.cl_code.specs.declared.definition.Function.{Function}
use Rattle.cl_code.specs.declared.definition.Definition.{Definition}
use Rattle.cl_code.specs.declared.definition.Definition.TheVariants.{Constant, Variable, MapOf, Fungible, NonFungible, Function as AFunction, TopLevel}
use Rattle.cl_rules.specs.Context.{Names, Known, Signature}
use Rattle.cl_rules.specs.Verdicts.{Found}
use Rattle.cl_rules.specs.FormRules.{Defined, nothing_defined, signature_of, defined_after}
use Rattle.cl_contracts.specs.declared.checked.Checked.{Checked}
use Rattle.cl_contracts.specs.Seen.{IsIndexed, forms_of, kind_at}
use Rattle.cl_contracts.specs.Standing.{Stands}
use Rattle.cl_contracts.specs.Standings.{StandsAs, AllStand, StandsAfter}
use Rattle.cl_contracts.proofs.InOrder.{one_part, at_places, next_place}
use Rattle.cl_readonly.specs.Writing.{AreFunctions}
use Rattle.cl_readonly.specs.Functions.{HaveOwnNames, AreThoseThatWrite, BodyNames, with_form}
use Rattle.cl_readonly.proofs.Walking.{Tells}
use Rattle.cl_readonly.proofs.Noting.{Noted, noted_past, noted_more, place_in, same_form, within}

pub there_at : {A : Type 0} (xs : List A) (i : ℕ) (x : A) → i < length xs → x ≡ get_or xs i x → slice_get xs i ≡ Some x
there_at [] i x lt at = absurd (omega (arith, lt))
there_at (y ∷ xs) zero x lt at = ap (λ z. Some z) (sym at)
there_at (y ∷ xs) (suc i) x lt at = there_at xs i x (omega (arith, lt)) at

pub same_definition : (d e : Definition) → Some d ≡ Some e → d ≡ e
same_definition d e h = cc

pub not_none : (d : Definition) → None ≡ Some d → ⊥
not_none d h = cc

-- ---- one definition

-- what becomes of the functions so far at a definition
abbrev pub IsWith : (Leaf → List ℕ → Bool) → Defined → Definition → List (List ℕ) → List (List ℕ) → Type 0
IsWith is_public D d fs gs = (gs ≡ with_form is_public fs (form_defined d)) × BodyNames D.context is_public fs (kind_at d)

chosen : (b c : Bool) (xs ys zs : List (List ℕ)) → b ≡ c → zs ≡ (if b then xs else ys) → zs ≡ (if c then xs else ys)
chosen b c xs ys zs e h = h ∙ ap (λ (d : Bool). if d then xs else ys) e

pub function_with : (is_public : Leaf → List ℕ → Bool) (D : Defined) (f : Function) (fs gs : List (List ℕ)) (found : List Found) (b : Bool) → StandsAs D (AFunction f) found →
    ((B : Names) (g : Found) → Stands D.context B f.body g → Tells fs is_public D.context f.body b) → gs ≡ (if b then insert_key same fs f.name else fs) → IsWith is_public D (AFunction f) fs gs
function_with is_public D f fs gs found b stands tells is =
    let one = one_part D.context f.params.items _ f.body found stands.trees in
    let told = tells f.params.items one.0 one.2 in
    (chosen b (has_write (is_one_of fs) is_public (expression_of f.body)) (insert_key same fs f.name) fs gs told.0 is, λ k. told.1 (told.0 ∙ k))

-- a definition that is no function
abbrev pub is_function : Definition → Bool
is_function (AFunction f) = true
is_function d = false

pub other_with : (is_public : Leaf → List ℕ → Bool) (D : Defined) (d : Definition) (fs : List (List ℕ)) → is_function d ≡ false → IsWith is_public D d fs fs
other_with is_public D (AFunction f) fs h = absurd cc
other_with is_public D (Constant c) fs h = (refl, tt)
other_with is_public D (Variable v) fs h = (refl, tt)
other_with is_public D (MapOf m) fs h = (refl, tt)
other_with is_public D (Fungible t) fs h = (refl, tt)
other_with is_public D (NonFungible t) fs h = (refl, tt)
other_with is_public D (TopLevel e) fs h = (refl, tt)

pub not_function : (d : Definition) → ((f : Function) → d ≡ AFunction f → ⊥) → is_function d ≡ false
not_function (AFunction f) h = absurd (h f refl)
not_function (Constant c) h = refl
not_function (Variable v) h = refl
not_function (MapOf m) h = refl
not_function (Fungible t) h = refl
not_function (NonFungible t) h = refl
not_function (TopLevel e) h = refl

other_functions : (D : Defined) (d : Definition) (found : List Found) → is_function d ≡ false → (defined_after D (form_defined d) found).context.functions ≡ D.context.functions
other_functions D (AFunction f) found h = absurd cc
other_functions D (Constant c) [] h = refl
other_functions D (Constant c) (f ∷ fs) h = refl
other_functions D (Variable v) found h = refl
other_functions D (MapOf m) found h = refl
other_functions D (Fungible t) found h = refl
other_functions D (NonFungible t) found h = refl
other_functions D (TopLevel e) found h = refl

no_function : (d : Definition) (access : Access) (params : List (List ℕ × PlainType)) (body : Tree) → is_function d ≡ false → (form_defined d).kind ≡ FunctionForm access params body → ⊥
no_function (AFunction f) access params body h k = cc
no_function (Constant c) access params body h k = cc
no_function (Variable v) access params body h k = cc
no_function (MapOf m) access params body h k = cc
no_function (Fungible t) access params body h k = cc
no_function (NonFungible t) access params body h k = cc
no_function (TopLevel e) access params body h k = cc

-- the version stays
pub version_after : (D : Defined) (d : Definition) (found : List Found) → (defined_after D (form_defined d) found).context.version ≡ D.context.version
version_after D (Constant c) [] = refl
version_after D (Constant c) (f ∷ fs) = refl
version_after D (Variable v) found = refl
version_after D (MapOf m) found = refl
version_after D (Fungible t) found = refl
version_after D (NonFungible t) found = refl
version_after D (AFunction f) [] = refl
version_after D (AFunction f) (g ∷ gs) = refl
version_after D (TopLevel e) found = refl

-- ---- one place after another

module _ (checked : Checked) (is_public : Leaf → List ℕ → Bool) (names : IsIndexed checked) (own : HaveOwnNames checked.version (forms_of checked)) where
  form_there : (n : ℕ) (d : Definition) → slice_get checked.definitions.items n ≡ Some d → slice_get (forms_of checked) n ≡ Some (form_defined d)
  form_there n d at = slice_get-map form_defined checked.definitions.items n ∙ ap (option_map form_defined) at

  once : (x : List ℕ) (n m : ℕ) → name_at (forms_of checked) n ≡ Some x → name_at (forms_of checked) m ≡ Some x → n ≡ m
  once x n m h k = same_place n m (sym (names.placed x n h) ∙ names.placed x m k)
    where
      same_place : (n m : ℕ) → Some n ≡ Some m → n ≡ m
      same_place n m h = cc

  other_noted : (D : Defined) (d : Definition) (n : ℕ) (front : List ℕ) (found : List Found) (fs gs : List (List ℕ)) → is_function d ≡ false → slice_get checked.definitions.items n ≡ Some d →
      IsWith is_public D d fs gs → Noted checked.version (forms_of checked) is_public D.context.functions fs front → Noted checked.version (forms_of checked) is_public (defined_after D (form_defined d) found).context.functions gs (front ++ n ∷ [])
  other_noted D d n front found fs gs h at is noted =
      let same_ones : fs ≡ gs = (other_with is_public D d fs h).0 ∙ sym is.0 in
      subst (λ (ss : List Signature). Noted checked.version (forms_of checked) is_public ss gs (front ++ n ∷ [])) (sym (other_functions D d found h))
      (subst (λ (xs : List (List ℕ)). Noted checked.version (forms_of checked) is_public D.context.functions xs (front ++ n ∷ [])) same_ones
      (noted_past checked.version (forms_of checked) is_public D.context.functions fs front n
      (λ form access params body there kind. no_function d access params body h (ap (λ (f : Form). f.kind) (same_form (form_defined d) form (sym (form_there n d at) ∙ there)) ∙ kind)) noted))

  -- with the definition at a place
  definition_noted : (D : Defined) (d : Definition) (n : ℕ) (front : List ℕ) (found : List Found) (fs gs : List (List ℕ)) → D.context.version ≡ checked.version → slice_get checked.definitions.items n ≡ Some d → StandsAs D d found → ((m : ℕ) → NamesAt (forms_of checked) n m → is_in m front ≡ true) →
      IsWith is_public D d fs gs → Noted checked.version (forms_of checked) is_public D.context.functions fs front → Noted checked.version (forms_of checked) is_public (defined_after D (form_defined d) found).context.functions gs (front ++ n ∷ [])
  definition_noted D (AFunction f) n front found fs gs of_version at stands after is noted =
      let one = one_part D.context f.params.items _ f.body found stands.trees in
      subst (λ (found : List Found). Noted checked.version (forms_of checked) is_public (defined_after D (function_form f) found).context.functions gs (front ++ n ∷ [])) (sym one.1)
      (noted_more checked.version (forms_of checked) is_public own once D.context of_version fs front n (function_form f) f.name f.access f.params.items (expression_of f.body) (form_there n (AFunction f) at) refl refl after noted (signature_of f.name f.access f.params.items one.0) gs refl is.0 is.1)
  definition_noted D d n front found fs gs of_version at stands after is noted = other_noted D d n front found fs gs refl at is noted

-- After the definitions before a place of the order, whatever the contract stands for, these are the functions so far that write.
abbrev pub Walked : Checked → (Leaf → List ℕ → Bool) → List Known → ℕ → List (List ℕ) → Type 0
Walked checked is_public known i fs =
    (E : Defined) → StandsAfter known checked E → (D : Defined) × AllStand D (at_places checked (drop i checked.order.items)) E × Noted checked.version (forms_of checked) is_public D.context.functions fs (take i checked.order.items) × (D.context.version ≡ checked.version)

pub walked_none : (checked : Checked) (is_public : Leaf → List ℕ → Bool) (known : List Known) (fs : List (List ℕ)) → fs ≡ [] → Walked checked is_public known 0 fs
walked_none checked is_public known fs none E stand = (nothing_defined known checked.principal checked.version checked.source_length, stand, subst (λ (fs : List (List ℕ)). Noted checked.version (forms_of checked) is_public [] fs []) (sym none) first, refl)
  where
    first : Noted checked.version (forms_of checked) is_public [] [] []
    first = record {
      functions = λ x h. absurd cc;
      sound = λ x h. absurd cc;
      complete = λ x w h. absurd cc;
      known = λ m form x access params body h. absurd cc;
    }

one_more : (xs : List ℕ) (i n : ℕ) → i < length xs → get_or xs i n ≡ n → take i xs ++ n ∷ [] ≡ take (i + 1) xs
one_more xs i n lt at = sym (take_more xs i n lt ∙ ap (λ m. take i xs ++ m ∷ []) at)

module _ (checked : Checked) (is_public : Leaf → List ℕ → Bool) (names : IsIndexed checked) (own : HaveOwnNames checked.version (forms_of checked)) (known : List Known) where
  no_form : (place : ℕ) → slice_get checked.definitions.items place ≡ None → (form : Form) → slice_get (forms_of checked) place ≡ Some form → ⊥
  no_form place is form there = none_is (sym (slice_get-map form_defined checked.definitions.items place ∙ ap (option_map form_defined) is) ∙ there)
    where
      none_is : {A : Type 0} {a : A} → None ≡ Some a → ⊥
      none_is h = cc

  pub walked_past : (i place : ℕ) (fs gs : List (List ℕ)) → i < length checked.order.items → get_or checked.order.items i place ≡ place → slice_get checked.definitions.items place ≡ None → gs ≡ fs → Walked checked is_public known i fs → Walked checked is_public known (i + 1) gs
  walked_past i place fs gs lt at is same_ones walked E stand =
      let here = walked E stand in
      let more = noted_past checked.version (forms_of checked) is_public here.0.context.functions fs (take i checked.order.items) place (λ form access params body there kind. no_form place is form there) here.2 in (
        here.0,
        subst (λ (ds : List Definition). AllStand here.0 ds E) (next_place checked i place None lt at is) here.1,
        subst (λ (xs : List (List ℕ)). Noted checked.version (forms_of checked) is_public here.0.context.functions xs (take (i + 1) checked.order.items)) (sym same_ones)
            (subst (Noted checked.version (forms_of checked) is_public here.0.context.functions fs) (one_more checked.order.items i place lt at) more),
        here.3,
      )

  pub walked_more : (i place : ℕ) (d : Definition) (fs gs : List (List ℕ)) → i < length checked.order.items → get_or checked.order.items i place ≡ place → slice_get checked.definitions.items place ≡ Some d →
      ((D : Defined) (found : List Found) → AreFunctions D.context fs → StandsAs D d found → IsWith is_public D d fs gs) → Walked checked is_public known i fs → Walked checked is_public known (i + 1) gs
  walked_more i place d fs gs lt at is with walked E stand =
      let here = walked E stand in
      let rest : AllStand here.0 (d ∷ at_places checked (drop (i + 1) checked.order.items)) E = subst (λ (ds : List Definition). AllStand here.0 ds E) (next_place checked i place (Some d) lt at is) here.1 in
      let own_functions : AreFunctions here.0.context fs = λ x there. (ap (λ (v : Version). native v x) here.3 ∙ (here.2.functions x there).0, (here.2.functions x there).1) in
      let split : checked.order.items ≡ take i checked.order.items ++ place ∷ drop (i + 1) checked.order.items = sym (take-append-drop i checked.order.items) ∙ ap (λ (ys : List ℕ). take i checked.order.items ++ ys) (rest_of checked.order.items i place lt at) in
      let more = definition_noted checked is_public names own here.0 d place (take i checked.order.items) rest.0 fs gs here.3 is rest.1 (names.order.after (take i checked.order.items) place (drop (i + 1) checked.order.items) split) (with here.0 rest.0 own_functions rest.1) here.2 in (
        defined_after here.0 (form_defined d) rest.0,
        rest.2,
        subst (Noted checked.version (forms_of checked) is_public (defined_after here.0 (form_defined d) rest.0).context.functions gs) (one_more checked.order.items i place lt at) more,
        version_after here.0 d rest.0 ∙ here.3,
      )

  -- with what stands at the next place, if anything does
  pub walked_next : (i place : ℕ) (fs gs : List (List ℕ)) → i < length checked.order.items → get_or checked.order.items i place ≡ place →
      ((d : Definition) (D : Defined) (found : List Found) → slice_get checked.definitions.items place ≡ Some d → AreFunctions D.context fs → StandsAs D d found → IsWith is_public D d fs gs) → (slice_get checked.definitions.items place ≡ None → gs ≡ fs) → Walked checked is_public known i fs → Walked checked is_public known (i + 1) gs
  walked_next i place fs gs lt at there none walked = by (slice_get checked.definitions.items place) refl
    where
      by : (o : Option Definition) → slice_get checked.definitions.items place ≡ o → Walked checked is_public known (i + 1) gs
      by None is = walked_past i place fs gs lt at is (none is) walked
      by (Some d) is = walked_more i place d fs gs lt at is (λ D found. there d D found is) walked

  pub walked_all : (i : ℕ) (fs : List (List ℕ)) (E : Defined) → length checked.order.items ≤ i → Walked checked is_public known i fs → StandsAfter known checked E → AreThoseThatWrite (forms_of checked) is_public fs
  walked_all i fs E far walked stand = record { sound = noted.sound; complete = complete }
    where
      here : (D : Defined) × AllStand D (at_places checked (drop i checked.order.items)) E × Noted checked.version (forms_of checked) is_public D.context.functions fs (take i checked.order.items) × (D.context.version ≡ checked.version)
      here = walked E stand

      noted : Noted checked.version (forms_of checked) is_public here.0.context.functions fs checked.order.items
      noted = subst (Noted checked.version (forms_of checked) is_public here.0.context.functions fs) (take_all i checked.order.items far) here.2

      complete : (x : List ℕ) → Writes (forms_of checked) is_public x → is_one_of fs x ≡ true
      complete x (has_writing_body {body = body} d w) =
          let p = place_in (forms_of checked) d.form d.there in
          noted.complete x (has_writing_body d w) (noted.known p.0 d.form x d.access d.params body (names.order.complete p.0 (within (forms_of checked) p.0 d.form p.1)) p.1 d.named d.function)
