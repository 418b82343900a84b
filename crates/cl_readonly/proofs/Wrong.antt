-- The first read-only function among those that write.
use Rattle.std.proofs.Common.{◌≡◌, ℕ, zero, suc, ◌+◌, ◌<◌, ◌≤◌, Bool, true, false, List, [], ◌∷◌, length, map, drop, get_or, filter_map, slice_get, Option, Some, None, refl, sym, ap, ◌∙◌, arith, eqb-true}
use Rattle.std.specs.Prelude.{IfSome, option_map, if◌then◌else◌, unwrap_or, nat_eq, ◌||◌}
use Rattle.std.specs.Option.{option_or}
use Rattle.std.specs.List.{cons_option}
use Rattle.std.proofs.lemmas.List.{drop_all}
use Rattle.std.proofs.lemmas.Option.{slice_get-map}
use Rattle.cl_types.specs.declared.sized.Access.{Access}
use Rattle.cl_types.specs.declared.sized.Access.TheVariants.{ReadOnly}
use Rattle.cl_values.proofs.Lists.{rest_of}
use Rattle.cl_c32.specs.declared.principal.Principal.{Principal}
use Rattle.cl_sexpr.specs.declared.sexpr.Span.{Span}
use Rattle.cl_forms.specs.Forms.{Form, FunctionForm}
use Rattle.cl_forms.specs.Order.{is_in}
use Rattle.cl_forms.specs.Names.{is_one_of}
use Rattle.cl_code.specs.Typed.{expression_of}
use Rattle.cl_code.specs.Definitions.{form_defined}
use Rattle.cl_code.specs.declared.definition.Definition.{Definition}
use Rattle.cl_code.specs.declared.definition.Definition.TheVariants.{Function as AFunction}
use Rattle.cl_rules.specs.Context.{Known}
use Rattle.cl_rules.specs.Acceptance.{calls_public, forms_at, WritesWrongly, FirstWriting, NoneWrites}
use Rattle.cl_contracts.specs.declared.checked.Checked.{Checked}
use Rattle.cl_contracts.specs.Seen.{forms_of, IsIndexed}
use Rattle.cl_contracts.specs.declared.deployed.Deployed.{Deployed}
use Rattle.cl_contracts.specs.Standings.{Knows, StandsAfter, definitions_in_order}
use Rattle.cl_contracts.proofs.InOrder.{at_places}
use Rattle.cl_rules.specs.FormRules.{Defined}
use Rattle.cl_readonly.specs.Functions.{AreThoseThatWrite, is_read_only, is_wrong, first_wrong}
use Rattle.cl_readonly.proofs.Noting.{place_in, within}

-- ---- one place after another

module _ (fs : List (List ℕ)) (checked : Checked) where
  abbrev pub wrong_of : List ℕ → Option Span
  wrong_of places = first_wrong fs (map form_defined (at_places checked places))

  -- what a look at a place finds
  pub record IsWrongAt (place : ℕ) (o : Option Span) : Type 0 where
    pub there : (d : Definition) → slice_get checked.definitions.items place ≡ Some d → o ≡ first_wrong fs (form_defined d ∷ [])
    pub none : slice_get checked.definitions.items place ≡ None → o ≡ None

  one_then : (d : Definition) (places : List ℕ) → first_wrong fs (map form_defined (d ∷ at_places checked places)) ≡ option_or (first_wrong fs (form_defined d ∷ [])) (wrong_of places)
  one_then d places = by (is_wrong fs (form_defined d))
    where
      by : (b : Bool) → (if b then Some (form_defined d).span else wrong_of places) ≡ option_or (if b then Some (form_defined d).span else None) (wrong_of places)
      by true = refl
      by false = refl

  wrong_then : (place : ℕ) (places : List ℕ) (o : Option Span) → IsWrongAt place o → wrong_of (place ∷ places) ≡ option_or o (wrong_of places)
  wrong_then place places o is = by (slice_get checked.definitions.items place) refl
    where
      by : (s : Option Definition) → slice_get checked.definitions.items place ≡ s → first_wrong fs (map form_defined (cons_option s (at_places checked places))) ≡ option_or o (wrong_of places)
      by None e = ap (λ (p : Option Span). option_or p (wrong_of places)) (sym (is.none e))
      by (Some d) e = one_then d places ∙ ap (λ (p : Option Span). option_or p (wrong_of places)) (sym (is.there d e))

  pub next_wrong : (i place : ℕ) (o : Option Span) → i < length checked.order.items → get_or checked.order.items i place ≡ place → IsWrongAt place o → wrong_of checked.order.items ≡ wrong_of (drop i checked.order.items) → wrong_of checked.order.items ≡ option_or o (wrong_of (drop (i + 1) checked.order.items))
  next_wrong i place o lt at is left = left ∙ ap wrong_of (rest_of checked.order.items i place lt at) ∙ wrong_then place (drop (i + 1) checked.order.items) o is

  pub last_wrong : (i : ℕ) → length checked.order.items ≤ i → wrong_of checked.order.items ≡ wrong_of (drop i checked.order.items) → None ≡ wrong_of checked.order.items
  last_wrong i far left = sym (left ∙ ap wrong_of (drop_all i checked.order.items far))

  -- ---- the first

  -- the first wrong definition of a row
  record IsFirst (ds : List Definition) (span : Span) : Type 0 where
    place : ℕ
    definition : Definition
    there : slice_get (map form_defined ds) place ≡ Some (form_defined definition)
    wrong : is_wrong fs (form_defined definition) ≡ true
    span_is : (form_defined definition).span ≡ span
    least : (m : ℕ) (other : Form) → slice_get (map form_defined ds) m ≡ Some other → is_wrong fs other ≡ true → place ≤ m

  same_other : (f g : Form) → Some f ≡ Some g → f ≡ g
  same_other f g h = cc

  first_of_row : (ds : List Definition) (span : Span) → Some span ≡ first_wrong fs (map form_defined ds) → IsFirst ds span
  first_of_row [] span h = absurd cc
  first_of_row (d ∷ ds) span h = by (is_wrong fs (form_defined d)) refl h (first_of_row ds span)
    where
      same_span : (s t : Span) → Some s ≡ Some t → t ≡ s
      same_span s t h = cc

      behind : IsFirst ds span → is_wrong fs (form_defined d) ≡ false → IsFirst (d ∷ ds) span
      behind later k = record {
        place = suc later.place;
        definition = later.definition;
        there = later.there;
        wrong = later.wrong;
        span_is = later.span_is;
        least = least;
      }
        where
          least : (m : ℕ) (other : Form) → slice_get (map form_defined (d ∷ ds)) m ≡ Some other → is_wrong fs other ≡ true → suc later.place ≤ m
          least zero other there wrong = absurd (clash (sym k ∙ ap (is_wrong fs) (same_other (form_defined d) other there) ∙ wrong))
            where
              clash : false ≡ true → ⊥
              clash h = cc
          least (suc m) other there wrong = omega (arith, later.least m other there wrong)

      by : (b : Bool) → is_wrong fs (form_defined d) ≡ b → Some span ≡ (if b then Some (form_defined d).span else first_wrong fs (map form_defined ds)) → (Some span ≡ first_wrong fs (map form_defined ds) → IsFirst ds span) → IsFirst (d ∷ ds) span
      by true e h rest = record { place = 0; definition = d; there = refl; wrong = e; span_is = same_span span (form_defined d).span h; least = λ m other there wrong. omega arith }
      by false e h rest = behind (rest h) e

  -- where none is found, none is wrong
  none_of_row : (forms : List Form) → None ≡ first_wrong fs forms → (m : ℕ) (form : Form) → slice_get forms m ≡ Some form → is_wrong fs form ≡ false
  none_of_row [] h m form there = absurd cc
  none_of_row (f ∷ forms) h m form there = by (is_wrong fs f) refl h m there (λ k n at. none_of_row forms k n form at)
    where
      by : (b : Bool) → is_wrong fs f ≡ b → None ≡ (if b then Some f.span else first_wrong fs forms) → (m : ℕ) → slice_get (f ∷ forms) m ≡ Some form → (None ≡ first_wrong fs forms → (n : ℕ) → slice_get forms n ≡ Some form → is_wrong fs form ≡ false) → is_wrong fs form ≡ false
      by true e h m there rest = absurd cc
      by false e h zero there rest = ap (is_wrong fs) (sym (same_other f form there)) ∙ e
      by false e h (suc m) there rest = rest h m there

-- ---- forms in order

in_order : (xs : List Definition) (ns : List ℕ) → forms_at (map form_defined xs) ns ≡ map form_defined (filter_map (slice_get xs) ns)
in_order xs [] = refl
in_order xs (n ∷ ns) =
    (λ i. cons_option (slice_get-map form_defined xs n i) (in_order xs ns i)) ∙ through (slice_get xs n)
  where
    through : (o : Option Definition) → cons_option (option_map form_defined o) (map form_defined (filter_map (slice_get xs) ns)) ≡ map form_defined (cons_option o (filter_map (slice_get xs) ns))
    through None = refl
    through (Some d) = refl

-- a form whose place is in an order is among the forms there
among : (forms : List Form) (order : List ℕ) (n : ℕ) (form : Form) → is_in n order ≡ true → slice_get forms n ≡ Some form → (m : ℕ) × (slice_get (forms_at forms order) m ≡ Some form)
among forms [] n form there at = absurd cc
among forms (k ∷ order) n form there at = by (nat_eq n k) refl there (λ h. among forms order n form h at)
  where
    first : (o : Option Form) → o ≡ Some form → slice_get (cons_option o (forms_at forms order)) 0 ≡ Some form
    first None h = absurd cc
    first (Some f) h = h

    later : (o : Option Form) → (m : ℕ) × (slice_get (forms_at forms order) m ≡ Some form) → (m : ℕ) × (slice_get (cons_option o (forms_at forms order)) m ≡ Some form)
    later None rest = rest
    later (Some f) rest = (suc rest.0, rest.1)

    by : (b : Bool) → nat_eq n k ≡ b → (b || is_in n order) ≡ true → (is_in n order ≡ true → (m : ℕ) × (slice_get (forms_at forms order) m ≡ Some form)) → (m : ℕ) × (slice_get (forms_at forms (k ∷ order)) m ≡ Some form)
    by true e h rest = (0, first (slice_get forms k) (ap (slice_get forms) (sym (eqb-true n k e)) ∙ at))
    by false e h rest = later (slice_get forms k) (rest h)

-- ---- what is wrong

module _ (known : List Known) (principal : Principal) (forms : List Form) (fs : List (List ℕ)) (those : AreThoseThatWrite forms (calls_public known principal) fs) where
  writes_wrongly : (d : Definition) → is_wrong fs (form_defined d) ≡ true → WritesWrongly known principal forms (form_defined d)
  writes_wrongly (AFunction f) h = by f.access refl h
    where
      by : (a : Access) → f.access ≡ a → (if is_read_only (FunctionForm a f.params.items (expression_of f.body)) then is_one_of fs f.name else false) ≡ true → WritesWrongly known principal forms (form_defined (AFunction f))
      by ReadOnly e h = record { name = f.name; params = f.params.items; body = expression_of f.body; named = refl; read_only = ap (λ (a : Access). FunctionForm a f.params.items (expression_of f.body)) e; writes = those.sound f.name h }
      by a e h = absurd cc
  writes_wrongly d h = absurd cc

  wrong_is : (form : Form) → WritesWrongly known principal forms form → is_wrong fs form ≡ true
  wrong_is form w = (λ i. if is_read_only (w.read_only i) then is_one_of fs (unwrap_or (w.named i) []) else false) ∙ those.complete w.name w.writes

module _ (known : List Known) (checked : Checked) (fs : List (List ℕ)) (names : IsIndexed checked) (those : AreThoseThatWrite (forms_of checked) (calls_public known checked.principal) fs) where
  rows : map form_defined (definitions_in_order checked) ≡ forms_at (forms_of checked) checked.order.items
  rows = sym (in_order checked.definitions.items checked.order.items)

  pub first_writes : (span : Span) → Some span ≡ first_wrong fs (map form_defined (definitions_in_order checked)) → FirstWriting known checked.principal (forms_of checked) checked.order.items span
  first_writes span h =
      let one = first_of_row fs checked (definitions_in_order checked) span h in
      record {
        place = one.place;
        form = form_defined one.definition;
        there = ap (λ (forms : List Form). slice_get forms one.place) (sym rows) ∙ one.there;
        writes = writes_wrongly known checked.principal (forms_of checked) fs those one.definition one.wrong;
        span_is = one.span_is;
        least = λ m other there w. one.least m other (ap (λ (forms : List Form). slice_get forms m) rows ∙ there) (wrong_is known checked.principal (forms_of checked) fs those other w);
      }

  pub none_writes : None ≡ first_wrong fs (map form_defined (definitions_in_order checked)) → NoneWrites known checked.principal (forms_of checked)
  none_writes h form there w =
      let p = place_in (forms_of checked) form there in
      let q = among (forms_of checked) checked.order.items p.0 form (names.order.complete p.0 (within (forms_of checked) p.0 form p.1)) p.1 in
      clash (sym (wrong_is known checked.principal (forms_of checked) fs those form w) ∙ none_of_row fs checked (forms_at (forms_of checked) checked.order.items) (h ∙ ap (first_wrong fs) rows) q.0 form q.1)
    where
      clash : true ≡ false → ⊥
      clash h = cc

-- what is found is the first
pub found_writes : (deployed : Deployed) (checked : Checked) (fs : List (List ℕ)) → IsIndexed checked → (o : Option Span) → o ≡ first_wrong fs (map form_defined (definitions_in_order checked)) →
    ((known : List Known) (E : Defined) → Knows deployed known → StandsAfter known checked E → AreThoseThatWrite (forms_of checked) (calls_public known checked.principal) fs) →
    IfSome o (λ span. (known : List Known) (E : Defined) → Knows deployed known → StandsAfter known checked E → FirstWriting known checked.principal (forms_of checked) checked.order.items span)
found_writes deployed checked fs names None is those = tt
found_writes deployed checked fs names (Some span) is those = λ known E knows stands. first_writes known checked fs names (those known E knows stands) span is
