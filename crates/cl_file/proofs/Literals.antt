-- Values of texts.
use Rattle.std.proofs.Common.{◌≡◌, ℕ, ◌+◌, ◌<◌, ◌≤◌, ◌++◌, List, [], ◌∷◌, length, drop, get_or, Some, None, refl, sym, ap, ◌∙◌}
use Rattle.std.proofs.lemmas.List.{drop_more, drop_all}
use Rattle.serde_json.specs.Data.{item}
use Rattle.serde_json.specs.View.{view, items_view}
use Rattle.serde_json.specs.declared.value.Value.{Value}
use Rattle.cl_types.specs.Fault.{IsRefusal}
use Rattle.cl_types.specs.declared.fault.Fault.{Fault}
use Rattle.cl_types.specs.declared.fault.Fault.TheVariants.{Refused}
use Rattle.std.proofs.Common.{subst}
use Rattle.cl_values.specs.Tree.{Tree}
use Rattle.cl_text.specs.Parsed.{Parses, outcome_of}
use Rattle.cl_text.specs.declared.refusal.TextRefusal.{TextRefusal}
use Rattle.cl_text.specs.declared.refusal.TextRefusal.TheVariants as refused
use Rattle.cl_file.specs.Objects.{Values, Texts, value_in}
use Rattle.cl_file.specs.Kinds.{literal, literals_from}

no_value : (r : TextRefusal) → value_in (outcome_of r) ≡ None
no_value (refused.Syntax r) = refl
no_value (refused.NotALiteral span) = refl
no_value (refused.TooDeep span) = refl
no_value (refused.TooLarge span) = refl

pub refused_text : (v : Texts) (text : List ℕ) (fault : Fault TextRefusal) (r : TextRefusal) → fault ≡ Refused r → IsRefusal fault (λ q. Parses text (outcome_of q)) → v.of text ≡ None
refused_text v text fault r is parses = v.right text (outcome_of r) (subst (λ f. IsRefusal f (λ q. Parses text (outcome_of q))) is parses) ∙ no_value r

at : (xs : List Value) (i : ℕ) (x : Value) → i < length xs → x ≡ get_or xs i x → items_view (drop i xs) ≡ item (view x) (items_view (drop (i + 1) xs))
at xs i x h e = ap items_view (drop_more xs i x h) ∙ ap (λ w. items_view (w ∷ drop (i + 1) xs)) (sym e)

pub literal_next : (values : Values) (done : List Tree) (xs : List Value) (i : ℕ) (x : Value) (t : Tree) → i < length xs → x ≡ get_or xs i x → literal values (view x) ≡ Some t
    → literals_from values done (items_view (drop i xs)) ≡ literals_from values (done ++ t ∷ []) (items_view (drop (i + 1) xs))
literal_next values done xs i x t h is e = ap (literals_from values done) (at xs i x h is) ∙ rw e refl

pub literal_end : (values : Values) (done : List Tree) (xs : List Value) (i : ℕ) → length xs ≤ i → literals_from values done (items_view (drop i xs)) ≡ Some done
literal_end values done xs i h = ap (λ ys. literals_from values done (items_view ys)) (drop_all i xs h)
