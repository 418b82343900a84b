-- The code's context against that of the definitions.
use Rattle.std.proofs.Common.{◌≡◌, ℕ, Bool, true, false, List, [], ◌∷◌, map, Option, Some, None, refl, ap, ◌∙◌}
use Rattle.std.specs.Prelude.{◌||◌, if◌then◌else◌, option_map, is_some}
use Rattle.std.specs.List.{list_any}
use Rattle.cl_forms.specs.Names.{is_one_of}
use Rattle.cl_forms.specs.Heads.{native, is_reserved, define_words}
use Rattle.cl_rules.specs.Context.{Signature, Context, Names, same, named_in, signature_in, is_named, is_taken, is_no_value}
use Rattle.cl_judging.specs.declared.context.Signature.{Signature as CodeSignature}
use Rattle.cl_judging.specs.declared.context.Context.{Context as CodeContext}
use Rattle.cl_judging.specs.Seen.{Shown, seen, seen_under, shown, shown_entry, Shows, no_value_in, taken_in}

some_either : (b : Bool) (f : Signature) (e : CodeSignature) (o : Option Signature) (p : Option CodeSignature) → seen f ≡ shown e → option_map seen o ≡ option_map shown p → option_map seen (if b then Some f else o) ≡ option_map shown (if b then Some e else p)
some_either true f e o p h k = ap (λ (s : Shown). Some s) h
some_either false f e o p h k = k

-- the function under a name
pub function_is : (x : List ℕ) (fs : List Signature) (es : List (List ℕ × CodeSignature)) → map seen_under fs ≡ map shown_entry es → option_map seen (signature_in x fs) ≡ option_map shown (named_in x es)
function_is x [] [] h = refl
function_is x [] (e ∷ es) h = absurd cc
function_is x (f ∷ fs) [] h = absurd cc
function_is x (f ∷ fs) (e ∷ es) h =
    let one : seen_under f ≡ shown_entry e = cc in
    let name : f.name ≡ e.0 = ap (λ (p : List ℕ × Shown). p.0) one in
    let same_one : seen f ≡ shown e.1 = ap (λ (p : List ℕ × Shown). p.1) one in
    let rest : map seen_under fs ≡ map shown_entry es = cc in
    ap (λ (y : List ℕ). option_map seen (if same y x then Some f else signature_in x fs)) name ∙ some_either (same e.0 x) f e.1 (signature_in x fs) (named_in x es) same_one (function_is x fs es rest)

some_same : (o : Option Signature) (p : Option CodeSignature) → option_map seen o ≡ option_map shown p → is_some o ≡ is_some p
some_same None None h = refl
some_same (Some f) (Some e) h = refl
some_same None (Some e) h = absurd cc
some_same (Some f) None h = absurd cc

pub has_function : (c : CodeContext) (G : Context) (x : List ℕ) → Shows c G → is_some (signature_in x G.functions) ≡ is_named x c.functions.entries
has_function c G x h = some_same (signature_in x G.functions) (named_in x c.functions.entries) (function_is x G.functions c.functions.entries h.functions)

pub no_value_is : (c : CodeContext) (G : Context) (x : List ℕ) → Shows c G → is_no_value G x ≡ no_value_in c x
no_value_is c G x h = λ i.
    is_some (native (h.version i) x) || has_function c G x h i || is_named x (h.variables i) || is_named x (h.maps i)
    || list_any (same x) (h.fungibles i) || is_named x (h.nonfungibles i) || is_one_of define_words x

pub taken_is : (c : CodeContext) (G : Context) (B : Names) (x : List ℕ) → Shows c G → is_taken G B x ≡ taken_in c B x
taken_is c G B x h = λ i.
    is_reserved (h.version i) x || (is_named x (h.constants i) || is_named x (h.variables i) || is_named x (h.maps i) || list_any (same x) (h.fungibles i)
    || is_named x (h.nonfungibles i) || has_function c G x h i) || is_named x B
