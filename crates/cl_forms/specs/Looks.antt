-- Items looked at, one at a time, with a table of the names that are defined.
use Rattle.std.specs.Prelude.{ℕ, ◌+◌, ◌||◌, Bool, true, false, List, [], ◌∷◌, if◌then◌else◌, nat_lt, nat_eq, ◌&&◌, fold, is_none, is_some, Option, Some, None, option_map}
use Rattle.std.specs.List.{list_any}
use Rattle.std.specs.Option.{option_or}
use Rattle.cl_sexpr.specs.declared.sexpr.Span.{Span}
use Rattle.cl_sexpr.specs.declared.rule.Rule.{Rule}
use Rattle.cl_sexpr.specs.declared.rule.Rule.TheVariants.{BadDefinition, BadType, BadName, NotInProfile, NameUsed}
use Rattle.cl_sexpr.specs.declared.rule.Break.{Break}
use Rattle.cl_sexpr.specs.Tree.{Tree, span_of}
use Rattle.cl_forms.specs.Forms.{Form}
use Rattle.cl_forms.specs.Names.{stands_twice}
use Rattle.cl_forms.specs.Heads.{Version, is_reserved}
use Rattle.cl_forms.specs.Items.{Item, Expression, Misshapen, Definition, item_of, kind_of, form_by}
use Rattle.cl_forms.specs.FormBreaks.{left_out_in, params_of, defines, when, broken_at}
use Rattle.cl_forms.specs.declared.entry.Entry.{Entry}
use Rattle.cl_forms.specs.ItemView.{plain_item}

-- the span that ends first, of two that end alike the earlier
abbrev pub earliest : Option Span → Span → Option Span
earliest None s = Some s
earliest (Some best) s = if nat_lt s.end best.end then Some s else Some best

-- an item, its span, and the atom in it that is left out and ends first
pub record Looked : Type 0 where
  pub item : Item
  pub left_out : Option Span
  pub span : Span

abbrev pub look_at : Tree → Looked
look_at e = record { item = item_of e; left_out = fold earliest None (left_out_in e); span = span_of e }

abbrev pub plain_entry : Entry → Looked
plain_entry e = record { item = plain_item e.item; left_out = e.left_out; span = e.span }

-- ---- names

-- a table of names: where each is defined first
abbrev pub Table : Type 0
Table = List ℕ → Option ℕ

-- where a name is defined first, from a place on
abbrev pub first_from : ℕ → List Item → List ℕ → Option ℕ
first_from n [] x = None
first_from n (i ∷ items) x = if defines x i then Some n else first_from (n + 1) items x

abbrev pub is_before : ℕ → Option ℕ → Bool
is_before n None = false
is_before n (Some m) = nat_lt m n

abbrev pub is_used : Table → ℕ → List ℕ → List (List ℕ) → Bool
is_used table n name params = is_before n (table name) || stands_twice params || list_any (λ p. is_some (table p)) params

-- whether the name or a parameter is reserved
abbrev pub has_reserved : Version → List ℕ → List (List ℕ) → Bool
has_reserved version name params = is_reserved version name || list_any (is_reserved version) params

-- ---- breaks

abbrev pub rules_by : Version → Table → ℕ → Item → List Rule
rules_by version table n (Expression e) = []
rules_by version table n Misshapen = BadDefinition ∷ []
rules_by version table n (Definition name draft) =
    when (is_none (kind_of draft)) BadType
    (when (has_reserved version name (params_of draft)) BadName
    (when (is_used table n name (params_of draft)) NameUsed []))

-- a rule of items with a number above that of an atom that is left out
abbrev pub comes_last : Rule → Bool
comes_last NameUsed = true
comes_last rule = false

-- the first of an atom that is left out and a rule that is broken with an item's span
abbrev pub first_of : Option Span → Rule → Span → Break
first_of None rule span = broken_at span rule
first_of (Some at) rule span =
    if nat_lt at.end span.end || (nat_eq at.end span.end && comes_last rule) then broken_at at NotInProfile else broken_at span rule

abbrev pub first_at : List Rule → Option Span → Span → Option Break
first_at [] left_out span = option_map (λ at. broken_at at NotInProfile) left_out
first_at (rule ∷ rules) left_out span = Some (first_of left_out rule span)

-- the first break of an item at a place
abbrev pub break_of : Version → Table → ℕ → Looked → Option Break
break_of version table n x = first_at (rules_by version table n x.item) x.left_out x.span

-- the first break of items, from a place on
abbrev pub first_broken : Version → Table → ℕ → List Looked → Option Break
first_broken version table n [] = None
first_broken version table n (x ∷ xs) = option_or (break_of version table n x) (first_broken version table (n + 1) xs)

abbrev pub form_at : Looked → Option Form
form_at x = form_by x.item x.span
