-- Shapes of literals, names and control forms.
use Rattle.std.specs.Prelude.{ℕ, suc, ◌||◌, not, nat_eq, Bool, true, false, List, [], ◌∷◌, take, drop, length, filter_map, Option, Some, None, is_some}
use Rattle.std.specs.List.{list_all}
use Rattle.cl_types.specs.Types.{PlainType, NoType, IntType, UintType, BoolType, PrincipalType, BuffType, AsciiType, Utf8Type, OptionalType, ResponseType, size_of}
use Rattle.cl_shapes.specs.declared.name.CostName.TheVariants.{Literal, Lookup, Bind}
use Rattle.cl_sexpr.specs.Tree.{Tree, ListAt, Leaf, Named, Signed, Unsigned, Bytes, Ascii, Unicode, Standing, Local}
use Rattle.cl_forms.specs.declared.keyword.Keyword.{Keyword}
use Rattle.cl_forms.specs.Keywords.{keyword_of, keyword_cost}
use Rattle.cl_forms.specs.Heads.{Row}
pub use Rattle.cl_forms.specs.Items.{atom_of}
use Rattle.cl_forms.specs.Shapes.{trees_of, binding_of, bindings_of, MatchParts, OptionalMatch, ResponseMatch, match_of, name_places}
use Rattle.cl_rules.specs.Faults.{sound_shape, sound_types}
use Rattle.cl_types.specs.TypeKinds.{is_bool, is_response, is_undetermined}
use Rattle.cl_rules.specs.NativeTypes.{Ruled, fine, of_kind, if_kind, wrong_kind, made, lubbed, part_row, err_row}
use Rattle.cl_rules.specs.Bills.{Bill, Free, Charge, Both, Greater}
use Rattle.cl_rules.specs.Context.{Context, Names, named_in, is_taken, is_no_value, bind, keyword_type}
use Rattle.cl_rules.specs.Verdicts.{Found, Verdict, types_of, concluded, summed}
use Rattle.cl_rules.specs.Shapes.{Plan, Ends, Part, Gives, Shape, parts, no_verdict, unlooked, value_shape, is_miscounted}

-- ---- literals and names

abbrev pub keyword_or : Option Keyword → Shape → Shape
keyword_or (Some k) other = value_shape (keyword_cost k) (fine (keyword_type k))
keyword_or None other = other

abbrev pub value_or : Option PlainType → Shape → Shape
value_or (Some t) other = value_shape Lookup (fine t)
value_or None other = other

-- a name that stands for no value here
abbrev pub no_value_shape : Bool → Shape
no_value_shape known = unlooked (record sound_shape { unknown_name = not known; not_a_value = known })

-- a keyword, a name that is bound, or a constant
abbrev pub name_shape : Context → Names → List ℕ → Shape
name_shape G B x = keyword_or (keyword_of x) (value_or (named_in x B) (value_or (named_in x G.constants) (no_value_shape (is_no_value G x))))

-- a literal has its value's least type
abbrev pub leaf_shape : Context → Names → Leaf → Shape
leaf_shape G B (Named x) = name_shape G B x
leaf_shape G B (Signed z) = value_shape Literal (fine IntType)
leaf_shape G B (Unsigned n) = value_shape Literal (fine UintType)
leaf_shape G B (Bytes bs) = value_shape Literal (made (BuffType (length bs)))
leaf_shape G B (Ascii cs) = value_shape Literal (made (AsciiType (length cs)))
leaf_shape G B (Unicode cs) = value_shape Literal (made (Utf8Type (length cs)))
leaf_shape G B (Standing p) = value_shape Literal (fine PrincipalType)
leaf_shape G B (Local c) = value_shape Literal (fine PrincipalType)

-- ---- rows of control forms all of whose arguments are looked at

-- the last one's type; no other is a response
abbrev pub last_of : List PlainType → PlainType
last_of [] = NoType
last_of (t ∷ []) = t
last_of (t ∷ u ∷ ts) = last_of (u ∷ ts)

abbrev pub is_unused : List PlainType → Bool
is_unused [] = false
is_unused (t ∷ []) = false
is_unused (t ∷ u ∷ ts) = is_response t || is_unused (u ∷ ts)

abbrev pub last_row : List PlainType → Ruled
last_row ts = record { faults = record sound_types { unused_response = is_unused ts }; type = last_of ts; throws = None }

abbrev pub truth_row : List PlainType → Ruled
truth_row ts = of_kind (list_all is_bool ts) BoolType

abbrev pub throwing : PlainType → Ruled → Ruled
throwing t ruled = record ruled { throws = Some t }

abbrev pub asserts_row : PlainType → PlainType → Ruled
asserts_row c x = throwing x (of_kind (is_bool c) BoolType)

abbrev pub unwrap_row : PlainType → PlainType → Ruled
unwrap_row e x = throwing x (part_row e)

abbrev pub unwrap_err_row : PlainType → PlainType → Ruled
unwrap_err_row e x = throwing x (err_row e)

-- none, or the err
abbrev pub tried : PlainType → Option PlainType
tried (OptionalType t) = Some (OptionalType NoType)
tried (ResponseType t e) = Some (ResponseType NoType e)
tried t = None

abbrev pub try_row : PlainType → Ruled
try_row e = record (part_row e) { throws = tried e }

-- a condition and two branches, of which the greater counts
abbrev pub if_verdict : Bill → List Found → Verdict
if_verdict own (c ∷ a ∷ b ∷ []) = concluded (if_kind (is_bool c.type) (lubbed a.type b.type)) 0 (Both own (Both c.bound (Greater a.bound b.bound))) (c ∷ a ∷ b ∷ [])
if_verdict own fs = no_verdict fs

-- ---- let

-- whether a name is taken, also by those before it
abbrev pub is_shadowed : Context → Names → List (List ℕ) → Bool
is_shadowed G B [] = false
is_shadowed G B (x ∷ xs) = is_taken G B x || is_shadowed G (bind x NoType B) xs

abbrev pub bound_name : Tree → Option (List ℕ)
bound_name e = elim (binding_of e) [ None ↦ None | Some p ↦ Some p.0 ]

-- each binding's expression sees the names before it, and the body all of them
abbrev pub let_plan : List Tree → Names → List (List ℕ × Tree) → Plan
let_plan body B [] = parts B body
let_plan body B (p ∷ ps) = Gives B p.1 (λ f. let_plan body (bind p.0 f.type B) ps)

-- one bind for each of these types
abbrev pub binds : List PlainType → Bill
binds [] = Free
binds (t ∷ ts) = Both (Charge Bind (size_of t)) (binds ts)

-- the first so many parts are bound
abbrev pub let_verdict : ℕ → Bill → List Found → Verdict
let_verdict bindings own fs = summed (last_row (types_of (drop bindings fs))) (Both own (binds (types_of (take bindings fs)))) fs

abbrev pub let_with : Row → Context → Names → List Tree → List Tree → Shape
let_with row G B bs body = record {
  faults = record sound_shape { argument_count = nat_eq (length body) 0; shadowed_name = is_shadowed G B (filter_map bound_name bs); bad_binding = not (is_some (bindings_of bs)) };
  plan = let_plan body B (filter_map binding_of bs);
  verdict = let_verdict (length bs) (Charge row.cost (suc (length body)));
}

-- bindings in round brackets, and one expression or more
abbrev pub let_shape : Row → Context → Names → List Tree → Shape
let_shape row G B [] = unlooked (record sound_shape { argument_count = true })
let_shape row G B (ListAt bs at ∷ body) = let_with row G B (trees_of bs) body
let_shape row G B (e ∷ body) = unlooked (record sound_shape { argument_count = nat_eq (length body) 0; bad_binding = true })

-- ---- match

abbrev pub is_atom : Tree → Bool
is_atom e = is_some (atom_of e)

-- The branch of an optional's part has that part's name; where the input is no optional it isn't looked at, and the branch of
-- none is.
abbrev pub optional_plan : Names → List ℕ → Tree → Tree → PlainType → Plan
optional_plan B x a b (OptionalType t) = Part (bind x t B) a (Part B b Ends)
optional_plan B x a b t = Part B b Ends

-- where the input is no response, no branch is looked at
abbrev pub response_plan : Names → List ℕ → Tree → List ℕ → Tree → PlainType → Plan
response_plan B x a y b (ResponseType t e) = Part (bind x t B) a (Part (bind y e B) b Ends)
response_plan B x a y b t = Ends

abbrev pub match_plan : Names → Option MatchParts → Plan
match_plan B (Some (OptionalMatch i x a b)) = Gives B i (λ f. optional_plan B x a b f.type)
match_plan B (Some (ResponseMatch i x a y b)) = Gives B i (λ f. response_plan B x a y b f.type)
match_plan B None = Ends

-- a branch that binds a name begins with that bind
abbrev pub bound_branch : PlainType → Found → Bill
bound_branch t f = Both (Charge Bind (size_of t)) f.bound

abbrev pub if_determined : Bool → Ruled → Ruled
if_determined holds ruled = record ruled { faults = record (ruled.faults) { undetermined = ruled.faults.undetermined || not holds } }

-- the branches' least supertype; what is bound has to be determined; the greater branch counts
abbrev pub matched : Bool → Bill → Found → Found → Found → Bill → Bill → Verdict
matched determined own i a b first second = concluded (if_determined determined (lubbed a.type b.type)) 0 (Both own (Both i.bound (Greater first second))) (i ∷ a ∷ b ∷ [])

abbrev pub optional_verdict : Bill → Found → Found → Found → PlainType → Verdict
optional_verdict own i a b (OptionalType t) = matched (not (is_undetermined t)) own i a b (bound_branch t a) b.bound
optional_verdict own i a b t = summed wrong_kind own (i ∷ a ∷ b ∷ [])

abbrev pub response_verdict : Bill → Found → Found → Found → PlainType → Verdict
response_verdict own i a b (ResponseType t e) = matched (not (is_undetermined t || is_undetermined e)) own i a b (bound_branch t a) (bound_branch e b)
response_verdict own i a b t = summed wrong_kind own (i ∷ a ∷ b ∷ [])

abbrev pub match_verdict : Bool → Bill → List Found → Verdict
match_verdict true own (i ∷ a ∷ b ∷ []) = optional_verdict own i a b i.type
match_verdict false own (i ∷ a ∷ b ∷ []) = response_verdict own i a b i.type
match_verdict optional own fs = summed wrong_kind own fs

abbrev pub match_shape : Row → Context → Names → List Tree → Shape
match_shape row G B es = record {
  faults = record sound_shape { argument_count = is_miscounted row es; shadowed_name = is_shadowed G B (filter_map atom_of (name_places es)); bad_binding = not (list_all is_atom (name_places es)) };
  plan = match_plan B (match_of es);
  verdict = match_verdict (nat_eq (length es) 4) (Charge row.cost (length es));
}
