-- Whether an expression names what it calls.
use Rattle.std.specs.Prelude.{◌≡◌, ℕ, Bool, true, false, ◌||◌, ◌&&◌, List, [], ◌∷◌, is_some, None}
use Rattle.std.specs.List.{list_any}
use Rattle.cl_sexpr.specs.Tree.{Tree}
use Rattle.cl_forms.specs.Heads.{native}
use Rattle.cl_forms.specs.Names.{same, Place, atoms_in, is_one_of}
use Rattle.cl_forms.specs.Writes.{applying_natives, Call, calls_in, gives_one}
use Rattle.cl_rules.specs.Context.{Context, signature_in}
use Rattle.cl_code.specs.Typed.{Typed, expression_of}

-- a call of a function, or of what applies it by its name
abbrev pub calls_it : List ℕ → Call → Bool
calls_it x c = same x c.operator || (is_one_of applying_natives c.operator && gives_one (same x) c.parts)

-- where an expression calls this, it names it, at whatever place it stands
abbrev pub IsNamed : List ℕ → Tree → Type 0
IsNamed x e = (place : Place) → list_any (calls_it x) (calls_in e) ≡ true → list_any (same x) (atoms_in place e) ≡ true

-- An expression names what it calls, unless that is the name of a native of the version or of a function that is defined already. A call in a
-- pair may go unnamed, so it isn't so of each text: it needs that the expression is typed.
abbrev pub NamesUnknown : Context → Tree → Type 0
NamesUnknown G e = (x : List ℕ) → native G.version x ≡ None → is_some (signature_in x G.functions) ≡ false → IsNamed x e

abbrev pub AllNameUnknown : Context → List Typed → Type 0
AllNameUnknown G [] = Unit {0}
AllNameUnknown G (q ∷ qs) = NamesUnknown G (expression_of q) × AllNameUnknown G qs
