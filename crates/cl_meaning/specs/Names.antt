-- Literals, keywords, bound names and constants.
use Rattle.std.specs.Prelude.{ℕ, true, false, List, Option, Some, None, Result, Ok, Err}
use Rattle.std.specs.Option.{option_or}
use Rattle.cl_shapes.specs.declared.name.CostName.{CostName}
use Rattle.cl_shapes.specs.declared.name.CostName.TheVariants.{Literal, Lookup}
use Rattle.cl_sexpr.specs.Tree.{Leaf, Named, Signed, Unsigned, Bytes, Ascii, Unicode, Standing, Local}
use Rattle.cl_values.specs.Tree.{Tree as Val, IntV, UintV, BoolV, BuffV, AsciiV, Utf8V, PrincipalV, NoneV}
use Rattle.cl_values.specs.declared.refusal.ValueRefusal.{ValueRefusal}
use Rattle.cl_values.specs.Wire.{size_of}
use Rattle.cl_values.specs.Valid.{made}
use Rattle.cl_forms.specs.declared.keyword.Keyword.{Keyword}
use Rattle.cl_forms.specs.declared.keyword.Keyword.TheVariants as keys
use Rattle.cl_forms.specs.Keywords.{keyword_of, keyword_cost}
use Rattle.cl_forms.specs.Shapes.{beside}
use Rattle.cl_events.specs.State.{State}
use Rattle.cl_meaning.specs.Answers.{Answer, give, wrong, charged, with_known}
use Rattle.cl_meaning.specs.Deployed.{value_of, constant_of}
use Rattle.cl_meaning.specs.Scope.{Scope, home}

-- a value that stands there, charged by its size
unfoldable pub standing : CostName → Val → State → Answer Val
standing name v s = charged name (size_of v) (give v s)

-- a literal of bytes or characters, where they are a value
abbrev pub literal : Result Val ValueRefusal → State → Answer Val
literal (Ok v) s = standing Literal v s
literal (Err refusal) s = wrong s

-- what a keyword stands for
abbrev pub keyword_value : Scope → Keyword → Val
keyword_value S keys.True = BoolV true
keyword_value S keys.False = BoolV false
keyword_value S keys.None = NoneV
keyword_value S keys.TxSender = PrincipalV S.frame.sender
keyword_value S keys.ContractCaller = PrincipalV S.frame.caller
keyword_value S keys.BlockHeight = UintV S.frame.height

abbrev pub keyword_form : Scope → Keyword → State → Answer Val
keyword_form S k s = standing (keyword_cost k) (keyword_value S k) s

-- a bound name; or else a constant of the contract
abbrev pub known_form : Scope → List ℕ → State → Answer Val
known_form S x s = with_known (option_or (value_of x S.bound) (constant_of x (home S))) (standing Lookup) s

abbrev pub keyword_or : Scope → Option Keyword → (State → Answer Val) → State → Answer Val
keyword_or S (Some k) other s = keyword_form S k s
keyword_or S None other s = other s

-- a keyword; or else a bound name or a constant
unfoldable pub name_form : Scope → List ℕ → State → Answer Val
name_form S x s = keyword_or S (keyword_of x) (known_form S x) s

-- an expression of one token; a contract's name alone means the contract beside this one
unfoldable pub leaf_form : Scope → Leaf → State → Answer Val
leaf_form S (Named x) s = name_form S x s
leaf_form S (Signed z) s = standing Literal (IntV z) s
leaf_form S (Unsigned n) s = standing Literal (UintV n) s
leaf_form S (Bytes bytes) s = literal (made (BuffV bytes)) s
leaf_form S (Ascii bytes) s = literal (made (AsciiV bytes)) s
leaf_form S (Unicode characters) s = literal (made (Utf8V characters)) s
leaf_form S (Standing p) s = standing Literal (PrincipalV p) s
leaf_form S (Local x) s = standing Literal (PrincipalV (beside S.frame.contract x)) s
