-- The definitions of a contract as plain data.
use Rattle.std.specs.Prelude.{ℕ, List, Option, Some, None}
use Rattle.cl_types.specs.Types.{PlainType}
use Rattle.cl_types.specs.declared.sized.Access.{Access}
use Rattle.cl_sexpr.specs.declared.sexpr.Span.{Span}
use Rattle.cl_sexpr.specs.Tree.{Tree}

-- what a form is: a function has its access, its parameters with their types, and its body
pub data FormKind : Type 0 where
  ConstantForm : Tree → FormKind
  VariableForm : PlainType → Tree → FormKind
  MapForm : PlainType → PlainType → FormKind
  FungibleForm : Option Tree → FormKind
  NonFungibleForm : PlainType → FormKind
  FunctionForm : Access → List (List ℕ × PlainType) → Tree → FormKind
  ExpressionForm : Tree → FormKind

-- a definition, with the name that it defines, or a top-level expression; and the span of its item
pub record Form : Type 0 where
  pub name : Option (List ℕ)
  pub kind : FormKind
  pub span : Span

-- the expression of a form
abbrev pub expression_of : FormKind → Option Tree
expression_of (ConstantForm e) = Some e
expression_of (VariableForm t e) = Some e
expression_of (MapForm k v) = None
expression_of (FungibleForm supply) = supply
expression_of (NonFungibleForm t) = None
expression_of (FunctionForm access params body) = Some body
expression_of (ExpressionForm e) = Some e
