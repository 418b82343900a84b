-- What an expression is charged itself, and what its parts are, under a table.
use Rattle.std.specs.Prelude.{ℕ, min, suc, ◌+◌, ◌-◌, List, [], ◌∷◌, map, take, length, Option, Some, None}
use Rattle.cl_types.specs.Types.{PlainType, NoType, OptionalType, ResponseType, size_of}
use Rattle.cl_types.specs.Sized.{length_of}
use Rattle.cl_shapes.specs.declared.name.CostName.{CostName}
use Rattle.cl_shapes.specs.declared.name.CostName.TheVariants.{Literal, Lookup, Control, Make, ReadVar, ReadMap, Iterate, ContractCall as ContractCallCost}
use Rattle.cl_forms.specs.declared.head.Head.TheVariants as heads
use Rattle.cl_forms.specs.Keywords.{keyword_cost}
use Rattle.cl_forms.specs.Heads.{row_of}
use Rattle.cl_types.specs.TypeKinds.{entry_of}
use Rattle.cl_rules.specs.NativeTypes.{first_of}
use Rattle.cl_rules.specs.Bills.{Bill, Free, Charge, Both, Greater, Times}
use Rattle.cl_rules.specs.Context.{Context, Signature, Known, signature_in, if_callable}
use Rattle.cl_rules.specs.Verdicts.{Found, number_at, sizes_of, sum_of}
use Rattle.cl_rules.specs.ControlShapes.{binds, bound_branch}
use Rattle.cl_rules.specs.CallShapes.{Usable, ANative, use_bound, usable_function, least_length, target_or_not, contract_literal}
use Rattle.cl_rules.specs.Shapes.{First, There}
use Rattle.cl_code.specs.Expression.{target_leaf}
use Rattle.cl_code.specs.declared.op.PartsNative.TheVariants.{If}
use Rattle.cl_code.specs.declared.op.NameNative.{NameNative}
use Rattle.cl_code.specs.declared.op.NameNative.TheVariants.{VarGet, MapGet}
use Rattle.cl_code.specs.declared.op.Iteration.{Iteration}
use Rattle.cl_code.specs.declared.op.Iteration.TheVariants.{Map, Filter, Fold}
use Rattle.cl_code.specs.declared.op.Applied.{Applied}
use Rattle.cl_code.specs.declared.op.Applied.TheVariants.{Function, OnValues as OnValuesBy, And as AndBy, Or as OrBy}
use Rattle.cl_code.specs.declared.op.Op.{Op}
use Rattle.cl_code.specs.declared.op.Op.TheVariants.{Keyword as KeywordOp, Bound as BoundOp, Constant, OnValues, OnParts, OnName, Iterate as IterateOp, AsMaxLen, Tuple, TupleOf, Let, MatchOptional, MatchResponse, Call, ContractCall}
use Rattle.cl_code.specs.OpNames.{parts_head, name_head}
use Rattle.cl_bound.specs.declared.branches.Branch.{Branch}
use Rattle.cl_bound.specs.declared.branches.Branch.TheVariants.{Plain, Good, Bad}

-- ---- the expression itself

-- a charge for values of these types
abbrev pub counted : CostName → List PlainType → Bill
counted name ts = Charge name (number_at name ts)

-- one application of a function
abbrev pub applied : Option Signature → Bill
applied None = Free
applied (Some f) = f.bound

-- one application of what is given by name, to values of these types
abbrev pub applied_to : Option Usable → List PlainType → Bill
applied_to None ts = Free
applied_to (Some u) ts = use_bound u ts

-- the iteration over these arguments, and so many applications to values of these types
abbrev pub iterated : Option Usable → List PlainType → ℕ → List PlainType → Bill
iterated u arguments n values = Both (Charge Iterate (sizes_of arguments)) (Times n (applied_to u values))

-- what is given by name
abbrev pub given : Context → Applied → Option Usable
given G (Function f) = usable_function (signature_in f.name G.functions)
given G (OnValuesBy native at) = Some (ANative (row_of (heads.OnValues native)))
given G (AndBy at) = Some (ANative (row_of heads.And))
given G (OrBy at) = Some (ANative (row_of heads.Or))

-- a native with a leading name, of this type and with arguments of these types
abbrev pub named : NameNative → PlainType → List PlainType → Bill
named VarGet t ts = Charge ReadVar (size_of t)
named MapGet t ts = Charge ReadMap (sizes_of ts + size_of t)
named native t ts = counted (row_of (name_head native)).cost ts

-- the iteration over arguments of these types that applies this, of this type
abbrev pub iteration : Iteration → Option Usable → PlainType → List PlainType → Bill
iteration Map u t ts = iterated u ts (least_length ts) (map entry_of ts)
iteration Filter u t ts = iterated u ts (length_of (first_of ts)) (entry_of (first_of ts) ∷ [])
iteration Fold u t ts = iterated u ts (length_of (first_of ts)) (entry_of (first_of ts) ∷ t ∷ [])

-- a function of another contract: the charge with the length of that contract's text, and the application
abbrev pub called_at : First Known → List ℕ → Bill
called_at (There k) x = Both (Charge ContractCallCost k.length) (applied (if_callable (signature_in x k.functions)))
called_at target x = Free

-- an expression of this type with parts of these types
abbrev pub own : Context → Op → PlainType → List PlainType → Bill
own G (KeywordOp k) t ts = Charge (keyword_cost k) (size_of t)
own G (BoundOp x) t ts = Charge Lookup (size_of t)
own G (Constant x) t ts = Charge Lookup (size_of t)
own G (OnValues native head) t ts = counted (row_of (heads.OnValues native)).cost ts
own G (OnParts native head) t ts = counted (row_of (parts_head native)).cost ts
own G (OnName native head name) t ts = named native t ts
own G (IterateOp kind head what) t ts = iteration kind (given G what) t ts
own G (AsMaxLen head most at) t ts = counted Make ts
own G (Tuple keys) t ts = counted Make ts
own G (TupleOf head pairs) t ts = counted Make ts
own G (Let head at bindings) t ts = Both (Charge Control (suc (length ts - length bindings.items))) (binds (take (length bindings.items) ts))
own G (MatchOptional head part) t ts = Charge Control 4
own G (MatchResponse head good bad) t ts = Charge Control 5
own G (Call f) t ts = applied (signature_in f.name G.functions)
own G (ContractCall head target function callee) t ts = called_at (target_or_not G (contract_literal G.principal (target_leaf target))) function.name
own G op t ts = Charge Literal (size_of t)

-- ---- the parts

-- the part of an optional, the ok part of a response; the err part of a response
abbrev pub good_part : PlainType → PlainType
good_part (OptionalType t) = t
good_part (ResponseType t e) = t
good_part t = NoType

abbrev pub bad_part : PlainType → PlainType
bad_part (ResponseType t e) = e
bad_part t = NoType

-- a part that is always evaluated, and the greater of two
abbrev pub of_branches : (PlainType → Found → Bill) → (PlainType → Found → Bill) → List Found → Bill
of_branches first second (i ∷ a ∷ b ∷ []) = Both i.bound (Greater (first i.type a) (second i.type b))
of_branches first second fs = Free

-- a branch as it counts, where the input has this type
abbrev pub branch_by : Branch → PlainType → Found → Bill
branch_by Plain t f = f.bound
branch_by Good t f = bound_branch (good_part t) f
branch_by Bad t f = bound_branch (bad_part t) f

-- the branches of an expression that has any
abbrev pub branches_of : Op → Option (Branch × Branch)
branches_of (OnParts If head) = Some (Plain, Plain)
branches_of (MatchOptional head part) = Some (Good, Plain)
branches_of (MatchResponse head good bad) = Some (Good, Bad)
branches_of op = None

abbrev pub inside_by : Option (Branch × Branch) → List Found → Bill
inside_by None fs = sum_of fs
inside_by (Some b) fs = of_branches (branch_by b.0) (branch_by b.1) fs

abbrev pub inside : Op → List Found → Bill
inside op fs = inside_by (branches_of op) fs

-- the least of a length and of others
abbrev pub least_with : ℕ → List PlainType → ℕ
least_with n [] = n
least_with n (t ∷ ts) = least_with (min n (length_of t)) ts
