-- Whether a node by itself calls what writes, where it is told which functions of the contract write.
use Rattle.std.specs.Prelude.{◌≡◌, ℕ, Bool, true, false, List, is_some, None}
use Rattle.cl_sexpr.specs.Tree.{Leaf}
use Rattle.cl_forms.specs.Heads.{native}
use Rattle.cl_forms.specs.HeadNames.{name_of}
use Rattle.cl_forms.specs.Names.{is_one_of}
use Rattle.cl_forms.specs.Writes.{writing_natives}
use Rattle.cl_rules.specs.Context.{Context, signature_in}
use Rattle.cl_code.specs.declared.op.Applied.{Applied}
use Rattle.cl_code.specs.declared.op.Applied.TheVariants.{Function}
use Rattle.cl_code.specs.declared.op.Op.{Op}
use Rattle.cl_code.specs.declared.op.Op.TheVariants.{OnParts, OnName, Iterate, Call as CallOp, ContractCall}
use Rattle.cl_code.specs.Expression.{target_leaf}
use Rattle.cl_code.specs.OpNames.{parts_head, name_head}

-- ---- a node by itself

abbrev pub applied_writes : List (List ℕ) → Applied → Bool
applied_writes functions (Function f) = is_one_of functions f.name
applied_writes functions applied = false

-- what a node calls by itself writes
abbrev pub node_writes : List (List ℕ) → (Leaf → List ℕ → Bool) → Op → Bool
node_writes functions is_public (OnParts native head) = is_one_of writing_natives (name_of (parts_head native))
node_writes functions is_public (OnName native head name) = is_one_of writing_natives (name_of (name_head native))
node_writes functions is_public (Iterate iteration head applied) = applied_writes functions applied
node_writes functions is_public (CallOp f) = is_one_of functions f.name
node_writes functions is_public (ContractCall head contract function callee) = is_public (target_leaf contract) function.name
node_writes functions is_public op = false

-- ---- functions so far

-- each of these is the name of a function that is defined, and no native's of the version
abbrev pub AreFunctions : Context → List (List ℕ) → Type 0
AreFunctions G functions = (x : List ℕ) → is_one_of functions x ≡ true → (native G.version x ≡ None) × (is_some (signature_in x G.functions) ≡ true)
