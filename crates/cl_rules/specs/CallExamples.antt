-- Calls of deployed contracts, and functions that write, by example.
use Rattle.std.specs.Prelude.{◌≡◌, ℕ, List, [], codes, Option, Some, None}
use Rattle.cl_types.specs.Types.{NoType, IntType, UintType, BoolType, ResponseType}
use Rattle.cl_shapes.specs.Costs.{cost5}
use Rattle.cl_shapes.specs.Names.{unit_function}
use Rattle.cl_sexpr.specs.declared.rule.Rule.TheVariants.{ArgumentCount, ArgumentKind, NoSuchFunction, BadBinding}
use Rattle.cl_rules.specs.FormRules.{Defined}
use Rattle.cl_rules.specs.Judging.{Judged}
use Rattle.cl_rules.specs.Acceptance.{FirstWriting}
use Rattle.cl_rules.specs.PlainProgram.{Program, program_of, text_judged, line_by}
use Rattle.cl_rules.specs.Samples.{contract_f, of_one, deployed, line, refused, span}

-- ---- one contract calls another

abbrev pub called : List ℕ
called = codes "(define-data-var v uint u0)(define-public (set-it (x uint) (good bool)) (begin (var-set v x) (if good (ok x) (err x))))"

abbrev pub calling : List ℕ
calling = codes "(define-data-var w uint u0)(define-public (go (good bool) (mine bool)) (let ((r (contract-call? .b set-it u7 good))) (begin (var-set w u9) (if mine (ok true) (err false)))))"

pub record CallOfAnother : Type 0 where
  pub called_line : line (codes "set-it") called ≡ Some (cost5 10 0 0 1 17, ResponseType UintType UintType)
  -- the text of the called contract has 119 bytes
  pub calling_line : line_by unit_function (codes "go") (text_judged (deployed (codes "b") called) contract_f (of_one calling)) ≡ Some (cost5 25 1 119 2 34, ResponseType BoolType BoolType)

-- ---- what a call may break

abbrev pub library : List ℕ
library = codes "(define-private (p) 1)(define-read-only (h (x int)) (ok x))"

-- a text judged beside the contract g
abbrev pub beside_library : List ℕ → Judged Defined
beside_library text = text_judged (deployed (codes "g") library) contract_f (of_one text)

pub record BreaksOfCalls : Type 0 where
  pub no_such_function : beside_library (codes "(define-read-only (f) (contract-call? .g other))") ≡ refused NoSuchFunction 22 47
  pub private_function : beside_library (codes "(define-read-only (f) (contract-call? .g p))") ≡ refused NoSuchFunction 22 43
  pub no_name : beside_library (codes "(define-read-only (f) (contract-call? .g 5))") ≡ refused BadBinding 22 43
  pub too_few : beside_library (codes "(define-read-only (f) (contract-call? .g h))") ≡ refused ArgumentCount 22 43
  pub not_admitted : beside_library (codes "(define-read-only (f) (contract-call? .g h u1))") ≡ refused ArgumentKind 22 46
  -- call and control; then literal, contract_call, call, bind, lookup and wrap
  pub accepted : line_by unit_function (codes "f") (beside_library (codes "(define-read-only (f) (begin (contract-call? .g h 1)))")) ≡ Some (cost5 8 1 59 0 0, ResponseType IntType NoType)

-- ---- a read-only function that writes by way of a private one

abbrev pub or_nothing : Option Program → Program
or_nothing None = record { forms = []; order = [] }
or_nothing (Some p) = p

abbrev pub writing : Program
writing = or_nothing (program_of (codes "(define-data-var v uint u0)(define-private (w) (var-set v u1))(define-read-only (r) (w))"))

abbrev pub WritesByAnother : Type 0
WritesByAnother = FirstWriting [] contract_f writing.forms writing.order (span 62 88)
