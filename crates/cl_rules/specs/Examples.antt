-- Types, bounds and first breaks of small contracts, by computing.
use Rattle.std.specs.Prelude.{◌≡◌, ℕ, List, [], codes, Some}
use Rattle.cl_types.specs.Types.{NoType, IntType, UintType, BoolType, BuffType, ResponseType}
use Rattle.cl_shapes.specs.declared.function.Shape.TheVariants.{Linear}
use Rattle.cl_shapes.specs.declared.name.CostName.TheVariants.{Make}
use Rattle.cl_shapes.specs.Costs.{cost5}
use Rattle.cl_shapes.specs.Names.{unit_function}
use Rattle.cl_sexpr.specs.declared.rule.Rule.TheVariants.{TooLarge, Undetermined, UnusedResponse}
use Rattle.cl_rules.specs.Context.{CostTable}
use Rattle.cl_rules.specs.PlainProgram.{line_by}
use Rattle.cl_rules.specs.Samples.{checked, refused, line, deployment}

abbrev pub add1 : List ℕ
add1 = codes "(define-read-only (add1 (x int)) (+ x 1))"

pub record OneLineContracts : Type 0 where
  pub add1_line : line (codes "add1") add1 ≡ Some (cost5 5 0 0 0 0, IntType)
  pub add1_deployment : deployment add1 ≡ Some (cost5 2 0 0 2 41)
  pub if_line : line (codes "f") (codes "(define-read-only (f (c bool)) (if c (ok 1) (err false)))") ≡ Some (cost5 6 0 0 0 0, ResponseType IntType BoolType)
  pub undetermined : checked (codes "(define-read-only (f) (unwrap-panic none))") ≡ refused Undetermined 22 41
  pub empty_deployment : deployment [] ≡ Some (cost5 1 0 0 1 0)
  pub unused : checked (codes "(define-public (f) (begin (ok 1) (ok 2)))") ≡ refused UnusedResponse 19 40
  -- each tuple alone has size 600,019; the least supertype has 1,200,019
  pub too_large : checked (codes "(define-read-only (f (c bool) (p {a: (buff 600000), b: (buff 0)}) (q {a: (buff 0), b: (buff 600000)})) (if c p q))") ≡ refused TooLarge 103 113
  pub fold_line : line (codes "g") (codes "(define-private (h (x (buff 1)) (acc (buff 2))) x)(define-read-only (g (xs (list 3 (buff 1)))) (fold h xs 0x0102))") ≡ Some (cost5 17 0 0 0 0, BuffType 2)

abbrev pub counter : List ℕ
counter = codes "(define-data-var n uint u0)(define-public (inc) (begin (var-set n (+ (var-get n) u1)) (ok (var-get n))))"

-- a cost table that charges what is made by its size, twice
abbrev pub made_twice : CostTable
made_twice Make = record (unit_function Make) { runtime = Linear 2 1 }
made_twice name = unit_function name

pub record Bounds : Type 0 where
  pub inc_line : line (codes "inc") counter ≡ Some (cost5 8 2 34 1 17, ResponseType UintType NoType)
  pub counter_deployment : deployment counter ≡ Some (cost5 4 0 0 3 121)
  pub concat_line : line_by made_twice (codes "both") (checked (codes "(define-read-only (both (a (buff 4)) (b (buff 4))) (concat a b))")) ≡ Some (cost5 42 0 0 0 0, BuffType 8)
