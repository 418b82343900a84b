-- The operations that are done with one number after another.
use Rattle.cl_arith.specs.Operations.{Operation, sum, difference, product, quotient}
use Rattle.cl_apply.specs.declared.numbers.Folded.{Folded}
use Rattle.cl_apply.specs.declared.numbers.Folded.TheVariants.{Sum, Difference, Product, Quotient}

abbrev pub operation_of : Folded → Operation
operation_of Sum = sum
operation_of Difference = difference
operation_of Product = product
operation_of Quotient = quotient
