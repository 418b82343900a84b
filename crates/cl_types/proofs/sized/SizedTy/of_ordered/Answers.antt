use Rattle.cl_types.specs.Types.{size_of}
use Rattle.cl_types.specs.Sized.{everywhere, is_within}
use Rattle.cl_types.proofs.Within.{some_where, none_where}
use Rattle.cl_types.proofs.sized.SizedTy.of_ordered.Goals as goal

pub returns-in_err-size : goal.returns-in_err-size
returns-in_err-size c =
    rw (c.from_residual.ensures, none_where (everywhere is_within c.args.ty) (size_of c.args.ty) c.in_err-size.ensures.counted)

pub invariant_of-result : goal.invariant_of-result
invariant_of-result c =
    let measured = some_where (everywhere is_within c.args.ty) c.in_ok-size.size (size_of c.args.ty) c.in_ok-size.ensures.counted in
    record {
      sized = record { names = c.in_ok-size.ensures.named; keys = c.requires.keys; depth = c.requires.depth; sizes = measured.0 };
      counted = measured.1;
    }

pub returns : goal.returns
returns c =
    rw (some_where (everywhere is_within c.args.ty) c.in_ok-size.size (size_of c.args.ty) c.in_ok-size.ensures.counted).0
