use Rattle.std.proofs.Common.{arith, ap}
use Rattle.cl_types.specs.Types.{depth_of, size_of}
use Rattle.cl_types.specs.Sized.{everywhere, is_within}
use Rattle.cl_types.proofs.Within.{some_where, none_where}
use Rattle.cl_types.proofs.Made.{depth_sorted, made_twice, made_deep, made_large, made_found}
use Rattle.cl_types.proofs.sized.SizedTy.make.Goals as goal

pub returns-then-not-has_rising_keys-clause-broken :
    goal.returns-then-not-has_rising_keys-clause-broken
returns-then-not-has_rising_keys-clause-broken c =
    made_twice c.args.ty c.sort.new.ty (cc) c.in_ok-sort.ensures (cc)

pub depth_of-requires : goal.depth_of-requires
depth_of-requires c = omega (arith, ap depth_of c.in_ok-sort.ensures, depth_sorted c.args.ty, c.requires)

pub returns-then-depth_of-gt-MOST_DEPTH-clause-broken :
    goal.returns-then-depth_of-gt-MOST_DEPTH-clause-broken
returns-then-depth_of-gt-MOST_DEPTH-clause-broken c =
    made_deep c.args.ty c.sort.new.ty (cc) c.in_ok-sort.ensures (cc) (omega (arith, c.depth_of.ensures))

pub invariant_of-result : goal.invariant_of-result
invariant_of-result c =
    let measured = some_where (everywhere is_within c.sort.new.ty) c.in-Some.size (size_of c.sort.new.ty) c.in-Some.ensures.counted in
    record {
      sized = record { names = c.in-Some.ensures.named; keys = cc; depth = omega (arith, c.depth_of.ensures); sizes = measured.0 };
      counted = measured.1;
    }

pub returns-in-None-clause-broken : goal.returns-in-None-clause-broken
returns-in-None-clause-broken c =
    made_large c.args.ty c.sort.new.ty (cc) c.in_ok-sort.ensures (cc) (omega (arith, c.depth_of.ensures)) (none_where (everywhere is_within c.sort.new.ty) (size_of c.sort.new.ty) c.in-None.ensures.counted)

pub returns-in-Some-clause-found : goal.returns-in-Some-clause-found
returns-in-Some-clause-found c =
    made_found c.args.ty c.sort.new.ty (cc) c.in_ok-sort.ensures (cc) (omega (arith, c.depth_of.ensures)) (some_where (everywhere is_within c.sort.new.ty) c.in-Some.size (size_of c.sort.new.ty) c.in-Some.ensures.counted).0
