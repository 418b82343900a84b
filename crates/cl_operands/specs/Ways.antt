-- Optionals and responses by their variants.
use Rattle.std.specs.Prelude.{true, false}
use Rattle.cl_values.specs.Tree.{Tree as Val, NoneV, SomeV, ResponseV}
use Rattle.cl_operands.specs.declared.ways.Way.{Way}
use Rattle.cl_operands.specs.declared.ways.Way.TheVariants.{Good, Bad, Neither}

-- some or ok; none or err; neither of the two
abbrev pub way_of : Val → Way
way_of (SomeV v) = Good
way_of NoneV = Bad
way_of (ResponseV true v) = Good
way_of (ResponseV false v) = Bad
way_of v = Neither

-- whether a response is err
abbrev pub err_way_of : Val → Way
err_way_of (ResponseV false v) = Good
err_way_of (ResponseV true v) = Bad
err_way_of v = Neither

-- whether an optional is some
abbrev pub optional_way_of : Val → Way
optional_way_of (SomeV v) = Good
optional_way_of NoneV = Bad
optional_way_of v = Neither

-- whether a response is ok
abbrev pub response_way_of : Val → Way
response_way_of (ResponseV true v) = Good
response_way_of (ResponseV false v) = Bad
response_way_of v = Neither

-- what an optional or a response holds
abbrev pub content : Val → Val
content (SomeV v) = v
content (ResponseV good v) = v
content v = v
