-- What a row wants of its arguments, as the code names it.
use Rattle.cl_rules.specs.Shapes.{Wanted, AUint, APrincipal, Admitted}
use Rattle.cl_typing.specs.declared.stated.Wanted.{Wanted as CodeWanted}
use Rattle.cl_typing.specs.declared.stated.Wanted.TheVariants as variants

abbrev pub wanted_of : CodeWanted → Wanted
wanted_of variants.Uint = AUint
wanted_of variants.Principal = APrincipal
wanted_of (variants.Admitted t) = Admitted t.now
