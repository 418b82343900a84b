-- What a walk through an expression meets.
use Rattle.cl_order.specs.declared.naming.Site.{Site}
use Rattle.cl_order.specs.declared.naming.Site.TheVariants.{Plain, Key, Contract, Pairs}
use Rattle.cl_forms.specs.Names.{Place, Plain as AtPlain, AtKey, AtContract, AtPairs}

-- where an item stands, so far as names go
abbrev pub place : Site → Place
place Plain = AtPlain
place Key = AtKey
place Contract = AtContract
place Pairs = AtPairs
