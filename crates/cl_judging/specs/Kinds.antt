-- Kinds of natives: how what stands behind a native's name is looked at.
use Rattle.cl_forms.specs.declared.head.Head.{Head}
use Rattle.cl_forms.specs.declared.head.Head.TheVariants as heads
use Rattle.cl_code.specs.OpNames.{name_head, iteration_head}
use Rattle.cl_judging.specs.declared.kinds.Kind.{Kind}
use Rattle.cl_judging.specs.declared.kinds.Kind.TheVariants.{Evaluated, Named, Iterate, Let, Match, TupleOf, AsMaxLen, ContractCall}
use Rattle.cl_judging.specs.Walking.{head_at}

abbrev pub kind_head : Kind → Head
kind_head (Evaluated native) = head_at native
kind_head (Named native) = name_head native
kind_head (Iterate iteration) = iteration_head iteration
kind_head Let = heads.Let
kind_head Match = heads.Match
kind_head TupleOf = heads.TupleOf
kind_head AsMaxLen = heads.AsMaxLen
kind_head ContractCall = heads.ContractCall
