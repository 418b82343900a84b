-- What a call that comes to something answers.
use Rattle.std.proofs.Common.{◌≡◌, Some}
use Rattle.cl_types.specs.declared.sized.Access.{Access}
use Rattle.cl_types.specs.declared.sized.Access.TheVariants.{Public, ReadOnly, Private}
use Rattle.cl_shapes.specs.declared.cost.Cost5.{Cost5}
use Rattle.cl_values.specs.Tree.{Tree, IntV, UintV, BoolV, BuffV, AsciiV, Utf8V, PrincipalV, ListV, TupleV, NoneV, SomeV, ResponseV}
use Rattle.cl_events.specs.State.{State}
use Rattle.cl_file.specs.declared.entry.Common.{Common}
use Rattle.cl_tx.specs.Nodes.{NodeSeen, Stepped, answered}
use Rattle.cl_nodes.specs.Calling.{IsResponse}

-- a public function that comes to something answers a response
public_answers : (common : Common) (v : Tree) (node : NodeSeen) (cost : Cost5) (s : State) (stepped : Stepped) → answered common Public v node cost s ≡ Some stepped → IsResponse v
public_answers common (ResponseV good v) node cost s stepped h = tt
public_answers common (IntV z) node cost s stepped h = absurd cc
public_answers common (UintV n) node cost s stepped h = absurd cc
public_answers common (BoolV b) node cost s stepped h = absurd cc
public_answers common (BuffV b) node cost s stepped h = absurd cc
public_answers common (AsciiV a) node cost s stepped h = absurd cc
public_answers common (Utf8V u) node cost s stepped h = absurd cc
public_answers common (PrincipalV p) node cost s stepped h = absurd cc
public_answers common (ListV vs) node cost s stepped h = absurd cc
public_answers common (TupleV es) node cost s stepped h = absurd cc
public_answers common NoneV node cost s stepped h = absurd cc
public_answers common (SomeV v) node cost s stepped h = absurd cc

pub response : (common : Common) (access : Access) (v : Tree) (node : NodeSeen) (cost : Cost5) (s : State) (stepped : Stepped) → answered common access v node cost s ≡ Some stepped → access ≡ Public → IsResponse v
response common Public v node cost s stepped h is = public_answers common v node cost s stepped h
response common ReadOnly v node cost s stepped h is = absurd cc
response common Private v node cost s stepped h is = absurd cc
