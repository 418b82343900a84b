use Rattle.std.proofs.Common.{◌≡◌, sym, subst}
use Rattle.std.specs.Prelude.{Err}
use Rattle.cl_c32.specs.ContractName.{fits_pattern as fits_contract_pattern}
use Rattle.cl_types.specs.Fault.{IsRefusal}
use Rattle.cl_types.specs.declared.fault.Fault.{Fault}
use Rattle.cl_values.specs.declared.fault.DecodeRefusal.{DecodeRefusal}
use Rattle.cl_values.specs.Reading.{read_name}
use Rattle.cl_codec.proofs.Names.{name_refused}
use Rattle.cl_codec.proofs.parts.read_contract_name.Goals as goal

pub returns-in-None-clause-broken : goal.returns-in-None-clause-broken
returns-in-None-clause-broken c =
    subst (λ (f : Fault DecodeRefusal). IsRefusal f (λ fault. read_name fits_contract_pattern c.args.total c.args.bytes.now ≡ Err fault)) (sym c.bad_name.ensures)
    (name_refused fits_contract_pattern c.args.total c.in_ok-size.size c.args.bytes.now c.in_ok-size.rest.now c.in_ok-name.name.now c.in_ok-name.rest.now c.in_ok-size.ensures.found c.in_ok-name.ensures.found (λ f l. c.in-None.ensures (record { pattern = f; within = l })))
