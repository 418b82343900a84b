use Rattle.cl_text.proofs.Leaves.{AddressLaws}
use Rattle.cl_text.proofs.Back.{PrintedItem, printed_item, read_back}
use Rattle.cl_text.proofs.laws.printed_is_read.Goals as goal

pub returns-clause-item : goal.returns-clause-item
returns-clause-item c v h n size =
    let laws : AddressLaws = record { digits = c.one_number.ensures.digits; back = c.one_text.ensures.back } in
    let p : PrintedItem v = printed_item laws v h n size in
    (p.item, p.reads, p.value)

pub returns-clause-outcome : goal.returns-clause-outcome
returns-clause-outcome c v h n size =
    let laws : AddressLaws = record { digits = c.one_number.ensures.digits; back = c.one_text.ensures.back } in
    read_back v h (printed_item laws v h n size)
