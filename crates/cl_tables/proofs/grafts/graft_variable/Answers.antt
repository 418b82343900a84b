use Rattle.std.proofs.Common.{◌≡◌, ◌∙◌, ap, sym}
use Rattle.cl_maps.specs.Maps.{get, with_value}
use Rattle.cl_tables.specs.Variables.{key_of}
use Rattle.cl_tables.specs.Spots.{is_variable_at, joined}
use Rattle.cl_tables.specs.declared.spot.Spot.{Spot}
use Rattle.cl_tables.proofs.Joined.{joined_nowhere, joined_at_key}
use Rattle.cl_tables.proofs.Grafted.{not_variable}
use Rattle.cl_tables.proofs.grafts.graft_variable.Goals as goal

pub returns-in_default : goal.returns-in_default
returns-in_default c = joined_nowhere (λ key. is_variable_at key c.args.spot.now) c.args.from.now.content c.args.table.now.content (not_variable c.args.spot.now c.in_default.not-Variable)

pub returns : goal.returns
returns c =
    let from = c.args.from.now.content in
    let old = c.args.table.now.content in
    let key = key_of c.in-Variable.at in
    let value : c.in_ok-value.value ≡ get key from = c.in_ok-value.ensures ∙ c.get.ensures.value ∙ ap (λ k. get k from) c.in_ok-key.ensures.spelled in
    c.write.ensures.content
    ∙ (λ i. with_value (c.in_ok-key.ensures.spelled i) (value i) (c.in_ok-make_slot.ensures.content i))
    ∙ joined_at_key key from old
    ∙ ap (λ (s : Spot). joined (λ q. is_variable_at q s) from old) (sym c.in-Variable.is)
