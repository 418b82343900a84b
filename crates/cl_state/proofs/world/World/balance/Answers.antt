use Rattle.std.proofs.Common.{◌∙◌, ap}
use Rattle.std.proofs.lemmas.Result.{IfOk-weaker}
use Rattle.cl_tables.specs.Amounts.{amount_of}
use Rattle.cl_state.proofs.ToldStates.{amount_told}
use Rattle.cl_state.proofs.world.World.balance.Goals as goal

pub returns : goal.returns
returns c =
    IfOk-weaker c.balance.result _ _ (λ amount is.
    is ∙ amount_told c.args.asset.now c.args.who.now c.self.inside.events.items c.self.inside.moves.items c.self.inside.history.state ∙ ap (λ s. amount_of c.args.asset.now c.args.who.now s.stack.top) c.self.view_is)
    c.balance.ensures
