use Rattle.std.proofs.Common.{sym, ap, ◌∙◌}
use Rattle.cl_meaning.specs.Limits.{limited}
use Rattle.cl_frames.specs.Seen.{costs_of, scope}
use Rattle.cl_frames.proofs.Steps.{ends_so}
use Rattle.cl_frames.proofs.Laws
use Rattle.cl_steps.proofs.literals.keyword.Goals as goal

pub returns-in-True : goal.returns-in-True
returns-in-True c s =
    ends_so _ _ _ _ _ (ap (limited _ _) (Laws.keyword_at (scope c.args.context.now c.args.names.now) _ _ s c.in-True.is) ∙ ap (λ v. limited (costs_of c.args.context.now) c.args.meter.now (Rattle.cl_meaning.specs.Names.standing Rattle.cl_shapes.specs.declared.name.CostName.TheVariants.Literal v s)) (sym c.bool_value.ensures)) (c.stands.ensures s)

pub returns-in-False : goal.returns-in-False
returns-in-False c s =
    ends_so _ _ _ _ _ (ap (limited _ _) (Laws.keyword_at (scope c.args.context.now c.args.names.now) _ _ s c.in-False.is) ∙ ap (λ v. limited (costs_of c.args.context.now) c.args.meter.now (Rattle.cl_meaning.specs.Names.standing Rattle.cl_shapes.specs.declared.name.CostName.TheVariants.Literal v s)) (sym c.bool_value-in-False.ensures)) (c.stands-in-False.ensures s)

pub returns-in-None : goal.returns-in-None
returns-in-None c s =
    ends_so _ _ _ _ _ (ap (limited _ _) (Laws.keyword_at (scope c.args.context.now c.args.names.now) _ _ s c.in-None.is) ∙ ap (λ v. limited (costs_of c.args.context.now) c.args.meter.now (Rattle.cl_meaning.specs.Names.standing Rattle.cl_shapes.specs.declared.name.CostName.TheVariants.Literal v s)) (sym c.none.ensures)) (c.stands-in-None.ensures s)

pub returns-in-TxSender : goal.returns-in-TxSender
returns-in-TxSender c s =
    ends_so _ _ _ _ _ (ap (limited _ _) (Laws.keyword_at (scope c.args.context.now c.args.names.now) _ _ s c.in-TxSender.is) ∙ ap (λ v. limited (costs_of c.args.context.now) c.args.meter.now (Rattle.cl_meaning.specs.Names.standing Rattle.cl_shapes.specs.declared.name.CostName.TheVariants.Context v s)) (sym c.principal_value-value.ensures)) (c.stands-in-TxSender.ensures s)

pub returns-in-ContractCaller : goal.returns-in-ContractCaller
returns-in-ContractCaller c s =
    ends_so _ _ _ _ _ (ap (limited _ _) (Laws.keyword_at (scope c.args.context.now c.args.names.now) _ _ s c.in-ContractCaller.is) ∙ ap (λ v. limited (costs_of c.args.context.now) c.args.meter.now (Rattle.cl_meaning.specs.Names.standing Rattle.cl_shapes.specs.declared.name.CostName.TheVariants.Context v s)) (sym c.principal_value-value-in-ContractCaller.ensures)) (c.stands-in-ContractCaller.ensures s)

pub returns-in-BlockHeight : goal.returns-in-BlockHeight
returns-in-BlockHeight c s =
    ends_so _ _ _ _ _ (ap (limited _ _) (Laws.keyword_at (scope c.args.context.now c.args.names.now) _ _ s c.in-BlockHeight.is) ∙ ap (λ v. limited (costs_of c.args.context.now) c.args.meter.now (Rattle.cl_meaning.specs.Names.standing Rattle.cl_shapes.specs.declared.name.CostName.TheVariants.Context v s)) (sym c.uint_value-value.ensures)) (c.stands-in-BlockHeight.ensures s)
