use Rattle.cl_audit_steps.proofs.ValueLaws.{ends_as, ends_eq, named_kind, by_kind}
use Rattle.cl_audit_steps.proofs.values.on_name.Goals as goal

pub returns-in-OnValues : goal.returns-in-OnValues
unfolding by_kind
returns-in-OnValues c S = ends_eq S _ _ _ (λ take enter s. (named_kind c.args.row.now.head _ _ c.args.row.now.cost c.args.values.items s c.kind_of.ensures c.in-OnValues.is)) (c.on_native.ensures S)

pub returns-in-And : goal.returns-in-And
unfolding by_kind
returns-in-And c S = ends_eq S _ _ _ (λ take enter s. (named_kind c.args.row.now.head _ _ c.args.row.now.cost c.args.values.items s c.kind_of.ensures c.in-And.is)) (c.on_truths.ensures S)

pub returns-in-Or : goal.returns-in-Or
unfolding by_kind
returns-in-Or c S = ends_eq S _ _ _ (λ take enter s. (named_kind c.args.row.now.head _ _ c.args.row.now.cost c.args.values.items s c.kind_of.ensures c.in-Or.is)) (c.on_truths-in-Or.ensures S)

pub returns-in-Other : goal.returns-in-Other
unfolding by_kind
returns-in-Other c S take enter s = ends_as _ _ _ S take enter s (named_kind c.args.row.now.head _ _ c.args.row.now.cost c.args.values.items s c.kind_of.ensures c.in-Other.is) c.uncharged_end.ensures
