use Rattle.std.proofs.Common.{rules}
use Rattle.cl_sexpr.proofs.quote.string_at.Goals as goal

pub returns-after-text_in-clause-broken : goal.returns-after-text_in-clause-broken
unfolding Rattle.cl_sexpr.specs.Quote.string_at
returns-after-text_in-clause-broken c = search rules

pub returns-after-text_in-clause-found : goal.returns-after-text_in-clause-found
unfolding Rattle.cl_sexpr.specs.Quote.string_at
returns-after-text_in-clause-found c = search rules
