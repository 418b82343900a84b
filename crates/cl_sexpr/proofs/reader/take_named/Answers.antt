use Rattle.cl_sexpr.specs.declared.leaf.Leaf.TheVariants as leaf
use Rattle.cl_sexpr.specs.declared.lexer.Token.TheVariants as given
use Rattle.cl_sexpr.proofs.Steps.{advances_one}
use Rattle.cl_sexpr.proofs.reader.take_named.Goals as goal

pub returns-then-branch-clause-found : goal.returns-then-branch-clause-found
returns-then-branch-clause-found c =
    advances_one c.args.reading.now c.take_leaf.new.reading c.args.at c.args.bytes.now c.split_at.result.1.now (given.Item (leaf.Named c.args.name)) c.args.size c.requires.name c.split_at.ensures.back c.split_at.ensures.back_len (rw c.if-branch.true at c.in_ok-take_leaf.ensures)
