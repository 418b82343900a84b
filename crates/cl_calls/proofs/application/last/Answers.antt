use Rattle.std.proofs.Common.{◌≡◌, length, ap, ◌∙◌, arith}
use Rattle.cl_meaning.specs.Answers.{Given, Wrong}
use Rattle.cl_meaning.specs.Control.{last_of}
use Rattle.cl_meaning.specs.Limits.{limited}
use Rattle.cl_meaning.proofs.LimitLaws.{limited-stop}
use Rattle.cl_frames.proofs.Lasts.{last_at, last_of_none}
use Rattle.cl_calls.proofs.application.last.Goals as goal

pub returns-in-Some : goal.returns-in-Some
returns-in-Some c costs p s =
    ap (λ l. limited costs p (last_of l s)) c.in-Some.ensures.items ∙ ap (limited costs p) (last_at c.pop.new.self.items c.in-Some.value s) ∙ limited-stop costs p (Given c.in-Some.value) s

pub returns : goal.returns
returns c costs p s =
    let empty : length c.args.values.items ≡ 0 = omega (arith, c.args.values.ok.0, c.in-None.ensures.cases.0) in
    ap (limited costs p) (last_of_none c.args.values.items s empty) ∙ limited-stop costs p Wrong s
