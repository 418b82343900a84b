use Rattle.std.proofs.Common.{◌≡◌, sym, ◌∙◌, ◌+◌, [], ◌∷◌, length, Err, vec_len, eqb-true, arith}
use Rattle.std.proofs.lemmas.List.{nil_from_length}
use Rattle.cl_types.proofs.Faults.{refused_so}
use Rattle.cl_forms.specs.Order.{visit}
use Rattle.cl_order.specs.Search.{answer}
use Rattle.cl_order.proofs.Stepping.{one_visit, visited}
use Rattle.cl_order.proofs.search.Search.visit.Goals as goal

pub returns-in-Err-clause-cycle : goal.returns-in-Err-clause-cycle
returns-in-Err-clause-cycle c =
    refused_so c.in-Err.fault (λ cycle. answer c.args.forms.now c.args.self.now (c.args.place ∷ []) ≡ Err cycle.items) (λ cycle. visit (length c.args.forms.now + 1) c.args.forms.now [] c.args.place c.args.self.now.done.items ≡ Err cycle.items)
    (λ cycle h. sym (one_visit c.args.forms.now c.args.self.now c.args.place c.requires.begun) ∙ h) c.in-Err.ensures.cycle

pub returns-in-Err-step-clause-cycle : goal.returns-in-Err-step-clause-cycle
returns-in-Err-step-clause-cycle c =
    refused_so c.in-Err-step.fault (λ cycle. answer c.args.forms.now c.path.self [] ≡ Err cycle.items) (λ cycle. visit (length c.args.forms.now + 1) c.args.forms.now [] c.args.place c.args.self.now.done.items ≡ Err cycle.items)
    (λ cycle h. sym (one_visit c.args.forms.now c.args.self.now c.args.place c.requires.begun) ∙ c.path.invariant.same ∙ h) c.in-Err-step.ensures.cycle

pub returns-clause-visited : goal.returns-clause-visited
returns-clause-visited c =
    let none : vec_len c.path.self.path ≡ 0 = eqb-true (vec_len c.path.self.path) 0 (sym c.path-test.ensures) in
    let empty : length c.path.self.path.items ≡ 0 = omega (arith, c.path.self.path.ok.0) in
    visited c.args.forms.now c.args.self.now c.path.self c.args.place c.requires.begun (nil_from_length c.path.self.path.items empty) c.path.invariant.sound c.path.invariant.same
