use Rattle.std.proofs.Common.{◌≡◌, List, ℕ, length, Some, ◌∙◌, sym, ap}
use Rattle.serde_json.specs.View.{view}
use Rattle.cl_file.proofs.SoleMember.{not_sole, is_sole}
use Rattle.cl_file.proofs.object.sole_in.Goals as goal

pub returns-then-len-ne1 : goal.returns-then-len-ne1
returns-then-len-ne1 c = not_sole _ (λ e. c.if-len-ne1.true (c.len.ensures.len ∙ e))

pub returns-in-Some : goal.returns-in-Some
returns-in-Some c =
    let one : length c.args.members.now.entries ≡ 1 = sym c.len.ensures.len ∙ c.if-len-ne1.false in
    ap (λ (name : List ℕ). Some (name, view c.in-Some.value.now)) c.as_str.ensures.value ∙ is_sole c.args.members.now.entries c.in-Some.name.now c.in-Some.value.now one c.in-Some.ensures.first
