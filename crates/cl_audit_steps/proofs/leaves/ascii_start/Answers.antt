use Rattle.std.proofs.Common.{sym, ap, ◌∙◌}
use Rattle.cl_values.specs.Tree.{AsciiV}
use Rattle.cl_values.specs.Valid.{made}
use Rattle.cl_meaning.specs.Names.{literal}
use Rattle.cl_audit_steps.proofs.leaves.ascii_start.Goals as goal

pub returns : goal.returns
returns c S take enter s = sym (ap (λ b. literal (made (AsciiV b)) s) (c.in_ok-bytes.ensures.items_if_clones_equal (λ x y h. h))) ∙ c.literal.ensures S take enter s
