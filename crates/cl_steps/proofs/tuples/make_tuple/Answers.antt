use Rattle.std.proofs.Common.{refl, sym, ap, ◌∙◌, subst}
use Rattle.std.proofs.lemmas.Result.{err_from_is_err_and}
use Rattle.cl_values.specs.Computed.{Gives}
use Rattle.cl_frames.proofs.Steps.{pay_fails_at, ends_so, native_ends, charge_spent}
use Rattle.cl_seq.specs.Merging.{are_apart}
use Rattle.cl_meaning.specs.Answers.{outcome_of}
use Rattle.cl_values.specs.Tree.{TupleV}
use Rattle.cl_values.specs.Tuples.{sorted_entries}
use Rattle.cl_frames.specs.Runs.{Computes}
use Rattle.cl_frames.proofs.TupleLaws
use Rattle.cl_steps.proofs.tuples.make_tuple.Goals as goal

pub returns-in_err-pay_for_all : goal.returns-in_err-pay_for_all
returns-in_err-pay_for_all c s =
    pay_fails_at _ _ c.in_err-pay_for_all.field-0.0 _ _ _ _ _ _ _ _ (err_from_is_err_and c.from_residual.result c.from_residual.ensures.1) (ap Rattle.cl_meaning.specs.Scope.sizes c.deref.ensures.value) refl c.in_err-pay_for_all.ensures

pub returns : goal.returns
returns c s =
    ends_so _ _ _ _ _ (charge_spent _ _ _ _ _ _ _ (ap Rattle.cl_meaning.specs.Scope.sizes c.deref.ensures.value) c.in_ok-pay_for_all.ensures) (native_ends _ _ _ _ _ (subst (λ ps. Computes (outcome_of (Gives (TupleV (sorted_entries ps)))) c.computed.result) c.in_ok-parts.ensures (c.computed.ensures (Gives (TupleV (sorted_entries c.in_ok-parts.parts.items))) c.tuple_of.ensures)))

pub tuple_of-requires-clause-some : goal.tuple_of-requires-clause-some
tuple_of-requires-clause-some c e =
    TupleLaws.some_pair c.args.keys.now c.args.values.items c.requires.some c.requires.fit (sym c.in_ok-parts.ensures ∙ e)

pub tuple_of-requires-clause-apart : goal.tuple_of-requires-clause-apart
tuple_of-requires-clause-apart c =
    ap are_apart c.in_ok-parts.ensures ∙ TupleLaws.apart c.args.keys.now c.args.values.items c.requires.apart
