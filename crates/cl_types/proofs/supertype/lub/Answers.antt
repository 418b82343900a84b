use Rattle.std.proofs.Common.{◌≡◌, Ok, Err, sym, ap, subst, ◌∙◌}
use Rattle.cl_types.specs.declared.sized.TyRefusal.TheVariants.{Differ, TooLarge}
use Rattle.cl_types.specs.Sized.{IsSized}
use Rattle.cl_types.specs.Lattice.{unless_large, least_supertype}
use Rattle.cl_types.proofs.LatticeKept.{joined_nearly}
use Rattle.cl_types.proofs.LatticeAnswers.{ok_least, differ_iff, large_iff, found_by, refused_by, joined_of}
use Rattle.cl_types.proofs.supertype.lub.Goals as goal

no_type : (c : goal.In_default) → least_supertype c.args.a.now c.args.b.now ≡ Err Differ
no_type c = ap unless_large (sym (joined_of c.args.a.now c.args.b.now c.ty.result.now c.ty-2.result.now c.in_ok-ty.field-0 c.ty.ensures.tree c.ty-2.ensures.tree c.in_ok-ty.ensures) ∙ c.in_default.is)

pub returns-in_default-clause-differ : goal.returns-in_default-clause-differ
returns-in_default-clause-differ c = differ_iff c.args.a.now c.args.b.now Differ (no_type c)

pub returns-in_default-clause-too_large : goal.returns-in_default-clause-too_large
returns-in_default-clause-too_large c = large_iff c.args.a.now c.args.b.now Differ (no_type c)

pub of_ordered-requires-clause-keys : goal.of_ordered-requires-clause-keys
of_ordered-requires-clause-keys c =
    (joined_nearly c.args.a.now c.args.b.now c.in-Some.ty
    (sym (joined_of c.args.a.now c.args.b.now c.ty.result.now c.ty-2.result.now c.in_ok-ty.field-0 c.ty.ensures.tree c.ty-2.ensures.tree c.in_ok-ty.ensures) ∙ c.in-Some.is)
    (subst IsSized c.ty.ensures.tree c.ty.ensures.sized) (subst IsSized c.ty-2.ensures.tree c.ty-2.ensures.sized)).keys

pub of_ordered-requires-clause-depth : goal.of_ordered-requires-clause-depth
of_ordered-requires-clause-depth c =
    (joined_nearly c.args.a.now c.args.b.now c.in-Some.ty
    (sym (joined_of c.args.a.now c.args.b.now c.ty.result.now c.ty-2.result.now c.in_ok-ty.field-0 c.ty.ensures.tree c.ty-2.ensures.tree c.in_ok-ty.ensures) ∙ c.in-Some.is)
    (subst IsSized c.ty.ensures.tree c.ty.ensures.sized) (subst IsSized c.ty-2.ensures.tree c.ty-2.ensures.sized)).depth

found : (c : goal.In-Some-of_ordered) → least_supertype c.args.a.now c.args.b.now ≡ Ok c.in-Some-of_ordered.ty
found c =
    found_by c.args.a.now c.args.b.now c.in-Some.ty c.in-Some-of_ordered.ty c.of_ordered.result
    (subst IsSized c.ty.ensures.tree c.ty.ensures.sized) (subst IsSized c.ty-2.ensures.tree c.ty-2.ensures.sized)
    (sym c.in-Some.is ∙ joined_of c.args.a.now c.args.b.now c.ty.result.now c.ty-2.result.now c.in_ok-ty.field-0 c.ty.ensures.tree c.ty-2.ensures.tree c.in_ok-ty.ensures)
    c.of_ordered.ensures c.in-Some-of_ordered.is

pub returns-in-Some-of_ordered-clause-least : goal.returns-in-Some-of_ordered-clause-least
returns-in-Some-of_ordered-clause-least c = ok_least c.args.a.now c.args.b.now c.in-Some-of_ordered.ty (found c)

pub returns-in-Some-of_ordered-clause-found : goal.returns-in-Some-of_ordered-clause-found
returns-in-Some-of_ordered-clause-found c = found c

refused : (c : goal.In-None) → least_supertype c.args.a.now c.args.b.now ≡ Err TooLarge
refused c =
    refused_by c.args.a.now c.args.b.now c.in-Some.ty c.of_ordered.result
    (subst IsSized c.ty.ensures.tree c.ty.ensures.sized) (subst IsSized c.ty-2.ensures.tree c.ty-2.ensures.sized)
    (sym c.in-Some.is ∙ joined_of c.args.a.now c.args.b.now c.ty.result.now c.ty-2.result.now c.in_ok-ty.field-0 c.ty.ensures.tree c.ty-2.ensures.tree c.in_ok-ty.ensures)
    c.of_ordered.ensures c.in-None.is

pub returns-in-None-clause-differ : goal.returns-in-None-clause-differ
returns-in-None-clause-differ c = differ_iff c.args.a.now c.args.b.now TooLarge (refused c)

pub returns-in-None-clause-too_large : goal.returns-in-None-clause-too_large
returns-in-None-clause-too_large c = large_iff c.args.a.now c.args.b.now TooLarge (refused c)

pub returns-in-None-clause-refused : goal.returns-in-None-clause-refused
returns-in-None-clause-refused c = refused c
