use Rattle.std.proofs.Common.{◌+◌, Bool, true, if◌then◌else◌, List, [], ◌∷◌, ◌++◌, map, drop, ap, sym, ◌∙◌}
use Rattle.std.proofs.lemmas.List.{drop_all, drop_more}
use Rattle.cl_types.specs.declared.name.Name.{Name}
use Rattle.cl_sexpr.specs.declared.sexpr.Sexpr.{Sexpr}
use Rattle.cl_forms.proofs.Twice.{repeats, twice_is}
use Rattle.cl_forms.proofs.definitions.repeats.Goals as goal

pub returns-then-contains : goal.returns-then-contains
returns-then-contains c =
    let params = c.args.params.now in
    let i = c.loop-param.param-index in
    let keys = c.loop-param.seen.keys in
    let rest = drop (i + 1) params in
    let front = drop_more params i c.param-item.result c.loop-param-test.true ∙ ap (λ (p : Name × Sexpr). p ∷ rest) (sym c.param-item.is) in
    sym (ap (λ (b : Bool). if b then true else repeats (keys ++ c.param-item.result.0 ∷ []) (map (λ (p : Name × Sexpr). p.0) rest)) (sym c.contains.ensures ∙ c.if-contains.true))
    ∙ ap (λ (l : List (Name × Sexpr)). repeats keys (map (λ (p : Name × Sexpr). p.0) l)) (sym front)
    ∙ c.loop-param.invariant
    ∙ twice_is (map (λ (p : Name × Sexpr). p.0) params)

pub returns : goal.returns
returns c =
    let params = c.args.params.now in
    ap (λ (l : List (Name × Sexpr)). repeats c.loop-param.seen.keys (map (λ (p : Name × Sexpr). p.0) l)) (sym (drop_all c.loop-param.param-index params c.loop-param-test.false))
    ∙ c.loop-param.invariant
    ∙ twice_is (map (λ (p : Name × Sexpr). p.0) params)
