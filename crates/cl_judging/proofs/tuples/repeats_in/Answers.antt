use Rattle.std.proofs.Common.{◌+◌, Bool, true, if◌then◌else◌, List, [], ◌∷◌, ◌++◌, drop, ap, sym, ◌∙◌}
use Rattle.std.proofs.lemmas.List.{drop_all, drop_more}
use Rattle.cl_types.specs.declared.name.Name.{Name}
use Rattle.cl_forms.proofs.Twice.{repeats, twice_is}
use Rattle.cl_judging.proofs.tuples.repeats_in.Goals as goal

pub returns-then-contains : goal.returns-then-contains
returns-then-contains c =
    let keys = c.args.keys.now in
    let i = c.loop-key.key-index in
    let seen = c.loop-key.seen.keys in
    let rest = drop (i + 1) keys in
    let front = drop_more keys i c.key-item.result c.loop-key-test.true ∙ ap (λ (k : Name). k ∷ rest) (sym c.key-item.is) in
    sym (ap (λ (b : Bool). if b then true else repeats (seen ++ c.key-item.result ∷ []) rest) (sym c.contains.ensures ∙ c.if-contains.true))
    ∙ ap (λ (l : List Name). repeats seen l) (sym front)
    ∙ c.loop-key.invariant
    ∙ twice_is keys

pub returns : goal.returns
returns c =
    ap (λ (l : List Name). repeats c.loop-key.seen.keys l) (sym (drop_all c.loop-key.key-index c.args.keys.now c.loop-key-test.false))
    ∙ c.loop-key.invariant
    ∙ twice_is c.args.keys.now
