use Rattle.std.proofs.Common.{◌+◌, Bool, true, if◌then◌else◌, List, [], ◌∷◌, ◌++◌, map, drop, ap, sym, ◌∙◌}
use Rattle.std.proofs.lemmas.List.{drop_all, drop_more}
use Rattle.cl_types.specs.declared.name.Name.{Name}
use Rattle.cl_values.specs.declared.val.Val.{Val}
use Rattle.cl_forms.proofs.Twice.{repeats, twice_is}
use Rattle.cl_operands.proofs.keyed.repeats.Goals as goal

pub returns-then-contains : goal.returns-then-contains
returns-then-contains c =
    let entries = c.args.entries.now in
    let i = c.loop-entry.entry-index in
    let keys = c.loop-entry.seen.keys in
    let rest = drop (i + 1) entries in
    let front = drop_more entries i c.entry-item.result c.loop-entry-test.true ∙ ap (λ (p : Name × Val). p ∷ rest) (sym c.entry-item.is) in
    sym (ap (λ (b : Bool). if b then true else repeats (keys ++ c.entry-item.result.0 ∷ []) (map (λ (p : Name × Val). p.0) rest)) (sym c.contains.ensures ∙ c.if-contains.true))
    ∙ ap (λ (l : List (Name × Val)). repeats keys (map (λ (p : Name × Val). p.0) l)) (sym front)
    ∙ c.loop-entry.invariant
    ∙ twice_is (map (λ (p : Name × Val). p.0) entries)

pub returns : goal.returns
returns c =
    let entries = c.args.entries.now in
    ap (λ (l : List (Name × Val)). repeats c.loop-entry.seen.keys (map (λ (p : Name × Val). p.0) l)) (sym (drop_all c.loop-entry.entry-index entries c.loop-entry-test.false))
    ∙ c.loop-entry.invariant
    ∙ twice_is (map (λ (p : Name × Val). p.0) entries)
