use Rattle.std.proofs.Common.{◌≡◌, ◌+◌, ◌-◌, ℕ, length, drop, false, sym, subst, ◌∙◌, arith}
use Rattle.std.proofs.lemmas.List.{length-drop, take_all}
use Rattle.std.specs.List.{list_any}
use Rattle.cl_words.specs.Sources.{is_slash}
use Rattle.cl_words.proofs.Components.{behind_slash, no_slash}
use Rattle.cl_words.proofs.sources.last_component.Goals as goal

pub returns-then-path-i-eq47 : goal.returns-then-path-i-eq47
returns-then-path-i-eq47 c =
    let path = c.args.path.now in
    let i = c.loop-i.i - 1 in
    let next : c.loop-i.i ≡ i + 1 = omega (arith, c.loop-i-test.true) in
    let none : list_any is_slash (drop (i + 1) path) ≡ false = subst (λ (k : ℕ). list_any is_slash (drop k path) ≡ false) next c.loop-i.invariant in
    take_all (length path - (i + 1)) (drop (i + 1) path) (omega (arith, length-drop (i + 1) path)) ∙ sym (behind_slash path i 0 (omega (arith, c.loop-i.auto.i, c.loop-i-test.true)) c.if-path-i-eq47.true none)

pub returns : goal.returns
returns c =
    let path = c.args.path.now in
    let first : c.loop-i.i ≡ 0 = omega (arith, c.loop-i-test.false) in
    sym (no_slash path (subst (λ (k : ℕ). list_any is_slash (drop k path) ≡ false) first c.loop-i.invariant))
