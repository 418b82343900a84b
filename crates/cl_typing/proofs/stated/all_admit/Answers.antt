use Rattle.std.proofs.Common.{ℕ, List, map, sym, ap, ◌∙◌}
use Rattle.cl_types.specs.Types.{PlainType, admits}
use Rattle.cl_rules.specs.Shapes.{Wanted, Admitted, are_wanted}
use Rattle.cl_typing.proofs.StatedRows.{unlike_lists, wanted_stop, wanted_end, admitted}
use Rattle.cl_typing.proofs.stated.all_admit.Goals as goal

pub returns-then-params-types : goal.returns-then-params-types
returns-then-params-types c =
    unlike_lists (λ p. Admitted p.1) (λ t. t.now) c.args.params.now c.args.types.now c.if-params-types.true
    ∙ ap (λ (ws : List Wanted). are_wanted ws (map (λ t. t.now) c.args.types.now)) (sym (admitted (λ p. p.1) c.args.params.now))

pub returns-then-not-admits : goal.returns-then-not-admits
returns-then-not-admits c =
    wanted_stop (λ p. Admitted p.1) (λ t. t.now) c.args.params.now c.args.types.now c.loop-i.i c.index-params-i.result c.index-types-i.result c.loop-i-test.true c.loop-i.invariant.0 (sym c.index-params-i.is) (sym c.index-types-i.is) (sym c.if-not-admits.true ∙ c.admits.ensures ∙ sym (ap (λ (p : List ℕ × PlainType). admits p.1 c.index-types-i.result.now) c.index-params-i.is)) c.loop-i.invariant.1
    ∙ ap (λ (ws : List Wanted). are_wanted ws (map (λ t. t.now) c.args.types.now)) (sym (admitted (λ p. p.1) c.args.params.now))

pub returns : goal.returns
returns c =
    wanted_end (λ p. Admitted p.1) (λ t. t.now) c.args.params.now c.args.types.now c.loop-i.i c.loop-i-test.false c.loop-i.invariant.0 c.loop-i.invariant.1
    ∙ ap (λ (ws : List Wanted). are_wanted ws (map (λ t. t.now) c.args.types.now)) (sym (admitted (λ p. p.1) c.args.params.now))
