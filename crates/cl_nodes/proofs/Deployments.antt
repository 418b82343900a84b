-- What is accepted of a source.
use Rattle.std.proofs.Common.{◌≡◌, inl, inr, ℕ, List, [], length, sym, subst, ◌∙◌}
use Rattle.cl_c32.specs.declared.principal.Principal.{Principal}
use Rattle.cl_shapes.specs.declared.cost.Dimension.{Dimension}
use Rattle.cl_shapes.specs.declared.function.CostFn.{CostFn}
use Rattle.cl_costs.specs.Schedules.{always, costs_at, table_at}
use Rattle.cl_costs.specs.Tables.{function_of}
use Rattle.cl_sexpr.specs.declared.rule.Rule.{Rule}
use Rattle.cl_sexpr.specs.declared.rule.Rule.TheVariants.{BoundTooLarge}
use Rattle.cl_sexpr.specs.declared.sexpr.Span.{Span}
use Rattle.cl_forms.specs.declared.version.Version.{Version}
use Rattle.cl_forms.specs.Texts.{Text}
use Rattle.cl_forms.specs.Forms.{Form}
use Rattle.cl_meaning.specs.Limits.{Costs}
use Rattle.cl_rules.specs.Context.{CostTable, Known}
use Rattle.cl_rules.specs.FormRules.{Defined, nothing_defined}
use Rattle.cl_rules.specs.Acceptance.{FirstBreakOf, NoneWrites, TypedAs, in_bounds, in_deployment}
use Rattle.cl_rules.specs.Laws.{IsFirstAboveLimit}
use Rattle.cl_contracts.specs.declared.checked.Checked.{Checked}
use Rattle.cl_contracts.specs.Seen.{IsIndexed, forms_of}
use Rattle.cl_contracts.specs.Standings.{AllStand, AreStanding, definitions_in_order}
use Rattle.cl_nodes.specs.Sound.{Contracts}
use Rattle.cl_nodes.specs.Accepting.{IsChecked}

-- a bound above the limit is the first break
pub above_breaks : (known : List Known) (p : Principal) (table : CostTable) (text : Text) (forms : List Form) (order : List ℕ) (defined : Defined) (dimension : Dimension) (rule : Rule) (span : Span) (names : List (List ℕ)) → TypedAs known p text forms order defined → NoneWrites known p forms →
    rule ≡ BoundTooLarge dimension → names ≡ [] → IsFirstAboveLimit defined forms order table dimension span → FirstBreakOf known p table text rule span names
above_breaks known p table text forms order defined d rule span names typed none r n (inl first) = in_bounds forms order defined d typed none first r n
above_breaks known p table text forms order defined d rule span names typed none r n (inr above) = in_deployment forms order defined d typed none above.0 r above.1 n

-- what the checker gives is a contract that stands for the text
pub checked_so : (es : Contracts) (q p : Principal) (text : Text) (c : Checked) → q ≡ p → c.principal ≡ q → c.version ≡ text.version → c.source_length ≡ length text.bytes → IsIndexed c →
    ((known : List Known) → AreStanding [] es known → (defined : Defined) × TypedAs known q text (forms_of c) c.order.items defined × NoneWrites known q (forms_of c) × AllStand (nothing_defined known q text.version (length text.bytes)) (definitions_in_order c) defined) →
    IsChecked es p text c
checked_so es q p text c same principal version size indexed found = record {
  principal_is = principal ∙ same;
  version = version;
  size = size;
  indexed = indexed;
  found = λ known knows.
      let f = found known knows in (
        f.0,
        subst (λ r. TypedAs known r text (forms_of c) c.order.items f.0) same f.1,
        subst (λ r. NoneWrites known r (forms_of c)) same f.2,
        subst (λ (n : Principal × (Version × ℕ)). AllStand (nothing_defined known n.0 n.1.0 n.1.1) (definitions_in_order c) f.0) (λ i. (sym principal i, (sym version i, sym size i))) f.3,
      );
}

-- what holds under the costs of each schedule holds under a table
pub under_table : (P : Costs → Type 0) (table : List CostFn) (height : ℕ) → P (costs_at (always table) height) → P (function_of table)
unfolding table_at
under_table P table height h = h
