use Rattle.std.proofs.Common.{◌≡◌, ◌+◌, ℕ, Bool, true, List, ◌∷◌, ◌-◌, length, take, drop, if◌then◌else◌, Ok, Err, ap, sym, subst, ◌∙◌}
use Rattle.std.specs.Prelude.{Result, IfOk}
use Rattle.cl_types.specs.Fault.{IfRefused}
use Rattle.cl_sexpr.specs.declared.rule.Break.{Break}
use Rattle.cl_sexpr.specs.Token.{Token}
use Rattle.cl_sexpr.specs.Lexed.{token}
use Rattle.cl_sexpr.specs.Leaf.{begins}
use Rattle.cl_sexpr.specs.Quote.{string_at}
use Rattle.cl_sexpr.specs.Text.{run_at, longer_at}
use Rattle.cl_sexpr.proofs.Lexing.{from_second}
use Rattle.cl_sexpr.proofs.lexer.longer_at.Goals as goal

-- what begins with u and a quote
unicode_string : (at : ℕ) (bytes cs : List ℕ) (c : ℕ) → bytes ≡ c ∷ cs → c ≡ 117 → true ≡ begins 34 cs → string_at true at (take (length cs - 1) (drop 1 cs)) ≡ longer_at at bytes
unicode_string at bytes cs c is u quote =
    ap (string_at true at) (from_second cs)
    ∙ ap (λ (b : Bool). if b then string_at true at (drop 1 cs) else run_at at (117 ∷ cs)) quote
    ∙ sym (ap (longer_at at) (is ∙ ap (λ (d : ℕ). d ∷ cs) u))

pub returns-then-begins-clause-found : goal.returns-then-begins-clause-found
returns-then-begins-clause-found c =
    subst (λ (r : Result (Token × ℕ) Break). IfOk c.string_at-then-begins.result (λ x. r ≡ Ok (token x.0 c.args.at (c.args.at + x.1), x.1)))
    (unicode_string c.args.at c.args.bytes.now c.split_byte-first.result.1.now c.split_byte-first.result.0 c.split_byte-first.ensures c.if-first-eq117.true c.if-begins.ensures)
    c.string_at-then-begins.ensures.found

pub returns-then-begins-clause-broken : goal.returns-then-begins-clause-broken
returns-then-begins-clause-broken c =
    subst (λ (r : Result (Token × ℕ) Break). IfRefused c.string_at-then-begins.result (λ e. r ≡ Err e))
    (unicode_string c.args.at c.args.bytes.now c.split_byte-first.result.1.now c.split_byte-first.result.0 c.split_byte-first.ensures c.if-first-eq117.true c.if-begins.ensures)
    c.string_at-then-begins.ensures.broken
