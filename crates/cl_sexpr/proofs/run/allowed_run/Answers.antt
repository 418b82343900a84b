use Rattle.std.proofs.Common.{◌≡◌, ℕ, Bool, true, List, ◌∷◌, ◌-◌, length, take, drop, if◌then◌else◌, Ok, Err, ap, sym, subst, ◌∙◌}
use Rattle.std.specs.Prelude.{Result, IfOk}
use Rattle.hex.specs.Hex.{decode_of}
use Rattle.cl_types.specs.Fault.{IfRefused}
use Rattle.cl_sexpr.specs.declared.rule.Break.{Break}
use Rattle.cl_sexpr.specs.declared.sexpr.Span.{Span}
use Rattle.cl_sexpr.specs.Token.{Token}
use Rattle.cl_sexpr.specs.Lexed.{token}
use Rattle.cl_sexpr.specs.Leaf.{begins, buffer, in_span, leaf_of, allowed_run}
use Rattle.cl_sexpr.proofs.Lexing.{from_second}
use Rattle.cl_sexpr.proofs.run.allowed_run.Goals as goal

-- a run that begins with 0x
buffer_run : (span : Span) (run cs : List ℕ) (c : ℕ) → run ≡ c ∷ cs → c ≡ 48 → true ≡ begins 120 cs → in_span span (buffer (decode_of (take (length cs - 1) (drop 1 cs)))) ≡ allowed_run span run
buffer_run span run cs c is zero x =
    ap (λ (xs : List ℕ). in_span span (buffer (decode_of xs))) (from_second cs)
    ∙ ap (λ (b : Bool). if b then in_span span (buffer (decode_of (drop 1 cs))) else in_span span (leaf_of (48 ∷ cs))) x
    ∙ sym (ap (allowed_run span) (is ∙ ap (λ (d : ℕ). d ∷ cs) zero))

pub returns-then-begins-clause-found : goal.returns-then-begins-clause-found
returns-then-begins-clause-found c =
    subst (λ (r : Result Token Break). IfOk c.buffer_token.result (λ t. r ≡ Ok (token t c.args.span.start c.args.span.end)))
    (buffer_run c.args.span c.args.run.now c.in-Some.rest.now c.in-Some.first.now c.in-Some.ensures.cases.0 c.if-first-eq48.true c.if-begins.ensures)
    c.buffer_token.ensures.found

pub returns-then-begins-clause-broken : goal.returns-then-begins-clause-broken
returns-then-begins-clause-broken c =
    subst (λ (r : Result Token Break). IfRefused c.buffer_token.result (λ e. r ≡ Err e))
    (buffer_run c.args.span c.args.run.now c.in-Some.rest.now c.in-Some.first.now c.in-Some.ensures.cases.0 c.if-first-eq48.true c.if-begins.ensures)
    c.buffer_token.ensures.broken
