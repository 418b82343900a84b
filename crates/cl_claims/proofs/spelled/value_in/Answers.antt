use Rattle.std.proofs.Common.{◌≡◌, ℕ, Vec, Global, Some, None, true, false, sym, ap, subst, ◌∙◌}
use Rattle.std.specs.Option.{option_map}
use Rattle.hex.specs.Hex.{encode_lower}
use Rattle.cl_claims.specs.Parts.{IsNoWire, hex_bytes}
use Rattle.cl_claims.proofs.LineParts.{no_hex, no_value_with, not_lower}
use Rattle.cl_claims.proofs.Parsing.{value_so}
use Rattle.cl_claims.proofs.spelled.value_in.Goals as goal

pub returns-in_default-clause-none : goal.returns-in_default-clause-none
returns-in_default-clause-none c =
    let none : hex_bytes c.args.digits.now ≡ None = sym c.in_ok-bytes.ensures ∙ ap (option_map (λ (b : Vec ℕ Global). b.items)) c.in_default.is in
    λ _. no_hex c.args.digits.now none

pub returns-then-not-branch-clause-none : goal.returns-then-not-branch-clause-none
returns-then-not-branch-clause-none c =
    let read : hex_bytes c.args.digits.now ≡ Some c.in-Some.bytes.items = sym c.in_ok-bytes.ensures ∙ ap (option_map (λ (b : Vec ℕ Global). b.items)) c.in-Some.is in
    λ _. not_lower c.args.digits.now c.in-Some.bytes.items read (λ same.
    let yes : c.in_ok-spell.field-0 ≡ true = c.in_ok-spell.ensures.1 (ap encode_lower c.deref.ensures.value ∙ same) in
    let no : c.in_ok-spell.field-0 ≡ false = c.if-not-branch.true in
    cc)

pub returns-in_default-2-clause-none : goal.returns-in_default-2-clause-none
returns-in_default-2-clause-none c =
    let read : hex_bytes c.args.digits.now ≡ Some c.in-Some.bytes.items = sym c.in_ok-bytes.ensures ∙ ap (option_map (λ (b : Vec ℕ Global). b.items)) c.in-Some.is in
    λ _. no_value_with c.args.digits.now c.in-Some.bytes.items read (subst IsNoWire c.deref-2.ensures.value (c.in_ok-value.ensures.none c.in_default-2.is))

pub returns-in_default-2-clause-parsed : goal.returns-in_default-2-clause-parsed
returns-in_default-2-clause-parsed c =
    let read : hex_bytes c.args.digits.now ≡ Some c.in-Some.bytes.items = sym c.in_ok-bytes.ensures ∙ ap (option_map (λ (b : Vec ℕ Global). b.items)) c.in-Some.is in
    value_so c.args.digits.now c.in-Some.bytes.items c.deref-2.result.now None read c.deref-2.ensures.value (ap encode_lower (sym c.deref.ensures.value) ∙ c.in_ok-spell.ensures.0 c.if-not-branch.false) (rw c.in_default-2.is at c.in_ok-value.ensures.parsed)

pub returns-clause-parsed : goal.returns-clause-parsed
returns-clause-parsed c =
    let read : hex_bytes c.args.digits.now ≡ Some c.in-Some.bytes.items = sym c.in_ok-bytes.ensures ∙ ap (option_map (λ (b : Vec ℕ Global). b.items)) c.in-Some.is in
    value_so c.args.digits.now c.in-Some.bytes.items c.deref-2.result.now (Some c.in-Some-2.value) read c.deref-2.ensures.value (ap encode_lower (sym c.deref.ensures.value) ∙ c.in_ok-spell.ensures.0 c.if-not-branch.false) (rw c.in-Some-2.is at c.in_ok-value.ensures.parsed)
