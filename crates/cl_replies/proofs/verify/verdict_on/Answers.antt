use Rattle.std.proofs.Common.{◌≡◌, ap, sym, subst, ◌∙◌, arith, length, ℕ, Bool, List, [], Vec, Global}
use Rattle.std.specs.Prelude.{Some, true, Option}
use Rattle.std.specs.Option.{option_map}
use Rattle.hex.specs.Hex.{decode_of}
use Rattle.cl_root.specs.declared.side.Side.{Side}
use Rattle.cl_words.specs.Words.{texts}
use Rattle.cl_replies.specs.Spelling.{bytes_in, sides_of}
use Rattle.cl_replies.specs.Kept.{AddsSides}
use Rattle.cl_replies.proofs.Verified.{short_key, short_path}
use Rattle.cl_replies.proofs.verify.verdict_on.Goals as goal

pub verify-requires-clause-key : goal.verify-requires-clause-key
verify-requires-clause-key c =
    let known : Some c.in-Some-2.key.items ≡ bytes_in (decode_of c.args.key.now) =
    ap (λ (o : Option (Vec ℕ Global)). option_map (λ b. b.items) o) (sym c.in-Some-2.is) ∙ c.in_ok-key.ensures ∙ ap (λ d. bytes_in (decode_of d)) c.as_bytes-2.ensures.value in
    omega (arith, short_key c.args.key.now c.in-Some-2.key.items (texts c.args.sides.now) c.requires known, ap length c.deref.ensures.value)

pub verify-requires-clause-path : goal.verify-requires-clause-path
verify-requires-clause-path c =
    let words = texts c.args.sides.now in
    let path = c.add_sides.new.path.items in
    let known : AddsSides (sides_of words) true [] path =
    subst (λ (all : Bool). AddsSides (sides_of words) all [] path) c.if-not-branch.false (subst (λ (old : List Side). AddsSides (sides_of words) c.in_ok-add_sides.field-0 old path) c.new-path.ensures.items c.in_ok-add_sides.ensures) in
    omega (arith, short_path c.args.key.now words path c.requires known, ap length c.deref-3.ensures.value)
