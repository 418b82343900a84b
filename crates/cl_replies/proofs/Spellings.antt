-- The replies to `value` and `wire` are made of what the words spell.
use Rattle.std.proofs.Common.{◌≡◌, ℕ, List, Ok, Err, IfOk, refl, sym, ap, subst, ◌∙◌}
use Rattle.std.specs.Prelude.{Result}
use Rattle.hex.specs.Hex.{decode_of}
use Rattle.cl_values.specs.Reading.{decoded}
use Rattle.cl_types.specs.declared.fault.NoMemory.{NoMemory}
use Rattle.cl_text.specs.Parsed.{Reading, Parses, outcome_of}
use Rattle.cl_text.specs.declared.refusal.TextRefusal.{TextRefusal}
use Rattle.cl_text.specs.declared.refusal.TextRefusal.TheVariants as refused
use Rattle.cl_replies.specs.Spelling.{digits_in, bytes_reply, hex_reply, value_reply, no_value_reply, wire_reply}
use Rattle.cl_replies.specs.Reports.{IsWireReply}
use Rattle.cl_entries.specs.declared.status.Reply.{Reply}

pub value_of_bytes : (r : Result Reply NoMemory) (word digits bytes held : List ℕ) → digits ≡ digits_in word → decode_of digits ≡ Ok bytes → held ≡ bytes → IfOk r (λ reply. reply ≡ bytes_reply (decoded held)) → IfOk r (λ reply. reply ≡ value_reply word)
value_of_bytes r word digits bytes held d e h answers =
    let is : bytes_reply (decoded held) ≡ value_reply word = ap (λ (b : List ℕ). bytes_reply (decoded b)) h ∙ sym (ap hex_reply (ap decode_of (sym d) ∙ e)) in
    subst (λ (a : Reply). IfOk r (λ reply. reply ≡ a)) is answers

pub wire_of_outcome : (r : Result Reply NoMemory) (word : List ℕ) (o : Reading) → Parses word o → IfOk r (λ reply. reply ≡ wire_reply o) → IfOk r (λ reply. IsWireReply word reply)
wire_of_outcome (Ok reply) word o parses h = (o, parses, h)
wire_of_outcome (Err e) word o parses h = tt

pub no_value_on_wire : (r : TextRefusal) → no_value_reply (outcome_of r) ≡ wire_reply (outcome_of r)
no_value_on_wire (refused.Syntax r) = refl
no_value_on_wire (refused.NotALiteral span) = refl
no_value_on_wire (refused.TooDeep span) = refl
no_value_on_wire (refused.TooLarge span) = refl
