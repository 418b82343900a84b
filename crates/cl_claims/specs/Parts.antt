-- The parts of a line, and what isn't one.
use Rattle.std.specs.Prelude.{◌≡◌, ◌+◌, ◌<◌, ◌^◌, ◌==◌, ℕ, List, ◌∷◌, take, drop, position, Option, Some, None, decimal}
use Rattle.std.specs.Result.{result_ok}
use Rattle.std.specs.Borrow.{Bor}
use Rattle.hex.specs.Hex.{decode_of, encode_lower}
use Rattle.cl_sexpr.specs.declared.sexpr.Span.{Span}
use Rattle.cl_values.specs.Tree.{Tree}
use Rattle.cl_values.specs.Valid.{IsVal}
use Rattle.cl_values.specs.Wire.{wire}
use Rattle.cl_claims.specs.Lines.{span_text, claim_text}

abbrev pub parts_at : List ℕ → Option ℕ → Option (List ℕ × List ℕ)
parts_at text None = None
parts_at text (Some at) = Some (take at text, drop (at + 1) text)

-- what stands before the first byte that is the mark, and what stands behind it
abbrev pub split_at : ℕ → List ℕ → Option (List ℕ × List ℕ)
split_at mark text = parts_at text (position (λ c. c == mark) text)

abbrev pub split_seen : Option (Bor (List ℕ) × Bor (List ℕ)) → Option (List ℕ × List ℕ)
split_seen None = None
split_seen (Some p) = Some (p.0.now, p.1.now)

-- no number of 32 bits is spelled so
abbrev pub IsNoNumber : List ℕ → Type 0
IsNoNumber text = (n : ℕ) → n < 2 ^ 32 → text ≡ decimal n → ⊥

-- nor so, behind a dot
abbrev pub IsNoEnd : List ℕ → Type 0
IsNoEnd text = (n : ℕ) → n < 2 ^ 32 → text ≡ 46 ∷ decimal n → ⊥

-- the places have 32 bits
pub record IsSpan (at : Span) : Type 0 where
  pub start : at.start < 2 ^ 32
  pub end : at.end < 2 ^ 32

abbrev pub IsNoSpan : List ℕ → Type 0
IsNoSpan text = (at : Span) → IsSpan at → text ≡ span_text at → ⊥

-- the bytes that digits of either case spell
abbrev pub hex_bytes : List ℕ → Option (List ℕ)
hex_bytes text = result_ok (decode_of text)

-- no value within the limits has this wire form
abbrev pub IsNoWire : List ℕ → Type 0
IsNoWire bytes = (v : Tree) → IsVal v → bytes ≡ wire v → ⊥

-- nor is one spelled so
abbrev pub IsNoValue : List ℕ → Type 0
IsNoValue text = (v : Tree) → IsVal v → text ≡ encode_lower (wire v) → ⊥

abbrev pub IsNoClaim : List ℕ → Type 0
IsNoClaim text = (entry : ℕ) (at : Span) (v : Tree) → entry < 2 ^ 32 → IsSpan at → IsVal v → text ≡ claim_text entry at v → ⊥
