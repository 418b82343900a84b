-- Each text of a literal has an outcome: a value, or why it has none.
use Rattle.std.proofs.Common.{inl, inr, ℕ, List, length, refl}
use Rattle.cl_sexpr.specs.Text.{ReadsOrBreaks}
use Rattle.cl_text.specs.Parsed.{Reading, Broken, items_outcome, Parses, breaks, reads}
use Rattle.cl_sexpr.proofs.TextsRead.{each_text}

pub each_parses : (text : List ℕ) → (outcome : Reading) × Parses text outcome
each_parses text = of (each_text text)
  where
    of : ReadsOrBreaks text → (outcome : Reading) × Parses text outcome
    of (inl a) = (items_outcome (length text) a.0, reads a.0 a.1 refl)
    of (inr a) = (Broken a.0, breaks a.0 a.1 refl)
