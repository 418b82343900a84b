-- A UTF-8 string that is read whole.
use Rattle.std.proofs.Common.{◌≡◌, ℕ, ◌==◌, List, ◌++◌, length, drop, ap, sym, ◌∙◌}
use Rattle.std.specs.Prelude.{Ok, Err}
use Rattle.std.specs.Str.{chars, IsUtf8}
use Rattle.std.specs.Str.Lossy.{utf8_valid_len}
use Rattle.std.proofs.lemmas.Str.{utf8_valid_len-IsUtf8}
use Rattle.cl_values.specs.declared.fault.DecodeRefusal.TheVariants.{BadText}
use Rattle.cl_values.specs.Tree.{Utf8V}
use Rattle.cl_values.specs.Reading.{Read, and_then, place, read_counted, read_utf8, as_text}
use Rattle.cl_values.proofs.Back.{if_true, eq_test}

pub utf8_read : (total : ℕ) (bytes text rest items : List ℕ) → read_counted total bytes ≡ Ok (text, rest) → IsUtf8 text → items ≡ chars text → read_utf8 total bytes ≡ Ok (Utf8V items, rest)
utf8_read total bytes text rest items e u same =
    let good : ℕ = utf8_valid_len text in
    ap (λ (r : Read (List ℕ)). and_then r (λ t left. as_text total (utf8_valid_len t) t left (Utf8V (chars t)))) e
    ∙ if_true (good == length text) (Ok (Utf8V (chars text), rest)) (Err (BadText (place total (drop good text ++ rest)))) (eq_test good (length text) (utf8_valid_len-IsUtf8 text u))
    ∙ ap (λ (cs : List ℕ). Ok (Utf8V cs, rest)) (sym same)
