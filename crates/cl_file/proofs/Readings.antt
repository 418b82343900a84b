-- What the bytes of a file read as is one, since each text has one outcome.
use Rattle.std.proofs.Common.{◌≡◌, ℕ, List, sym, ap, ◌∙◌}
use Rattle.cl_text.specs.Parsed.{Reading, Parses}
use Rattle.cl_file.specs.Objects.{Values, Texts, value_in}
use Rattle.cl_file.specs.Files.{file_of}
use Rattle.cl_file.specs.Laws.{OneFile, EachFile}
use Rattle.cl_text.proofs.EachParses.{each_parses}

module _ (one : (text : List ℕ) (a b : Reading) → Parses text a → Parses text b → a ≡ b) where
  -- the values of texts
  the_texts : Texts
  the_texts = record {
    of = λ text. value_in (each_parses text).0;
    right = λ text outcome parses. ap value_in (one text (each_parses text).0 outcome (each_parses text).1 parses);
  }

  they_are : (v : Texts) → v.of ≡ the_texts.of
  unfolding the_texts
  they_are v = λ i text. v.right text (each_parses text).0 (each_parses text).1 i

  pub one_file : OneFile
  one_file bytes a b p q = sym (p the_texts) ∙ q the_texts

  pub each_file : EachFile
  each_file bytes = (file_of the_texts.of bytes, λ v. ap (λ (values : Values). file_of values bytes) (they_are v))
