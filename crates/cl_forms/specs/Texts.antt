-- Texts, and what language they are written in.
use Rattle.std.specs.Prelude.{ℕ, List}
pub use Rattle.cl_forms.specs.declared.version.Version.{Version}
pub use Rattle.cl_forms.specs.declared.version.Version.TheVariants.{One, Two}

-- a text: its bytes, and the version of the language that it is written in
pub record Text : Type 0 where
  pub bytes : List ℕ
  pub version : Version

abbrev pub text_of : List ℕ → Version → Text
text_of bytes version = record { bytes = bytes; version = version }
