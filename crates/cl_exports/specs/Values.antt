-- Values as text and in wire form.
use Rattle.std.specs.Prelude.{◌≡◌, ℕ, List, Ok}
use Rattle.cl_values.specs.Tree.{Tree}
use Rattle.cl_values.specs.Wire.{wire}
use Rattle.cl_values.specs.Reading.{decoded}
use Rattle.cl_text.specs.Parsed.{Parses, Stands}
use Rattle.cl_text.specs.Printed.{printed}

-- the text stands for a value with this wire form
pub record IsWireOf (text bytes : List ℕ) : Type 0 where
  pub value : Tree
  pub stands : Parses text (Stands value)
  pub is : bytes ≡ wire value

-- the bytes are the wire form of a value that prints so
pub record IsTextOf (bytes text : List ℕ) : Type 0 where
  pub value : Tree
  pub decodes : decoded bytes ≡ Ok value
  pub is : text ≡ printed value
