-- A text is read on.
use Rattle.std.specs.Prelude.{◌≡◌, ◌+◌, ℕ, List, ◌++◌, length, Some}
use Rattle.cl_sexpr.specs.declared.reading.Reading.{Reading}
use Rattle.cl_sexpr.specs.Token.{Token, bare, open_after}
use Rattle.cl_sexpr.specs.Text.{Cuts}
use Rattle.cl_sexpr.specs.Progress.{tokens_read, opens}

-- from one state to another the bytes from a place up to another were read, and the brackets follow
pub record Advances (old new : Reading) (at : ℕ) (bytes : List ℕ) (at' : ℕ) (rest : List ℕ) : Type 0 where
  pub tokens : List Token
  pub read : tokens_read new ≡ tokens_read old ++ bare tokens
  pub cut : Cuts at bytes tokens at' rest
  pub follow : open_after (opens old) tokens ≡ Some (opens new)
  pub place : at' + length rest ≡ at + length bytes
