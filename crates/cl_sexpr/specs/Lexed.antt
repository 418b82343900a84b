-- What the lexer's values mean.
use Rattle.std.specs.Prelude.{◌≡◌, ℕ, pos, ◌+◌, ◌<◌, ◌≤◌, ◌^◌, List, length, take, slice_index_or, true, false, Option, Some, None, Result, Ok, Err}
use Rattle.std.specs.List.{list_all}
use Rattle.cl_types.specs.Name.{is_digit}
use Rattle.cl_sexpr.specs.declared.rule.Rule.{Rule}
use Rattle.cl_sexpr.specs.declared.leaf.Leaf.{Leaf as Found}
use Rattle.cl_sexpr.specs.declared.leaf.Leaf.TheVariants as found
use Rattle.cl_sexpr.specs.declared.number.Number.{Number}
use Rattle.cl_sexpr.specs.declared.number.Number.TheVariants as number
use Rattle.cl_sexpr.specs.declared.lexer.Token.{Token as FoundToken}
use Rattle.cl_sexpr.specs.declared.lexer.Token.TheVariants as given
use Rattle.cl_sexpr.specs.Tree.{Leaf, Named, Signed, Unsigned, Bytes, Ascii, Unicode, Standing, Local}
use Rattle.cl_sexpr.specs.Token.{Token, Separator, Comment, Colon, Comma, Opens, Closes, OpensTuple, ClosesTuple, Is, Faulty}
use Rattle.cl_sexpr.specs.Leaf.{is_run_byte, value_of}
use Rattle.cl_sexpr.specs.Text.{token_at}

abbrev pub leaf : Found → Leaf
leaf (found.Named name) = Named name
leaf (found.Int value) = Signed value
leaf (found.Uint value) = Unsigned value
leaf (found.Buff bytes) = Bytes bytes.items
leaf (found.Ascii text) = Ascii text.items
leaf (found.Utf8 text) = Unicode text.items
leaf (found.Standing principal) = Standing principal
leaf (found.Local name) = Local name

abbrev pub leaf_result : Result Found Rule → Result Leaf Rule
leaf_result (Ok l) = Ok (leaf l)
leaf_result (Err rule) = Err rule

-- the token from a place up to another
abbrev pub token : FoundToken → ℕ → ℕ → Token
token given.Separator at end = Separator
token given.Comment at end = Comment
token given.Colon at end = Colon
token given.Comma at end = Comma
token given.Opens at end = Opens at
token given.Closes at end = Closes end
token given.OpensTuple at end = OpensTuple at
token given.ClosesTuple at end = ClosesTuple end
token (given.Item l) at end = Is (leaf l) (record { start = at; end = end })
token (given.Faulty r) at end = Faulty r

abbrev pub mark_token : Option FoundToken → ℕ → Option Token
mark_token (Some t) at = Some (token t at (at + 1))
mark_token None at = None

-- the bytes at a place begin with this token, which has so many of them
pub record Lexes (t : FoundToken) (n at : ℕ) (bytes : List ℕ) : Type 0 where
  pub some : 0 < n
  pub within : n ≤ length bytes
  pub spells : token_at at bytes ≡ Ok (token t at (at + n), n)

abbrev pub number_leaf : Number → Found
number_leaf (number.Int value) = found.Int (pos value)
number_leaf (number.Uint value) = found.Uint value

-- the first n bytes are digits that spell a number, and a run of bytes ends behind them
pub record DigitRun (value n : ℕ) (bytes : List ℕ) : Type 0 where
  pub some : 0 < n
  pub within : n ≤ length bytes
  pub digits : list_all is_digit (take n bytes) ≡ true
  pub spells : value ≡ value_of (take n bytes)
  pub small : value < 2 ^ 64
  pub ends : n < length bytes → is_run_byte (slice_index_or bytes n 0) ≡ false
