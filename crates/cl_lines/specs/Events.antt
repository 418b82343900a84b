-- How events print.
use Rattle.std.specs.Prelude.{ℕ, List, ◌++◌, codes, decimal}
use Rattle.cl_c32.specs.declared.principal.Principal.{Principal}
use Rattle.cl_values.specs.Tree.{Tree}
use Rattle.cl_text.specs.Printed.{principal_text, printed}
use Rattle.cl_events.specs.declared.event.Event.{Event}
use Rattle.cl_events.specs.declared.event.EventKind.{EventKind}
use Rattle.cl_events.specs.declared.event.EventKind.TheVariants.{Print, FtMint, FtTransfer, FtBurn, NftMint, NftTransfer, NftBurn, StxTransfer, StxBurn}

-- a uint, behind a space
unfoldable pub amount_text : ℕ → List ℕ
amount_text n = codes " u" ++ decimal n

-- a name, behind a space
abbrev pub name_text : List ℕ → List ℕ
name_text name = codes " " ++ name

-- a value, behind a space
abbrev pub value_text : Tree → List ℕ
value_text v = codes " " ++ printed v

-- a principal, behind a space
abbrev pub who_text : Principal → List ℕ
who_text p = codes " " ++ principal_text p

-- the word of an event
unfoldable pub word_of : EventKind → List ℕ
word_of (Print v) = codes "  event print"
word_of (FtMint token amount to) = codes "  event ft-mint"
word_of (FtTransfer token amount from to) = codes "  event ft-transfer"
word_of (FtBurn token amount from) = codes "  event ft-burn"
word_of (NftMint token id to) = codes "  event nft-mint"
word_of (NftTransfer token id from to) = codes "  event nft-transfer"
word_of (NftBurn token id from) = codes "  event nft-burn"
word_of (StxTransfer amount from to) = codes "  event stx-transfer"
word_of (StxBurn amount from) = codes "  event stx-burn"

-- what stands behind the contract
unfoldable pub details : EventKind → List ℕ
details (Print v) = value_text v
details (FtMint token amount to) = name_text token ++ (amount_text amount ++ who_text to)
details (FtTransfer token amount from to) = name_text token ++ (amount_text amount ++ (who_text from ++ who_text to))
details (FtBurn token amount from) = name_text token ++ (amount_text amount ++ who_text from)
details (NftMint token id to) = name_text token ++ (value_text id ++ who_text to)
details (NftTransfer token id from to) = name_text token ++ (value_text id ++ (who_text from ++ who_text to))
details (NftBurn token id from) = name_text token ++ (value_text id ++ who_text from)
details (StxTransfer amount from to) = amount_text amount ++ (who_text from ++ who_text to)
details (StxBurn amount from) = amount_text amount ++ who_text from

-- the line of an event: its word, the contract whose code made it, and what it did
unfoldable pub event_line : Event → List ℕ
event_line e = word_of e.kind ++ (who_text e.contract ++ (details e.kind ++ codes "\n"))
