-- Values and principals as text.
use Rattle.std.specs.Prelude.{ℕ, ◌==◌, ◌&&◌, nat_le, false, if◌then◌else◌, List, [], ◌∷◌, ◌++◌, Option, Some, None, codes, decimal}
use Rattle.std.specs.Fmt.{signed_decimal, digits}
use Rattle.std.specs.List.{flat_map}
use Rattle.hex.specs.Hex.{encode_lower}
use Rattle.cl_c32.specs.Codec.{address_text}
use Rattle.cl_c32.specs.declared.principal.Principal.{Principal}
use Rattle.cl_values.specs.Tree.{Tree, IntV, UintV, BoolV, BuffV, AsciiV, Utf8V, PrincipalV, ListV, TupleV, NoneV, SomeV, ResponseV, Items, NoItem, Item, Entries, NoEntry, Entry}

-- the letter that stands behind a \ for " \ LF CR tab and byte 0
abbrev pub escape_letter : ℕ → Option ℕ
escape_letter c =
    if c == 34 then Some 34
    else (if c == 92 then Some 92
    else (if c == 10 then Some 110
    else (if c == 13 then Some 114
    else (if c == 9 then Some 116
    else (if c == 0 then Some 48
    else None)))))

abbrev pub escaped_or : Option ℕ → List ℕ → List ℕ
escaped_or (Some letter) plain = 92 ∷ letter ∷ []
escaped_or None plain = plain

-- a character in an ASCII string
abbrev pub ascii_text : ℕ → List ℕ
ascii_text c = escaped_or (escape_letter c) (c ∷ [])

-- a character by its code, in lower case digits without zeros in front
abbrev pub code_text : ℕ → List ℕ
code_text c = codes "\\u{" ++ (digits 16 false c ++ codes "}")

-- a character in a UTF-8 string: as itself where it is one of 32 to 126
abbrev pub unicode_text : ℕ → List ℕ
unicode_text c = escaped_or (escape_letter c) (if nat_le 32 c && nat_le c 126 then c ∷ [] else code_text c)

abbrev pub quoted : List ℕ → List ℕ
quoted text = 34 ∷ (text ++ 34 ∷ [])

abbrev pub contract_text : Option (List ℕ) → List ℕ
contract_text None = []
contract_text (Some name) = 46 ∷ name

-- ' and the address, and for a contract a dot and its name
abbrev pub principal_text : Principal → List ℕ
principal_text p = 39 ∷ (address_text p.address ++ contract_text p.contract)

-- a key with its value
abbrev pub entry_text : List ℕ → List ℕ → List ℕ
entry_text key value = key ++ (codes ": " ++ value)

-- a value
abbrev mutual
  pub printed : Tree → List ℕ
  printed (IntV z) = signed_decimal z
  printed (UintV n) = codes "u" ++ decimal n
  printed (BoolV b) = if b then codes "true" else codes "false"
  printed (BuffV bytes) = codes "0x" ++ encode_lower bytes
  printed (AsciiV bytes) = quoted (flat_map ascii_text bytes)
  printed (Utf8V characters) = codes "u" ++ quoted (flat_map unicode_text characters)
  printed (PrincipalV p) = principal_text p
  printed (ListV vs) = codes "(list" ++ (items_text vs ++ codes ")")
  printed (TupleV es) = codes "{" ++ (entries_text es ++ codes "}")
  printed NoneV = codes "none"
  printed (SomeV v) = codes "(some " ++ (printed v ++ codes ")")
  printed (ResponseV good v) = (if good then codes "(ok " else codes "(err ") ++ (printed v ++ codes ")")

  -- a space in front of each value
  pub items_text : Items → List ℕ
  items_text NoItem = []
  items_text (Item v vs) = codes " " ++ (printed v ++ items_text vs)

  -- a comma and a space between
  pub entries_text : Entries → List ℕ
  entries_text NoEntry = []
  entries_text (Entry k v es) = entry_text k (printed v) ++ more_text es

  pub more_text : Entries → List ℕ
  more_text NoEntry = []
  more_text (Entry k v es) = codes ", " ++ (entry_text k (printed v) ++ more_text es)
