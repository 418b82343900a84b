-- Each native is found under its name in the versions that have it, and under no other; each row that is found is that of its
-- head.
use Rattle.std.proofs.Common.{◌≡◌, ℕ, Bool, true, false, List, [], ◌∷◌, Option, Some, None, refl, sym, ap, ◌∙◌, subst}
use Rattle.std.specs.Prelude.{map, if◌then◌else◌}
use Rattle.std.specs.List.{list_all}
use Rattle.std.specs.Str.{bytes_eq}
use Rattle.std.proofs.lemmas.Option.{none-some}
use Rattle.std.proofs.lemmas.Bool.{and_parts}
use Rattle.std.proofs.lemmas.Slice.Eq.{bytes_eq-Decides}
use Rattle.cl_forms.specs.Heads.{Version, One, Two, is_had, Add, Subtract, Multiply, Divide, Modulo, Power, Xor, SquareRoot, Log2, ToInt, ToUint, Not, Less, AtMost, Greater, AtLeast, Same, Sha256, Sha512Of256, Sha512, MakeSome, MakeOk, MakeErr, IsSome, IsNone, IsOk, IsErr, DefaultTo, UnwrapPanic, UnwrapErrPanic, MakeList, Merge, Append, Concat, Len, ElementAt, IndexOf, ContentLess, ContentAtMost, ContentGreater, ContentAtLeast, BitAnd, BitOr, BitXor, BitNot, ShiftLeft, ShiftRight, Slice, ReplaceAt, EntryAt, PlaceOf, ToConsensusBuff, MintFt, BurnFt, SendFt, MintNft, BurnNft, SendNft, SendStx, BurnStx, Head, OnValues, OnToken, TupleOf, AsMaxLen, Get, VarGet, VarSet, MapGet, MapSet, MapInsert, MapDelete, FtBalance, FtSupply, StxBalance, NftOwner, Print, If, Let, Begin, And, Or, Asserts, Unwrap, UnwrapErr, Try, Match, AsContract, Map, Filter, Fold, ContractCall, Row, row_of, table, row_in, native}
use Rattle.cl_forms.specs.HeadNames.{name_of, head_of_row, head_of, has_head}

-- in each version
in_both : (P : Version → Type 0) → P One → P Two → (version : Version) → P version
in_both P one two One = one
in_both P one two Two = two

-- a native that both versions have is found in both
abbrev IsFound : Head → Version → Type 0
IsFound h version = has_head version h ≡ true → head_of version (name_of h) ≡ Some h

found_in : (h : Head) (version : Version) → IsFound h version
unfolding native
found_in (OnValues Add) = in_both (IsFound (OnValues Add)) (λ had. refl) (λ had. refl)
found_in (OnValues Subtract) = in_both (IsFound (OnValues Subtract)) (λ had. refl) (λ had. refl)
found_in (OnValues Multiply) = in_both (IsFound (OnValues Multiply)) (λ had. refl) (λ had. refl)
found_in (OnValues Divide) = in_both (IsFound (OnValues Divide)) (λ had. refl) (λ had. refl)
found_in (OnValues Modulo) = in_both (IsFound (OnValues Modulo)) (λ had. refl) (λ had. refl)
found_in (OnValues Power) = in_both (IsFound (OnValues Power)) (λ had. refl) (λ had. refl)
found_in (OnValues Xor) = in_both (IsFound (OnValues Xor)) (λ had. refl) (λ had. refl)
found_in (OnValues SquareRoot) = in_both (IsFound (OnValues SquareRoot)) (λ had. refl) (λ had. refl)
found_in (OnValues Log2) = in_both (IsFound (OnValues Log2)) (λ had. refl) (λ had. refl)
found_in (OnValues ToInt) = in_both (IsFound (OnValues ToInt)) (λ had. refl) (λ had. refl)
found_in (OnValues ToUint) = in_both (IsFound (OnValues ToUint)) (λ had. refl) (λ had. refl)
found_in (OnValues Not) = in_both (IsFound (OnValues Not)) (λ had. refl) (λ had. refl)
found_in (OnValues Less) = in_both (IsFound (OnValues Less)) (λ had. refl) (λ had. absurd cc)
found_in (OnValues AtMost) = in_both (IsFound (OnValues AtMost)) (λ had. refl) (λ had. absurd cc)
found_in (OnValues Greater) = in_both (IsFound (OnValues Greater)) (λ had. refl) (λ had. absurd cc)
found_in (OnValues AtLeast) = in_both (IsFound (OnValues AtLeast)) (λ had. refl) (λ had. absurd cc)
found_in (OnValues ContentLess) = in_both (IsFound (OnValues ContentLess)) (λ had. absurd cc) (λ had. refl)
found_in (OnValues ContentAtMost) = in_both (IsFound (OnValues ContentAtMost)) (λ had. absurd cc) (λ had. refl)
found_in (OnValues ContentGreater) = in_both (IsFound (OnValues ContentGreater)) (λ had. absurd cc) (λ had. refl)
found_in (OnValues ContentAtLeast) = in_both (IsFound (OnValues ContentAtLeast)) (λ had. absurd cc) (λ had. refl)
found_in (OnValues Same) = in_both (IsFound (OnValues Same)) (λ had. refl) (λ had. refl)
found_in (OnValues Sha256) = in_both (IsFound (OnValues Sha256)) (λ had. refl) (λ had. refl)
found_in (OnValues Sha512Of256) = in_both (IsFound (OnValues Sha512Of256)) (λ had. refl) (λ had. refl)
found_in (OnValues Sha512) = in_both (IsFound (OnValues Sha512)) (λ had. refl) (λ had. refl)
found_in (OnValues MakeSome) = in_both (IsFound (OnValues MakeSome)) (λ had. refl) (λ had. refl)
found_in (OnValues MakeOk) = in_both (IsFound (OnValues MakeOk)) (λ had. refl) (λ had. refl)
found_in (OnValues MakeErr) = in_both (IsFound (OnValues MakeErr)) (λ had. refl) (λ had. refl)
found_in (OnValues IsSome) = in_both (IsFound (OnValues IsSome)) (λ had. refl) (λ had. refl)
found_in (OnValues IsNone) = in_both (IsFound (OnValues IsNone)) (λ had. refl) (λ had. refl)
found_in (OnValues IsOk) = in_both (IsFound (OnValues IsOk)) (λ had. refl) (λ had. refl)
found_in (OnValues IsErr) = in_both (IsFound (OnValues IsErr)) (λ had. refl) (λ had. refl)
found_in (OnValues DefaultTo) = in_both (IsFound (OnValues DefaultTo)) (λ had. refl) (λ had. refl)
found_in (OnValues UnwrapPanic) = in_both (IsFound (OnValues UnwrapPanic)) (λ had. refl) (λ had. refl)
found_in (OnValues UnwrapErrPanic) = in_both (IsFound (OnValues UnwrapErrPanic)) (λ had. refl) (λ had. refl)
found_in (OnValues MakeList) = in_both (IsFound (OnValues MakeList)) (λ had. refl) (λ had. refl)
found_in TupleOf = in_both (IsFound TupleOf) (λ had. refl) (λ had. refl)
found_in (OnValues Merge) = in_both (IsFound (OnValues Merge)) (λ had. refl) (λ had. refl)
found_in (OnValues Append) = in_both (IsFound (OnValues Append)) (λ had. refl) (λ had. refl)
found_in (OnValues Concat) = in_both (IsFound (OnValues Concat)) (λ had. refl) (λ had. refl)
found_in AsMaxLen = in_both (IsFound AsMaxLen) (λ had. refl) (λ had. refl)
found_in Get = in_both (IsFound Get) (λ had. refl) (λ had. refl)
found_in (OnValues Len) = in_both (IsFound (OnValues Len)) (λ had. refl) (λ had. refl)
found_in (OnValues ElementAt) = in_both (IsFound (OnValues ElementAt)) (λ had. refl) (λ had. refl)
found_in (OnValues IndexOf) = in_both (IsFound (OnValues IndexOf)) (λ had. refl) (λ had. refl)
found_in (OnValues BitAnd) = in_both (IsFound (OnValues BitAnd)) (λ had. absurd cc) (λ had. refl)
found_in (OnValues BitOr) = in_both (IsFound (OnValues BitOr)) (λ had. absurd cc) (λ had. refl)
found_in (OnValues BitXor) = in_both (IsFound (OnValues BitXor)) (λ had. absurd cc) (λ had. refl)
found_in (OnValues BitNot) = in_both (IsFound (OnValues BitNot)) (λ had. absurd cc) (λ had. refl)
found_in (OnValues ShiftLeft) = in_both (IsFound (OnValues ShiftLeft)) (λ had. absurd cc) (λ had. refl)
found_in (OnValues ShiftRight) = in_both (IsFound (OnValues ShiftRight)) (λ had. absurd cc) (λ had. refl)
found_in (OnValues Slice) = in_both (IsFound (OnValues Slice)) (λ had. absurd cc) (λ had. refl)
found_in (OnValues ReplaceAt) = in_both (IsFound (OnValues ReplaceAt)) (λ had. absurd cc) (λ had. refl)
found_in (OnValues EntryAt) = in_both (IsFound (OnValues EntryAt)) (λ had. absurd cc) (λ had. refl)
found_in (OnValues PlaceOf) = in_both (IsFound (OnValues PlaceOf)) (λ had. absurd cc) (λ had. refl)
found_in (OnValues ToConsensusBuff) = in_both (IsFound (OnValues ToConsensusBuff)) (λ had. absurd cc) (λ had. refl)
found_in VarGet = in_both (IsFound VarGet) (λ had. refl) (λ had. refl)
found_in VarSet = in_both (IsFound VarSet) (λ had. refl) (λ had. refl)
found_in MapGet = in_both (IsFound MapGet) (λ had. refl) (λ had. refl)
found_in MapSet = in_both (IsFound MapSet) (λ had. refl) (λ had. refl)
found_in MapInsert = in_both (IsFound MapInsert) (λ had. refl) (λ had. refl)
found_in MapDelete = in_both (IsFound MapDelete) (λ had. refl) (λ had. refl)
found_in FtBalance = in_both (IsFound FtBalance) (λ had. refl) (λ had. refl)
found_in FtSupply = in_both (IsFound FtSupply) (λ had. refl) (λ had. refl)
found_in StxBalance = in_both (IsFound StxBalance) (λ had. refl) (λ had. refl)
found_in NftOwner = in_both (IsFound NftOwner) (λ had. refl) (λ had. refl)
found_in (OnToken MintFt) = in_both (IsFound (OnToken MintFt)) (λ had. refl) (λ had. refl)
found_in (OnToken BurnFt) = in_both (IsFound (OnToken BurnFt)) (λ had. refl) (λ had. refl)
found_in (OnToken SendFt) = in_both (IsFound (OnToken SendFt)) (λ had. refl) (λ had. refl)
found_in (OnToken MintNft) = in_both (IsFound (OnToken MintNft)) (λ had. refl) (λ had. refl)
found_in (OnToken BurnNft) = in_both (IsFound (OnToken BurnNft)) (λ had. refl) (λ had. refl)
found_in (OnToken SendNft) = in_both (IsFound (OnToken SendNft)) (λ had. refl) (λ had. refl)
found_in (OnToken SendStx) = in_both (IsFound (OnToken SendStx)) (λ had. refl) (λ had. refl)
found_in (OnToken BurnStx) = in_both (IsFound (OnToken BurnStx)) (λ had. refl) (λ had. refl)
found_in Print = in_both (IsFound Print) (λ had. refl) (λ had. refl)
found_in If = in_both (IsFound If) (λ had. refl) (λ had. refl)
found_in Let = in_both (IsFound Let) (λ had. refl) (λ had. refl)
found_in Begin = in_both (IsFound Begin) (λ had. refl) (λ had. refl)
found_in And = in_both (IsFound And) (λ had. refl) (λ had. refl)
found_in Or = in_both (IsFound Or) (λ had. refl) (λ had. refl)
found_in Asserts = in_both (IsFound Asserts) (λ had. refl) (λ had. refl)
found_in Unwrap = in_both (IsFound Unwrap) (λ had. refl) (λ had. refl)
found_in UnwrapErr = in_both (IsFound UnwrapErr) (λ had. refl) (λ had. refl)
found_in Try = in_both (IsFound Try) (λ had. refl) (λ had. refl)
found_in Match = in_both (IsFound Match) (λ had. refl) (λ had. refl)
found_in AsContract = in_both (IsFound AsContract) (λ had. refl) (λ had. refl)
found_in Map = in_both (IsFound Map) (λ had. refl) (λ had. refl)
found_in Filter = in_both (IsFound Filter) (λ had. refl) (λ had. refl)
found_in Fold = in_both (IsFound Fold) (λ had. refl) (λ had. refl)
found_in ContractCall = in_both (IsFound ContractCall) (λ had. refl) (λ had. refl)

pub found_by_name : (version : Version) (h : Head) → has_head version h ≡ true → head_of version (name_of h) ≡ Some h
found_by_name version h = found_in h version

-- rows that are those of their heads
abbrev own_rows : List Row → List Row
own_rows rows = map (λ row. row_of row.head) rows

some_row : (r row : Row) → Some r ≡ Some row → r ≡ row
some_row r row e = cc

row_or : (r : Row) (rows : List Row) → row_of r.head ≡ r → (name : List ℕ) (row : Row) → (row_in rows name ≡ Some row → (row ≡ row_of row.head) × (name ≡ row.name)) → (b : Bool) → bytes_eq r.name name ≡ b → (if b then Some r else row_in rows name) ≡ Some row → (row ≡ row_of row.head) × (name ≡ row.name)
row_or r rows own name row later true same found =
    subst (λ (q : Row). (q ≡ row_of q.head) × (name ≡ q.name)) (some_row r row found) (sym own, sym ((bytes_eq-Decides r.name name).0 same))
row_or r rows own name row later false same found = later found

row_found : (rows : List Row) → own_rows rows ≡ rows → (name : List ℕ) (row : Row) → row_in rows name ≡ Some row → (row ≡ row_of row.head) × (name ≡ row.name)
row_found [] own name row found = absurd (none-some row found)
row_found (r ∷ rows) own name row found =
    let first : row_of r.head ≡ r = cc in
    let rest : own_rows rows ≡ rows = cc in
    row_or r rows first name row (row_found rows rest name row) (bytes_eq r.name name) refl found

own_table : (version : Version) → own_rows (table version) ≡ table version
own_table One = refl
own_table Two = refl

-- a row that is found by a name is that of its head, and has that name
pub is_row : (version : Version) (name : List ℕ) (row : Row) → native version name ≡ Some row → row ≡ row_of row.head
unfolding native
is_row version name row found = (row_found (table version) (own_table version) name row found).0

is_named : (name : List ℕ) (o : Option Row) (h : Head) → ((row : Row) → o ≡ Some row → (row ≡ row_of row.head) × (name ≡ row.name)) → head_of_row o ≡ Some h → name ≡ name_of h
is_named name None h rows found = absurd (none-some h found)
is_named name (Some row) h rows found =
    let same : row.head ≡ h = cc in
    let both = rows row refl in
    both.1 ∙ (ap (λ (r : Row). r.name) both.0 ∙ ap name_of same)

pub named_alone : (version : Version) (name : List ℕ) (h : Head) → head_of version name ≡ Some h → name ≡ name_of h
unfolding native
named_alone version name h found = is_named name (row_in (table version) name) h (row_found (table version) (own_table version) name) found

-- ---- the version has each row that is found in it

are_had : Version → List Row → Bool
are_had version rows = list_all (λ row. is_had version row.only) rows

had_table : (version : Version) → are_had version (table version) ≡ true
unfolding are_had
had_table One = refl
had_table Two = refl

had_or : (version : Version) (r row : Row) (rest : Option Row) (b : Bool) → is_had version r.only ≡ true → (rest ≡ Some row → is_had version row.only ≡ true) → (if b then Some r else rest) ≡ Some row → is_had version row.only ≡ true
had_or version r row rest true had later found = subst (λ (q : Row). is_had version q.only ≡ true) (some_row r row found) had
had_or version r row rest false had later found = later found

row_had : (version : Version) (rows : List Row) (name : List ℕ) (row : Row) → are_had version rows ≡ true → row_in rows name ≡ Some row → is_had version row.only ≡ true
unfolding are_had
row_had version [] name row had found = absurd (none-some row found)
row_had version (r ∷ rows) name row had found =
    let both = and_parts (is_had version r.only) (are_had version rows) had in
    had_or version r row (row_in rows name) (bytes_eq r.name name) both.0 (row_had version rows name row both.1) found

pub is_had_row : (version : Version) (name : List ℕ) (row : Row) → native version name ≡ Some row → has_head version row.head ≡ true
unfolding native
is_had_row version name row found =
    subst (λ (q : Row). is_had version q.only ≡ true) (row_found (table version) (own_table version) name row found).0
    (row_had version (table version) name row (had_table version) found)
