-- The natives of nodes by the versions that have them.
use Rattle.std.proofs.Common.{◌≡◌, true, Option, Some, None, refl, ap, sym, ◌∙◌}
use Rattle.cl_forms.specs.declared.version.Version.{Version}
use Rattle.cl_forms.specs.declared.version.Version.TheVariants.{One, Two}
use Rattle.cl_forms.specs.declared.head.Head.{Head}
use Rattle.cl_forms.specs.Heads.{Row, row_of, is_had, native}
use Rattle.cl_forms.specs.HeadNames.{name_of, head_of_row, has_head}
use Rattle.cl_forms.proofs.Found.{found_by_name, is_row}
use Rattle.cl_code.specs.declared.op.PartsNative.{PartsNative}
use Rattle.cl_code.specs.declared.op.PartsNative.TheVariants as on_parts
use Rattle.cl_code.specs.declared.op.NameNative.{NameNative}
use Rattle.cl_code.specs.declared.op.NameNative.TheVariants as on_name
use Rattle.cl_code.specs.declared.op.Iteration.{Iteration}
use Rattle.cl_code.specs.declared.op.Iteration.TheVariants as iteration
use Rattle.cl_code.specs.declared.op.Op.{Op}
use Rattle.cl_code.specs.OpNames.{parts_head, name_head, iteration_head}
use Rattle.cl_code.specs.Nodes.{goes_op, versions_of}
use Rattle.cl_code.specs.Typed.{has_version}

-- ---- natives by their names

row_found : (o : Option Row) (h : Head) → head_of_row o ≡ Some h → ((row : Row) → o ≡ Some row → row ≡ row_of row.head) → o ≡ Some (row_of h)
row_found None h e k = absurd cc
row_found (Some row) h e k =
    let same : row.head ≡ h = cc in
    ap (λ (r : Row). Some r) (k row refl ∙ ap row_of same)

pub row_by_name : (v : Version) (h : Head) → has_head v h ≡ true → native v (name_of h) ≡ Some (row_of h)
row_by_name v h had = row_found (native v (name_of h)) h (found_by_name v h had) (is_row v (name_of h))

-- a native is one of some version
head_in : (v : Version) (h : Head) → has_head v h ≡ true → (row_of h).head ≡ h
head_in v h had =
    let same : Some (row_of h).head ≡ Some h = ap head_of_row (sym (row_by_name v h had)) ∙ found_by_name v h had in
    cc

pub row_head : (h : Head) → (row_of h).head ≡ h
row_head h = by (row_of h).only refl
  where
    by : (o : Option Version) → (row_of h).only ≡ o → (row_of h).head ≡ h
    by None e = head_in One h (ap (is_had One) e)
    by (Some One) e = head_in One h (ap (is_had One) e)
    by (Some Two) e = head_in Two h (ap (is_had Two) e)

-- ---- natives that aren't on values are in each version

pub parts_had : (v : Version) (n : PartsNative) → has_head v (parts_head n) ≡ true
parts_had v on_parts.If = refl
parts_had v on_parts.Begin = refl
parts_had v on_parts.And = refl
parts_had v on_parts.Or = refl
parts_had v on_parts.Asserts = refl
parts_had v on_parts.Unwrap = refl
parts_had v on_parts.UnwrapErr = refl
parts_had v on_parts.Try = refl
parts_had v on_parts.AsContract = refl
parts_had v on_parts.Print = refl
parts_had v on_parts.StxBalance = refl
parts_had v on_parts.SendStx = refl
parts_had v on_parts.BurnStx = refl

pub name_had : (v : Version) (n : NameNative) → has_head v (name_head n) ≡ true
name_had v on_name.Get = refl
name_had v on_name.VarGet = refl
name_had v on_name.VarSet = refl
name_had v on_name.MapGet = refl
name_had v on_name.MapSet = refl
name_had v on_name.MapInsert = refl
name_had v on_name.MapDelete = refl
name_had v on_name.FtBalance = refl
name_had v on_name.FtSupply = refl
name_had v on_name.NftOwner = refl
name_had v on_name.MintFt = refl
name_had v on_name.BurnFt = refl
name_had v on_name.SendFt = refl
name_had v on_name.MintNft = refl
name_had v on_name.BurnNft = refl
name_had v on_name.SendNft = refl

pub iteration_had : (v : Version) (i : Iteration) → has_head v (iteration_head i) ≡ true
iteration_had v iteration.Map = refl
iteration_had v iteration.Filter = refl
iteration_had v iteration.Fold = refl

-- ---- the versions of a node

pub has_goes : (v : Version) (op : Op) → has_version (versions_of op) v ≡ goes_op v op
has_goes One op = refl
has_goes Two op = refl
