-- What stands first in the text of a node.
use Rattle.cl_forms.specs.declared.head.Head.{Head}
use Rattle.cl_forms.specs.declared.head.Head.TheVariants as heads
use Rattle.cl_forms.specs.declared.head.TokenNative.TheVariants as tokens
use Rattle.cl_code.specs.declared.op.PartsNative.{PartsNative}
use Rattle.cl_code.specs.declared.op.PartsNative.TheVariants.{If, Begin, And, Or, Asserts, Unwrap, UnwrapErr, Try, AsContract, Print, StxBalance, SendStx, BurnStx}
use Rattle.cl_code.specs.declared.op.NameNative.{NameNative}
use Rattle.cl_code.specs.declared.op.NameNative.TheVariants.{Get, VarGet, VarSet, MapGet, MapSet, MapInsert, MapDelete, FtBalance, FtSupply, NftOwner, MintFt, BurnFt, SendFt, MintNft, BurnNft, SendNft}
use Rattle.cl_code.specs.declared.op.Iteration.{Iteration}
use Rattle.cl_code.specs.declared.op.Iteration.TheVariants.{Map, Filter, Fold}

-- the native of the language that it is
abbrev pub parts_head : PartsNative → Head
parts_head If = heads.If
parts_head Begin = heads.Begin
parts_head And = heads.And
parts_head Or = heads.Or
parts_head Asserts = heads.Asserts
parts_head Unwrap = heads.Unwrap
parts_head UnwrapErr = heads.UnwrapErr
parts_head Try = heads.Try
parts_head AsContract = heads.AsContract
parts_head Print = heads.Print
parts_head StxBalance = heads.StxBalance
parts_head SendStx = heads.OnToken tokens.SendStx
parts_head BurnStx = heads.OnToken tokens.BurnStx

abbrev pub name_head : NameNative → Head
name_head Get = heads.Get
name_head VarGet = heads.VarGet
name_head VarSet = heads.VarSet
name_head MapGet = heads.MapGet
name_head MapSet = heads.MapSet
name_head MapInsert = heads.MapInsert
name_head MapDelete = heads.MapDelete
name_head FtBalance = heads.FtBalance
name_head FtSupply = heads.FtSupply
name_head NftOwner = heads.NftOwner
name_head MintFt = heads.OnToken tokens.MintFt
name_head BurnFt = heads.OnToken tokens.BurnFt
name_head SendFt = heads.OnToken tokens.SendFt
name_head MintNft = heads.OnToken tokens.MintNft
name_head BurnNft = heads.OnToken tokens.BurnNft
name_head SendNft = heads.OnToken tokens.SendNft

abbrev pub iteration_head : Iteration → Head
iteration_head Map = heads.Map
iteration_head Filter = heads.Filter
iteration_head Fold = heads.Fold
