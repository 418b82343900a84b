-- What natives come to, but for the limits of depth and size, which the type keeps for them.
use Rattle.std.proofs.Common.{◌≡◌, Bool, true}
use Rattle.cl_types.specs.Types.{PlainType}
use Rattle.cl_values.specs.Computed.{Computed, Gives, Fails, Panics, Undefined}
use Rattle.cl_values.proofs.OfTypes.{IsIn, IsLimited, is_of}
use Rattle.cl_native_sound.specs.Ending.{EndsAs}

-- as `EndsAs`, but for the limits
abbrev pub ComesTo : (fails panics : Bool) → PlainType → Computed → Type 0
ComesTo fails panics t (Gives v) = IsIn v t
ComesTo fails panics t (Fails why) = fails ≡ true
ComesTo fails panics t Panics = panics ≡ true
ComesTo fails panics t Undefined = ⊥

pub ends_as : (f p : Bool) (t : PlainType) (c : Computed) → IsLimited t → ComesTo f p t c → EndsAs f p t c
ends_as f p t (Gives v) s h = is_of v t s h
ends_as f p t (Fails why) s h = h
ends_as f p t Panics s h = h
ends_as f p t Undefined s h = h
