-- Fewer than two words are no command.
use Rattle.std.proofs.Common.{◌≡◌, ◌<◌, List, [], ◌∷◌, None, length, refl, arith}
use Rattle.std.specs.declared.alloc.Global.{Global}
use Rattle.std.specs.declared.string.String.{String}
use Rattle.cl_words.specs.Words.{command_of, texts}

pub none_of_few : (words : List (String Global)) → length words < 2 → None ≡ command_of (texts words)
none_of_few [] h = refl
none_of_few (word ∷ []) h = refl
none_of_few (word ∷ other ∷ words) h = absurd (omega (arith, h))
