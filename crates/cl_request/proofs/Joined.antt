-- What was read, before what is still to be read.
use Rattle.std.proofs.Common.{◌≡◌, List, [], ◌∷◌, ◌++◌, refl, ap, Option, Some, None, sym, append_assoc}
use Rattle.cl_request.specs.Pieces.{before}

-- these, before those that there may be
abbrev pub joined : {X : Type 0} → List X → Option (List X) → Option (List X)
joined xs None = None
joined xs (Some ys) = Some (xs ++ ys)

pub one_more : {X : Type 0} (xs : List X) (x : X) (o : Option (List X)) → joined xs (before (Some x) o) ≡ joined (xs ++ (x ∷ [])) o
one_more xs x None = refl
one_more xs x (Some ys) = ap Some (sym (append_assoc xs (x ∷ []) ys))
