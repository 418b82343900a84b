-- Two assets of principals are one where their parts are.
use Rattle.std.proofs.Common.{◌≡◌, ℕ, false, List, [], ◌∷◌, Option, None, Some, refl, sym, ap, ◌∙◌}
use Rattle.std.specs.declared.cmp.Ordering.{Ordering}
use Rattle.std.specs.declared.cmp.Ordering.TheVariants.{Less, Equal, Greater}
use Rattle.std.specs.Ordering.{ordering_then, is_eq, nat_cmp}
use Rattle.std.specs.Cmp.{both_tied, unsigned_ties, eq_by_cmp_equiv}
use Rattle.std.specs.Cmp.Lexicographic.{texts_ties}
use Rattle.cl_c32.specs.declared.principal.Principal.{Principal}
use Rattle.cl_c32.specs.Principals.{same_part, same_principal}
use Rattle.cl_maps.specs.Maps.{key_cmp}
use Rattle.cl_values.specs.Wire.{wire}
use Rattle.cl_events.specs.declared.event.Move.{Move}
use Rattle.cl_events.specs.declared.event.Asset.{Asset}
use Rattle.cl_events.specs.declared.event.Asset.TheVariants.{Stx, Ft, Nft}
use Rattle.cl_post.specs.Post.{is_asset, is_of}
use Rattle.cl_post.specs.Holdings.{contract_part, behind, asset_parts, parts_of, parts_cmp, parts_total, principal_cmp}

regrouped : (v h c rest : Ordering) → ordering_then (ordering_then v Equal) (ordering_then h (ordering_then c rest)) ≡ ordering_then (ordering_then (ordering_then v h) c) rest
regrouped Less h c rest = refl
regrouped Greater h c rest = refl
regrouped Equal Less c rest = refl
regrouped Equal Greater c rest = refl
regrouped Equal Equal c rest = refl

pub behind_cmp : (p q : Principal) (xs ys : List (List ℕ)) → parts_cmp (behind p xs) (behind q ys) ≡ ordering_then (principal_cmp p q) (parts_cmp xs ys)
behind_cmp p q xs ys = regrouped (nat_cmp p.address.version q.address.version) (key_cmp p.address.hash q.address.hash) (key_cmp (contract_part p.contract) (contract_part q.contract)) (parts_cmp xs ys)

ended : (a : Ordering) → ordering_then a Equal ≡ a
ended Less = refl
ended Equal = refl
ended Greater = refl

nested : (a b c : Ordering) → ordering_then (ordering_then a b) c ≡ ordering_then a (ordering_then b c)
nested Less b c = refl
nested Equal b c = refl
nested Greater b c = refl

-- a name behind a principal, and then as it goes on
pub named_cmp : (p q : Principal) (name other : List ℕ) (xs ys : List (List ℕ)) (rest : Ordering) → rest ≡ parts_cmp xs ys
    → ordering_then (ordering_then (principal_cmp p q) (key_cmp name other)) rest ≡ parts_cmp (behind p (name ∷ xs)) (behind q (other ∷ ys))
named_cmp p q name other xs ys rest is =
    nested (principal_cmp p q) (key_cmp name other) rest
    ∙ ap (λ r. ordering_then (principal_cmp p q) (ordering_then (key_cmp name other) r)) is
    ∙ sym (behind_cmp p q (name ∷ xs) (other ∷ ys))

pub token_cmp : (p q : Principal) (name other : List ℕ) → ordering_then (principal_cmp p q) (key_cmp name other) ≡ parts_cmp (behind p (name ∷ [])) (behind q (other ∷ []))
token_cmp p q name other = ap (ordering_then (principal_cmp p q)) (sym (ended (key_cmp name other))) ∙ sym (behind_cmp p q (name ∷ []) (other ∷ []))

pub asset_cmp : (p q : Principal) (name other v w : List ℕ) → ordering_then (ordering_then (principal_cmp p q) (key_cmp name other)) (key_cmp v w) ≡ parts_cmp (behind p (name ∷ v ∷ [])) (behind q (other ∷ w ∷ []))
asset_cmp p q name other v w = named_cmp p q name other (v ∷ []) (w ∷ []) (key_cmp v w) (sym (ended (key_cmp v w)))

-- ------------------------------------------------------------ equality

one_part : (a b : Option (List ℕ)) → same_part a b ≡ is_eq (key_cmp (contract_part a) (contract_part b))
one_part None None = refl
one_part None (Some y) = refl
one_part (Some x) None = refl
one_part (Some x) (Some y) = texts_ties x y

one_principal : (p q : Principal) → same_principal p q ≡ is_eq (principal_cmp p q)
one_principal p q =
    let v = nat_cmp p.address.version q.address.version in
    let h = key_cmp p.address.hash q.address.hash in
    let c = key_cmp (contract_part p.contract) (contract_part q.contract) in
    both_tied _ _ (ordering_then v h) c (both_tied _ _ v h (unsigned_ties p.address.version q.address.version) (texts_ties p.address.hash q.address.hash)) (one_part p.contract q.contract)

apart : (a c : Ordering) → is_eq c ≡ false → false ≡ is_eq (ordering_then a c)
apart Less c is = refl
apart Greater c is = refl
apart Equal c is = sym is

one_asset : (a b : Asset) → is_asset a b ≡ is_eq (parts_cmp (asset_parts a) (asset_parts b))
one_asset Stx Stx = refl
one_asset Stx (Ft q other) = refl
one_asset Stx (Nft q other w) = refl
one_asset (Ft p name) Stx = refl
one_asset (Nft p name v) Stx = refl
one_asset (Ft p name) (Ft q other) = both_tied _ _ (principal_cmp p q) (key_cmp name other) (one_principal p q) (texts_ties name other) ∙ ap is_eq (token_cmp p q name other)
one_asset (Ft p name) (Nft q other w) = apart (ordering_then (principal_cmp p q) (key_cmp name other)) Less refl ∙ ap is_eq (named_cmp p q name other [] (wire w ∷ []) Less refl)
one_asset (Nft p name v) (Ft q other) = apart (ordering_then (principal_cmp p q) (key_cmp name other)) Greater refl ∙ ap is_eq (named_cmp p q name other (wire v ∷ []) [] Greater refl)
one_asset (Nft p name v) (Nft q other w) =
    both_tied _ _ (ordering_then (principal_cmp p q) (key_cmp name other)) (key_cmp (wire v) (wire w))
    (both_tied _ _ (principal_cmp p q) (key_cmp name other) (one_principal p q) (texts_ties name other))
    refl
    ∙ ap is_eq (asset_cmp p q name other (wire v) (wire w))

-- a move is of an asset by a principal where the parts are the same
pub of_parts : (p : Principal) (asset : Asset) (m : Move) → is_of p asset m ≡ is_eq (parts_cmp (parts_of p asset) (parts_of m.from m.asset))
unfolding is_of
of_parts p asset m =
    both_tied _ _ (principal_cmp p m.from) (parts_cmp (asset_parts asset) (asset_parts m.asset)) (one_principal p m.from) (one_asset asset m.asset)
    ∙ ap is_eq (sym (behind_cmp p m.from (asset_parts asset) (asset_parts m.asset)))

pub parts_of_move : (p : Principal) (asset : Asset) (m : Move) → is_of p asset m ≡ is_eq (parts_cmp (parts_of m.from m.asset) (parts_of p asset))
parts_of_move p asset m = of_parts p asset m ∙ (eq_by_cmp_equiv parts_total).symm (parts_of p asset) (parts_of m.from m.asset)
