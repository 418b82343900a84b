-- When there is a least supertype within the limits, and why there is none.
use Rattle.std.proofs.Common.{◌≡◌, ◌↔◌, ◌⊎◌, inl, inr, Bool, true, false, Option, Some, None, Ok, Err, if◌then◌else◌, refl, sym, ap, ◌∙◌, subst}
use Rattle.cl_types.specs.declared.sized.TyRefusal.{TyRefusal}
use Rattle.cl_types.specs.declared.sized.TyRefusal.TheVariants.{Differ, TooLarge}
use Rattle.cl_types.specs.Types.{PlainType, IsLeastSupertype, HaveNoSupertype}
use Rattle.cl_types.specs.Sized.{everywhere, is_within, IsSized}
use Rattle.cl_types.specs.Lattice.{joined, size_is_within, unless_large, least_supertype, HaveLargeSupertype}
use Rattle.cl_types.proofs.LatticeLeast.{is_least, least_joined, none_above, none_joined}
use Rattle.cl_types.proofs.LatticeKept.{joined_nearly, joined_sized, sized_within}

-- what the answer tells of the join

record Tells (o : Option PlainType) (c : PlainType) : Type 0 where
  there : o ≡ Some c
  within : everywhere size_is_within c ≡ true

tells : (o : Option PlainType) (c : PlainType) → unless_large o ≡ Ok c → Tells o c
tells None c h = absurd (cc)
tells (Some d) c h = by (everywhere size_is_within d) refl h
  where
    by : (w : Bool) → everywhere size_is_within d ≡ w → (if w then Ok d else Err TooLarge) ≡ Ok c → Tells (Some d) c
    by true e k =
        let same : d ≡ c = cc in
        record { there = ap Some same; within = subst (λ (x : PlainType). everywhere size_is_within x ≡ true) same e }
    by false e k = absurd (cc)

record TellsLarge (o : Option PlainType) : Type 0 where
  type : PlainType
  there : o ≡ Some type
  large : everywhere size_is_within type ≡ false

tells_large : (o : Option PlainType) → unless_large o ≡ Err TooLarge → TellsLarge o
tells_large None h = absurd (cc)
tells_large (Some d) h = by (everywhere size_is_within d) refl h
  where
    by : (w : Bool) → everywhere size_is_within d ≡ w → (if w then Ok d else Err TooLarge) ≡ Err TooLarge → TellsLarge (Some d)
    by true e k = absurd (cc)
    by false e k = record { type = d; there = refl; large = e }

tells_differ : (o : Option PlainType) → unless_large o ≡ Err Differ → o ≡ None
tells_differ None h = refl
tells_differ (Some d) h = absurd (by (everywhere size_is_within d) h)
  where
    by : (w : Bool) → (if w then Ok d else Err TooLarge) ≡ Err Differ → ⊥
    by true k = cc
    by false k = cc

pub ok_least : (a b c : PlainType) → least_supertype a b ≡ Ok c → IsLeastSupertype a b c
ok_least a b c h = is_least a b c (tells (joined a b) c h).there

pub ok_sized : (a b c : PlainType) → IsSized a → IsSized b → least_supertype a b ≡ Ok c → IsSized c
ok_sized a b c p q h =
    let t : Tells (joined a b) c = tells (joined a b) c h in
    joined_sized a b c t.there p q t.within

pub least_ok : (a b c : PlainType) → IsLeastSupertype a b c → everywhere size_is_within c ≡ true → least_supertype a b ≡ Ok c
least_ok a b c l w = ap unless_large (least_joined a b c l) ∙ ap (λ (x : Bool). if x then Ok c else Err TooLarge) w

pub err_differ : (a b : PlainType) → least_supertype a b ≡ Err Differ → HaveNoSupertype a b
err_differ a b h = none_above a b (tells_differ (joined a b) h)

pub differ_err : (a b : PlainType) → HaveNoSupertype a b → least_supertype a b ≡ Err Differ
differ_err a b n = ap unless_large (none_joined a b n)

pub err_large : (a b : PlainType) → least_supertype a b ≡ Err TooLarge → HaveLargeSupertype a b
err_large a b h =
    let t : TellsLarge (joined a b) = tells_large (joined a b) h in
    record { type = t.type; least = is_least a b t.type t.there; large = t.large }

pub large_err : (a b : PlainType) → HaveLargeSupertype a b → least_supertype a b ≡ Err TooLarge
large_err a b l = ap unless_large (least_joined a b l.type l.least) ∙ ap (λ (x : Bool). if x then Ok l.type else Err TooLarge) l.large

pub differ_iff : (a b : PlainType) (r : TyRefusal) → least_supertype a b ≡ Err r → (r ≡ Differ) ↔ HaveNoSupertype a b
differ_iff a b r h = (λ e. err_differ a b (h ∙ ap Err e), λ n. let k : least_supertype a b ≡ Err Differ = differ_err a b n in cc)

pub large_iff : (a b : PlainType) (r : TyRefusal) → least_supertype a b ≡ Err r → (r ≡ TooLarge) ↔ HaveLargeSupertype a b
large_iff a b r h = (λ e. err_large a b (h ∙ ap Err e), λ l. let k : least_supertype a b ≡ Err TooLarge = large_err a b l in cc)

-- what the code's test of a join tells

by_size : (w : Bool) (c x : PlainType) → (if w then Some c else None) ≡ Some x → (if w then Ok c else Err TooLarge) ≡ Ok x
by_size true c x h =
    let same : c ≡ x = cc in
    ap Ok same
by_size false c x h = absurd (cc)

by_large : (w : Bool) (c : PlainType) → (if w then Some c else None) ≡ None → (if w then Ok c else Err TooLarge) ≡ Err TooLarge
by_large true c h = absurd (cc)
by_large false c h = refl

pub found_by : (a b c x : PlainType) (o : Option PlainType) → IsSized a → IsSized b → Some c ≡ joined a b → o ≡ (if everywhere is_within c then Some c else None) → o ≡ Some x → least_supertype a b ≡ Ok x
found_by a b c x o p q there is found =
    ap unless_large (sym there)
    ∙ by_size (everywhere size_is_within c) c x (ap (λ (w : Bool). if w then Some c else None) (sym (joined_nearly a b c (sym there) p q).sizes) ∙ sym is ∙ found)

pub refused_by : (a b c : PlainType) (o : Option PlainType) → IsSized a → IsSized b → Some c ≡ joined a b → o ≡ (if everywhere is_within c then Some c else None) → o ≡ None → least_supertype a b ≡ Err TooLarge
refused_by a b c o p q there is none =
    ap unless_large (sym there)
    ∙ by_large (everywhere size_is_within c) c (ap (λ (w : Bool). if w then Some c else None) (sym (joined_nearly a b c (sym there) p q).sizes) ∙ sym is ∙ none)

pub joined_of : (a b x y : PlainType) (o : Option PlainType) → x ≡ a → y ≡ b → o ≡ joined x y → o ≡ joined a b
joined_of a b x y o p q is = is ∙ (λ i. joined (p i) (q i))

pub decided : (a b : PlainType) → ((c : PlainType) × IsLeastSupertype a b c) ⊎ HaveNoSupertype a b
decided a b = by (joined a b) refl
  where
    by : (o : Option PlainType) → joined a b ≡ o → ((c : PlainType) × IsLeastSupertype a b c) ⊎ HaveNoSupertype a b
    by (Some c) e = inl (c, is_least a b c e)
    by None e = inr (none_above a b e)

pub sized_ok : (a b c : PlainType) → IsLeastSupertype a b c → IsSized c → least_supertype a b ≡ Ok c
sized_ok a b c l s = least_ok a b c l (sized_within c s)

pub no_other : (a b : PlainType) (r : TyRefusal) → least_supertype a b ≡ Err r → (r ≡ Differ) ⊎ (r ≡ TooLarge)
no_other a b r = by (joined a b)
  where
    by_test : (w : Bool) (c : PlainType) → (if w then Ok c else Err TooLarge) ≡ Err r → (r ≡ Differ) ⊎ (r ≡ TooLarge)
    by_test true c h = absurd (cc)
    by_test false c h =
        let same : r ≡ TooLarge = cc in
        inr same

    by : (o : Option PlainType) → unless_large o ≡ Err r → (r ≡ Differ) ⊎ (r ≡ TooLarge)
    by (Some c) h = by_test (everywhere size_is_within c) c h
    by None h =
        let same : r ≡ Differ = cc in
        inl same
