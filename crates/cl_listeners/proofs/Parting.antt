-- Who stays and who leaves, by their numbers, and over calls one after another.
use Rattle.std.proofs.Common.{◌≡◌, suc, ◌+◌, ◌≤◌, List, [], ◌∷◌, ◌++◌, length, take, refl, sym, ap, ◌∙◌, subst, append_assoc, append-nil, All, arith}
use Rattle.std.specs.Bool.{nat_eq}
use Rattle.std.specs.List.{Any}
use Rattle.std.specs.List.Sorted.{IsPermutation}
use Rattle.std.specs.Cmp.{nat_eq_equiv}
use Rattle.std.proofs.lemmas.List.{map-append, length-append, take-append-le}
use Rattle.std.proofs.lemmas.List.Elements.{All-nil, All-cons, All-weaker}
use Rattle.std.proofs.lemmas.List.Sorted.{IsPermutation-refl, IsPermutation-sym, IsPermutation-cons, IsPermutation-trans, IsPermutation-append_left, IsPermutation-append_right, IsPermutation-append_comm, IsPermutation-middle, IsPermutation-map}
use Rattle.std.proofs.lemmas.Map.Keys.{IsDistinct-IsPermutation}
use Rattle.std.proofs.Math.Seq.{take-append-add}
use Rattle.cl_ports.specs.Growth.{Rose}
use Rattle.cl_events.specs.declared.event.Event.{Event}
use Rattle.cl_listeners.specs.Hearing.{Heard, Both, with_more, numbers, all_numbers, AreDistinct, HeardAll, WentDeaf, Parted, nobody, stays, leaves, Told, ToldInTurn}
use Rattle.cl_listeners.proofs.Heard.{nothing_more, more_and_more}

-- ---- numbers

module _ (events : List Event) where
  -- those that stay and those that leave are all
  pub parted_numbers : {all active left : List Heard} → Parted events all active left → IsPermutation (numbers all) (numbers active ++ numbers left)
  parted_numbers nobody = IsPermutation-refl []
  parted_numbers (stays {before} {now} {all} {active} {deaf} h more) =
      subst (λ n. IsPermutation (numbers (before ∷ all)) (n ∷ (numbers active ++ numbers deaf))) (sym h.number)
      (IsPermutation-cons before.number (numbers all) (numbers active ++ numbers deaf) (parted_numbers more))
  parted_numbers (leaves {before} {now} {all} {active} {deaf} h more) =
      subst (λ n. IsPermutation (numbers (before ∷ all)) (numbers active ++ n ∷ numbers deaf)) (sym h.number)
      (IsPermutation-trans _ _ _ (IsPermutation-cons before.number (numbers all) (numbers active ++ numbers deaf) (parted_numbers more))
      (IsPermutation-sym _ _ (IsPermutation-middle (numbers active) before.number (numbers deaf))))

  -- and with those that were deaf before
  pub numbers_by : (before now : Both) (left gone : List Heard) → Parted events before.active now.active left → IsPermutation left gone → now.deaf ≡ before.deaf ++ gone
      → IsPermutation (all_numbers before) (all_numbers now)
  numbers_by before now left gone parted same deaf =
      let a = numbers now.active in
      let l = numbers left in
      let g = numbers gone in
      let d = numbers before.deaf in
      let split : numbers now.deaf ≡ d ++ g = ap numbers deaf ∙ map-append (λ h. h.number) before.deaf gone in
      let first : IsPermutation (all_numbers before) ((a ++ l) ++ d) = IsPermutation-append_left d (numbers before.active) (a ++ l) (parted_numbers parted) in
      let swapped : IsPermutation (l ++ d) (d ++ l) = IsPermutation-append_comm l d in
      let renamed : IsPermutation (d ++ l) (d ++ g) = IsPermutation-append_right d l g (IsPermutation-map (λ h. h.number) left gone same) in
      let last : IsPermutation (a ++ (l ++ d)) (a ++ (d ++ g)) = IsPermutation-append_right a (l ++ d) (d ++ g) (IsPermutation-trans _ _ _ swapped renamed) in
      subst (λ ns. IsPermutation (all_numbers before) (a ++ ns)) (sym split)
      (IsPermutation-trans _ _ _ first (subst (λ ns. IsPermutation ns (a ++ (d ++ g))) (sym (append_assoc a l d)) last))

  -- ---- what each heard

  heads : {P : Heard → Type 0} (b : Heard) (bs : List Heard) → P b → Any P (b ∷ bs)
  heads b bs p = (0, b, omega arith, refl, p)

  behind : {P : Heard → Type 0} (b : Heard) (bs : List Heard) → Any P bs → Any P (b ∷ bs)
  behind b bs (k, x, below, at, p) = (suc k, x, omega (arith, below), at, p)

  abbrev HeardAllOf : List Heard → Heard → Type 0
  HeardAllOf all l = Any (λ b. HeardAll events b l) all

  abbrev FailedOf : List Heard → Heard → Type 0
  FailedOf all l = Any (λ b. WentDeaf events b l) all

  one_more_heard : (b : Heard) (all ls : List Heard) → All (HeardAllOf all) ls → All (HeardAllOf (b ∷ all)) ls
  one_more_heard b all ls h = All-weaker (HeardAllOf all) (HeardAllOf (b ∷ all)) (λ l p. behind {P = λ x. HeardAll events x l} b all p) ls h

  one_more_failed : (b : Heard) (all ls : List Heard) → All (FailedOf all) ls → All (FailedOf (b ∷ all)) ls
  one_more_failed b all ls h = All-weaker (FailedOf all) (FailedOf (b ∷ all)) (λ l p. behind {P = λ x. WentDeaf events x l} b all p) ls h

  pub each_stays : {all active left : List Heard} → Parted events all active left → All (HeardAllOf all) active
  each_stays nobody = All-nil (HeardAllOf [])
  each_stays (stays {before} {now} {all} {active} h more) =
      All-cons (HeardAllOf (before ∷ all)) now active (heads {P = λ x. HeardAll events x now} before all h) (one_more_heard before all active (each_stays more))
  each_stays (leaves {before} {now} {all} {active} h more) = one_more_heard before all active (each_stays more)

  pub each_leaves : {all active left : List Heard} → Parted events all active left → All (FailedOf all) left
  each_leaves nobody = All-nil (FailedOf [])
  each_leaves (stays {before} {now} {all} {active} {deaf} h more) = one_more_failed before all deaf (each_leaves more)
  each_leaves (leaves {before} {now} {all} {active} {deaf} h more) =
      All-cons (FailedOf (before ∷ all)) now deaf (heads {P = λ x. WentDeaf events x now} before all h) (one_more_failed before all deaf (each_leaves more))

-- numbers stay distinct
pub still_distinct : (events : List Event) (before now : Both) → Told events before now → AreDistinct (all_numbers before) → AreDistinct (all_numbers now)
still_distinct events before now t own =
    IsDistinct-IsPermutation nat_eq nat_eq_equiv.symm (all_numbers before) (all_numbers now) (numbers_by events before now t.left t.left t.parted (IsPermutation-refl t.left) t.deaf) own

-- ---- no call yet

all_stay : (all : List Heard) → Parted [] all all []
all_stay [] = nobody
all_stay (l ∷ all) = stays (record { number = refl; heard = nothing_more l.heard; faults = refl }) (all_stay all)

pub nothing_told : (both : Both) → ToldInTurn [] both both
nothing_told both = record { left = []; parted = all_stay both.active; gone = []; same = IsPermutation-refl []; deaf = sym (append-nil both.deaf) }

pub no_events_told : (both : Both) → Told [] both both
no_events_told both = record { left = []; parted = all_stay both.active; deaf = sym (append-nil both.deaf) }

-- ---- one more call

module _ (events more : List Event) where
  hears_on : (b m n : Heard) → HeardAll events b m → HeardAll more m n → HeardAll (events ++ more) b n
  hears_on b m n h k = record {
    number = k.number ∙ h.number;
    heard = k.heard ∙ ap (with_more more) h.heard ∙ more_and_more b.heard events more;
    faults = k.faults ∙ h.faults;
  }

  fails_later : (b m n : Heard) → HeardAll events b m → WentDeaf more m n → WentDeaf (events ++ more) b n
  fails_later b m n h k = record {
    number = k.number ∙ h.number;
    count = length events + k.count;
    proper = let long = length-append events more in omega (arith, k.proper, long);
    heard = k.heard ∙ ap (with_more (take k.count more)) h.heard ∙ more_and_more b.heard events (take k.count more)
        ∙ ap (λ es. with_more es b.heard) (sym (take-append-add events more k.count));
    kept = subst (λ f. f ≤ n.faults) h.faults k.kept;
    rose = subst (λ f. Rose f n.faults) h.faults k.rose;
  }

  failed_before : (b n : Heard) → WentDeaf events b n → WentDeaf (events ++ more) b n
  failed_before b n h = record {
    number = h.number;
    count = h.count;
    proper = let long = length-append events more in omega (arith, h.proper, long);
    heard = h.heard ∙ ap (λ es. with_more es b.heard) (sym (take-append-le h.count events more (omega (arith, h.proper))));
    kept = h.kept;
    rose = h.rose;
  }

  -- those that left in the two calls, in their old order
  record Joined (all active first second : List Heard) : Type 0 where
    pub left : List Heard
    pub parted : Parted (events ++ more) all active left
    pub same : IsPermutation left (first ++ second)

  joined : {all between active first second : List Heard} → Parted events all between first → Parted more between active second → Joined all active first second
  joined nobody nobody = record { left = []; parted = nobody; same = IsPermutation-refl [] }
  joined (leaves {before = b} {now = n} {deaf = first} h p) q =
      let j = joined p q in
      record { left = n ∷ j.left; parted = leaves (failed_before b n h) j.parted; same = IsPermutation-cons n j.left _ j.same }
  joined (stays {before = b} {now = m} h p) (stays {now = n} k q) =
      let j = joined p q in
      record { left = j.left; parted = stays (hears_on b m n h k) j.parted; same = j.same }
  joined (stays {before = b} {now = m} {deaf = first} h p) (leaves {now = n} {deaf = second} k q) =
      let j = joined p q in
      record {
        left = n ∷ j.left;
        parted = leaves (fails_later b m n h k) j.parted;
        same = IsPermutation-trans _ _ _ (IsPermutation-cons n j.left (first ++ second) j.same) (IsPermutation-sym _ _ (IsPermutation-middle first n second));
      }

  pub more_told : (before now after : Both) → ToldInTurn events before now → Told more now after → ToldInTurn (events ++ more) before after
  more_told before now after t u =
      let j = joined t.parted u.parted in
      record {
        left = j.left;
        parted = j.parted;
        gone = t.gone ++ u.left;
        same = IsPermutation-trans _ _ _ j.same (IsPermutation-append_left u.left t.left t.gone t.same);
        deaf = u.deaf ∙ ap (λ ds. ds ++ u.left) t.deaf ∙ append_assoc before.deaf t.gone u.left;
      }
