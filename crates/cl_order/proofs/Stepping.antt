-- One step of a search.
use Rattle.std.proofs.Common.{◌≡◌, refl, sym, ap, subst, ◌∙◌, ℕ, zero, suc, ◌<◌, ◌≤◌, ◌+◌, List, [], ◌∷◌, ◌++◌, length, length-append, drop, drop-cons, drop_of_length-le, get_or, set, length-set, arith, Bool, true, false, nat_eq, eq-eqb, if◌then◌else◌, Result, Ok, Err, OnOk, replicate}
use Rattle.std.proofs.lemmas.List.{get_or-replicate, length-replicate}
use Rattle.std.specs.List.{IsDistinct}
use Rattle.std.proofs.lemmas.Bool.{false≢true, or_left, or_right}
use Rattle.std.proofs.lemmas.Grind.{get_or_default_zero}
use Rattle.cl_types.specs.declared.fault.Fault.{Fault}
use Rattle.cl_types.specs.Fault.{IfRefused}
use Rattle.cl_types.proofs.Faults.{refused_so as refusal_so}
use Rattle.cl_forms.specs.Forms.{Form}
use Rattle.cl_forms.specs.Order.{is_in, Visited, and_then, visit_each, part_from, visit, places_of, ordered}
use Rattle.cl_order.specs.declared.search.State.{State}
use Rattle.cl_order.specs.declared.search.State.TheVariants.{New, OnPath, Done}
use Rattle.cl_order.specs.declared.search.Frame.{Frame}
use Rattle.cl_order.specs.declared.search.Search.{Search}
use Rattle.cl_order.specs.Search.{places_on, left_on, state_at, HaveNamed, weight, IsSearch, goes_on, answer, work_new, work_on, work, Begins, Steps, Visits}
use Rattle.cl_order.proofs.Members.{in_front, in_last}
use Rattle.cl_order.proofs.Named.{next, next_named, named_below}
use Rattle.cl_order.proofs.Good.{IsPath, path_short, path_pushed, path_empty}
use Rattle.cl_order.proofs.Going.{Left, going_ended, going_one, going_done, going_met, going_new, going_next, going_end}
use Rattle.cl_order.proofs.States.{told_new, told_on_path, told_done, weighs_nothing, states_on_path, states_done, distinct_front, places_pushed, left_pushed, places_left, length_left, named_pushed, named_front, named_last, work_pushed, work_set}

-- ---- answers of calls

pub refused_so : {T R : Type 0} (result : Result T (Fault R)) (P Q : R → Type 0) → ((r : R) → P r → Q r) → IfRefused result P → IfRefused result Q
refused_so (Ok x) P Q so h = tt
refused_so (Err fault) P Q so h = refusal_so fault P Q so h

pub ok_so : {T E : Type 0} (result : Result T E) (P Q : Type 0) → (P → Q) → OnOk result P → OnOk result Q
ok_so (Ok x) P Q so h = so h
ok_so (Err e) P Q so h = tt

-- ---- the search

path_of : (forms : List Form) (s : Search) → IsSearch forms s → IsPath forms (places_on s.path.items)
path_of forms s sound = record { once = sound.once; within = sound.within }

-- the path is short enough for the steps
short : (forms : List Form) (s : Search) → IsSearch forms s → length (left_on s.path.items) < length forms + 1
short forms s sound =
    let few : length (places_on s.path.items) ≤ length forms = path_short forms (places_on s.path.items) (path_of forms s sound) in
    omega (arith, length_left s.path.items)

state_of : (forms : List Form) (s : Search) (m : ℕ) (found : State) → IsSearch forms s → m < length forms → found ≡ get_or s.states.items m found → state_at (places_on s.path.items) s.done.items m ≡ found
state_of forms s m found sound low read = sym (sound.states m found low) ∙ sym read

-- ---- a visit is begun

pub begun_done : (forms : List Form) (s : Search) (m : ℕ) (found : State) → IsSearch forms s → m < length forms → found ≡ get_or s.states.items m found → found ≡ Done → Begins forms s m s
unfolding answer
begun_done forms s m found sound low read is =
    let old : is_in m s.done.items ≡ true = told_done (is_in m s.done.items) (is_in m (places_on s.path.items)) (state_of forms s m found sound low read ∙ is) in
    record {
      sound = sound;
      same = going_done (length forms + 1) forms [] (left_on s.path.items) m s.done.items old;
      less = omega arith;
    }

pub begun_on_path : (forms : List Form) (s : Search) (m : ℕ) (found : State) (cycle : List ℕ) → IsSearch forms s → m < length forms → found ≡ get_or s.states.items m found → found ≡ OnPath → cycle ≡ part_from m (places_on s.path.items) → answer forms s (m ∷ []) ≡ Err cycle
unfolding answer
begun_on_path forms s m found cycle sound low read is all =
    let told : (is_in m s.done.items ≡ false) × (is_in m (places_on s.path.items) ≡ true) = told_on_path (is_in m s.done.items) (is_in m (places_on s.path.items)) (state_of forms s m found sound low read ∙ is) in
    going_met (length forms + 1) forms [] (left_on s.path.items) m s.done.items (places_on s.path.items) (short forms s sound) (places_left s.path.items) told.0 told.1
    ∙ ap (λ (c : List ℕ). Err c) (sym all)

-- a new form is neither done nor on the path
pub told_unseen : (forms : List Form) (s : Search) (m : ℕ) (found : State) → IsSearch forms s → m < length forms → found ≡ get_or s.states.items m found → found ≡ New → (is_in m s.done.items ≡ false) × (is_in m (places_on s.path.items) ≡ false)
told_unseen forms s m found sound low read is = told_new (is_in m s.done.items) (is_in m (places_on s.path.items)) (state_of forms s m found sound low read ∙ is)

unseen : (b c : Bool) → b ≡ false → c ≡ false → (if b then Done else (if c then OnPath else New)) ≡ New
unseen true c b_is c_is = absurd (false≢true (sym b_is))
unseen false true b_is c_is = absurd (false≢true (sym c_is))
unseen false false b_is c_is = refl

module _ (forms : List Form) (old new : Search) (m : ℕ) (frame : Frame) (sound : IsSearch forms old) (low : m < length forms)
    (place_is : frame.place ≡ m) (none : frame.visited ≡ 0) (named_is : frame.named.items ≡ next forms m)
    (path_is : new.path.items ≡ old.path.items ++ frame ∷ []) (states_are : new.states.items ≡ set old.states.items m OnPath) (done_is : new.done.items ≡ old.done.items)
    (undone : is_in m old.done.items ≡ false) (off : is_in m (places_on old.path.items) ≡ false) where
  new_places : places_on new.path.items ≡ places_on old.path.items ++ m ∷ []
  new_places = ap places_on path_is ∙ places_pushed old.path.items frame ∙ ap (λ (n : ℕ). places_on old.path.items ++ n ∷ []) place_is

  new_left : left_on new.path.items ≡ left_on old.path.items ++ (m, next forms m) ∷ []
  new_left =
      ap left_on path_is ∙ left_pushed old.path.items frame
      ∙ (λ i. left_on old.path.items ++ (place_is i, drop (none i) (named_is i)) ∷ [])

  new_path : IsPath forms (places_on new.path.items)
  new_path = subst (IsPath forms) (sym new_places) (path_pushed forms (places_on old.path.items) m (path_of forms old sound) low off)

  new_sound : IsSearch forms new
  new_sound = record {
    size = ap length states_are ∙ length-set old.states.items m OnPath ∙ sound.size;
    states = λ n d within.
        ap (λ (l : List State). get_or l n d) states_are
        ∙ states_on_path old.states.items (places_on old.path.items) old.done.items m n d (subst (λ (k : ℕ). m < k) (sym sound.size) low) undone (sound.states n d within)
        ∙ (λ i. state_at (sym new_places i) (sym done_is i) n);
    once = new_path.once;
    within = new_path.within;
    named = subst (HaveNamed forms) (sym path_is) (named_pushed forms old.path.items frame sound.named (named_is ∙ ap (next forms) (sym place_is)));
  }

  new_same : answer forms old (m ∷ []) ≡ answer forms new []
  unfolding answer
  new_same =
      going_new (length forms + 1) forms [] (left_on old.path.items) m old.done.items (places_on old.path.items) (short forms old sound) (places_left old.path.items) undone off
      ∙ (λ i. goes_on (length forms + 1) forms [] (sym new_left i) [] (sym done_is i))

  new_less : work forms new ≤ work forms old
  unfolding work
  new_less =
      let here : 0 + m ≡ m = omega arith in
      let count : work_new forms 0 (set old.states.items m OnPath) + weight (get_or old.states.items m New) (length (next forms m) + 2) ≡ work_new forms 0 old.states.items + 0 =
      subst (λ (k : ℕ). work_new forms 0 (set old.states.items m OnPath) + weight (get_or old.states.items m New) (length (next forms k) + 2) ≡ work_new forms 0 old.states.items + 0) here
      (work_set forms 0 old.states.items m OnPath New (subst (λ (k : ℕ). m < k) (sym sound.size) low)) in
      let new_state : get_or old.states.items m New ≡ New = sound.states m New low ∙ unseen (is_in m old.done.items) (is_in m (places_on old.path.items)) undone off in
      let full : work_new forms 0 (set old.states.items m OnPath) + (length (next forms m) + 2) ≡ work_new forms 0 old.states.items + 0 =
      subst (λ (s : State). work_new forms 0 (set old.states.items m OnPath) + weight s (length (next forms m) + 2) ≡ work_new forms 0 old.states.items + 0) new_state count in
      let states : work_new forms 0 new.states.items ≡ work_new forms 0 (set old.states.items m OnPath) = ap (work_new forms 0) states_are in
      let path : work_on (left_on new.path.items) ≡ work_on (left_on old.path.items) + (length (next forms m) + 1) = ap work_on new_left ∙ work_pushed (left_on old.path.items) m (next forms m) in
      omega arith

  pub begun_new : Begins forms old m new
  begun_new = record { sound = new_sound; same = new_same; less = new_less }

-- ---- one of those that the last form names

read_in : (xs : List ℕ) (i m : ℕ) → i < length xs → m ≡ get_or xs i 0 → is_in m xs ≡ true
read_in [] i m low is = absurd (omega arith)
read_in (x ∷ xs) zero m low is = or_left (nat_eq m x) (is_in m xs) (eq-eqb m x is)
read_in (x ∷ xs) (suc i) m low is = or_right (nat_eq m x) (is_in m xs) (read_in xs i m (omega arith) is)

-- the next of them is taken from what is left
pub record Takes (forms : List Form) (old : Search) (m : ℕ) (new : Search) : Type 0 where
  pub sound : IsSearch forms new
  pub low : m < length forms
  pub same : answer forms old [] ≡ answer forms new (m ∷ [])
  pub less : work forms new < work forms old

module _ (forms : List Form) (old new : Search) (front : List Frame) (before after : Frame) (m : ℕ) (sound : IsSearch forms old)
    (old_path : old.path.items ≡ front ++ before ∷ []) (new_path_is : new.path.items ≡ front ++ after ∷ [])
    (place_is : after.place ≡ before.place) (named_is : after.named.items ≡ before.named.items) (one_more : after.visited ≡ before.visited + 1)
    (some : before.visited < length before.named.items) (read_at : m ≡ get_or before.named.items before.visited m)
    (states_are : new.states.items ≡ old.states.items) (done_is : new.done.items ≡ old.done.items) where
  read : m ≡ get_or before.named.items before.visited 0
  read = read_at ∙ get_or_default_zero before.named.items before.visited m some

  taken_places : places_on new.path.items ≡ places_on old.path.items
  taken_places =
      ap places_on new_path_is ∙ places_pushed front after ∙ ap (λ (n : ℕ). places_on front ++ n ∷ []) place_is
      ∙ sym (ap places_on old_path ∙ places_pushed front before)

  -- what was left
  was_left : drop before.visited before.named.items ≡ m ∷ drop (before.visited + 1) before.named.items
  was_left =
      drop-cons before.named.items before.visited 0 some
      ∙ ap (λ (k : ℕ). k ∷ drop (suc before.visited) before.named.items) (sym read)
      ∙ (let plus : suc before.visited ≡ before.visited + 1 = omega arith in ap (λ (k : ℕ). m ∷ drop k before.named.items) plus)

  old_left : left_on old.path.items ≡ left_on front ++ (before.place, m ∷ drop (before.visited + 1) before.named.items) ∷ []
  old_left = ap left_on old_path ∙ left_pushed front before ∙ ap (λ (l : List ℕ). left_on front ++ (before.place, l) ∷ []) was_left

  taken_left : left_on new.path.items ≡ left_on front ++ (before.place, drop (before.visited + 1) before.named.items) ∷ []
  taken_left = ap left_on new_path_is ∙ left_pushed front after ∙ (λ i. left_on front ++ (place_is i, drop (one_more i) (named_is i)) ∷ [])

  taken_named : HaveNamed forms new.path.items
  taken_named =
      let all : HaveNamed forms (front ++ before ∷ []) = subst (HaveNamed forms) old_path sound.named in
      subst (HaveNamed forms) (sym new_path_is) (named_pushed forms front after (named_front forms front before all) (named_is ∙ named_last forms front before all ∙ ap (next forms) (sym place_is)))

  taken_sound : IsSearch forms new
  taken_sound = record {
    size = ap length states_are ∙ sound.size;
    states = λ n d within. ap (λ (l : List State). get_or l n d) states_are ∙ sound.states n d within ∙ (λ i. state_at (sym taken_places i) (sym done_is i) n);
    once = subst (IsDistinct nat_eq) (sym taken_places) sound.once;
    within = λ n h. sound.within n (subst (λ (l : List ℕ). is_in n l ≡ true) taken_places h);
    named = taken_named;
  }

  taken_low : m < length forms
  taken_low =
      let all : HaveNamed forms (front ++ before ∷ []) = subst (HaveNamed forms) old_path sound.named in
      let there : is_in m before.named.items ≡ true = read_in before.named.items before.visited m some read in
      let next_one : is_in m (next forms before.place) ≡ true = subst (λ (l : List ℕ). is_in m l ≡ true) (named_last forms front before all) there in
      named_below forms before.place m (next_named forms before.place m next_one)

  taken_same : answer forms old [] ≡ answer forms new (m ∷ [])
  unfolding answer
  taken_same =
      ap (λ (l : Left). goes_on (length forms + 1) forms [] l [] old.done.items) old_left
      ∙ going_next (length forms + 1) forms [] (left_on front) before.place m (drop (before.visited + 1) before.named.items) old.done.items
      ∙ (λ i. goes_on (length forms + 1) forms [] (sym taken_left i) (m ∷ []) (sym done_is i))

  taken_less : work forms new < work forms old
  unfolding work
  taken_less =
      let states : work_new forms 0 new.states.items ≡ work_new forms 0 old.states.items = ap (work_new forms 0) states_are in
      let new_on : work_on (left_on new.path.items) ≡ work_on (left_on front) + (length (drop (before.visited + 1) before.named.items) + 1) =
      ap work_on taken_left ∙ work_pushed (left_on front) before.place (drop (before.visited + 1) before.named.items) in
      let old_on : work_on (left_on old.path.items) ≡ work_on (left_on front) + (length (m ∷ drop (before.visited + 1) before.named.items) + 1) =
      ap work_on old_left ∙ work_pushed (left_on front) before.place (m ∷ drop (before.visited + 1) before.named.items) in
      omega arith

  pub taken : Takes forms old m new
  taken = record { sound = taken_sound; low = taken_low; same = taken_same; less = taken_less }

pub stepped : (forms : List Form) (old mid new : Search) (m : ℕ) → Takes forms old m mid → Begins forms mid m new → Steps forms old new
stepped forms old mid new m t b = record {
  sound = b.sound;
  same = t.same ∙ b.same;
  less = let low : work forms mid < work forms old = t.less in let high : work forms new ≤ work forms mid = b.less in omega arith;
}

-- ---- the last form is done

-- it has a state
pub end_stored : (forms : List Form) (s : Search) (front : List Frame) (frame : Frame) → IsSearch forms s → s.path.items ≡ front ++ frame ∷ [] → frame.place < length s.states.items
end_stored forms s front frame sound is =
    let there : is_in frame.place (places_on s.path.items) ≡ true =
    subst (λ (l : List ℕ). is_in frame.place l ≡ true) (sym (ap places_on is ∙ places_pushed front frame)) (in_last frame.place (places_on front)) in
    subst (λ (k : ℕ). frame.place < k) (sym sound.size) (sound.within frame.place there)

module _ (forms : List Form) (old new : Search) (front : List Frame) (frame : Frame) (sound : IsSearch forms old)
    (old_path : old.path.items ≡ front ++ frame ∷ []) (new_path_is : new.path.items ≡ front)
    (all_visited : length frame.named.items ≤ frame.visited)
    (states_are : new.states.items ≡ set old.states.items frame.place Done) (done_is : new.done.items ≡ old.done.items ++ frame.place ∷ []) where
  old_places : places_on old.path.items ≡ places_on front ++ frame.place ∷ []
  old_places = ap places_on old_path ∙ places_pushed front frame

  ended_left : left_on old.path.items ≡ left_on front ++ (frame.place, []) ∷ []
  ended_left = ap left_on old_path ∙ left_pushed front frame ∙ ap (λ (l : List ℕ). left_on front ++ (frame.place, l) ∷ []) (drop_of_length-le frame.named.items all_visited)

  on_path : is_in frame.place (places_on old.path.items) ≡ true
  on_path = subst (λ (l : List ℕ). is_in frame.place l ≡ true) (sym old_places) (in_last frame.place (places_on front))

  pub ended_low : frame.place < length forms
  ended_low = sound.within frame.place on_path

  stored : frame.place < length old.states.items
  stored = end_stored forms old front frame sound old_path

  ended_sound : IsSearch forms new
  ended_sound = record {
    size = ap length states_are ∙ length-set old.states.items frame.place Done ∙ sound.size;
    states = λ n d within.
        ap (λ (l : List State). get_or l n d) states_are
        ∙ states_done old.states.items (places_on front) old.done.items frame.place n d stored (sound.states n d within ∙ ap (λ (l : List ℕ). state_at l old.done.items n) old_places)
        ∙ (λ i. state_at (places_on (sym new_path_is i)) (sym done_is i) n);
    once = subst (λ (l : List Frame). IsDistinct nat_eq (places_on l)) (sym new_path_is) (distinct_front (places_on front) frame.place (subst (IsDistinct nat_eq) old_places sound.once));
    within = λ n h. sound.within n (subst (λ (l : List ℕ). is_in n l ≡ true) (sym old_places) (in_front n (places_on front) (frame.place ∷ []) (subst (λ (l : List Frame). is_in n (places_on l) ≡ true) new_path_is h)));
    named = subst (HaveNamed forms) (sym new_path_is) (named_front forms front frame (subst (HaveNamed forms) old_path sound.named));
  }

  front_short : length (left_on front) < length forms + 1
  front_short =
      let few : length (left_on old.path.items) < length forms + 1 = short forms old sound in
      let more : length (left_on old.path.items) ≡ length (left_on front ++ (frame.place, []) ∷ []) = ap length ended_left in
      omega (arith, length-append (left_on front) ((frame.place, []) ∷ []))

  ended_same : answer forms old [] ≡ answer forms new []
  unfolding answer
  ended_same =
      ap (λ (l : Left). goes_on (length forms + 1) forms [] l [] old.done.items) ended_left
      ∙ going_end (length forms + 1) forms [] (left_on front) frame.place old.done.items front_short
      ∙ (λ i. goes_on (length forms + 1) forms [] (left_on (sym new_path_is i)) [] (sym done_is i))

  ended_less : work forms new < work forms old
  unfolding work
  ended_less =
      let count : work_new forms 0 (set old.states.items frame.place Done) + weight (get_or old.states.items frame.place New) (length (next forms (0 + frame.place)) + 2) ≡ work_new forms 0 old.states.items + 0 =
      work_set forms 0 old.states.items frame.place Done New stored in
      let nothing : weight (get_or old.states.items frame.place New) (length (next forms (0 + frame.place)) + 2) ≡ 0 =
      ap (λ (s : State). weight s (length (next forms (0 + frame.place)) + 2)) (sound.states frame.place New ended_low)
      ∙ weighs_nothing (is_in frame.place old.done.items) (is_in frame.place (places_on old.path.items)) (length (next forms (0 + frame.place)) + 2) on_path in
      let states : work_new forms 0 new.states.items ≡ work_new forms 0 (set old.states.items frame.place Done) = ap (work_new forms 0) states_are in
      let new_on : work_on (left_on new.path.items) ≡ work_on (left_on front) = ap (λ (l : List Frame). work_on (left_on l)) new_path_is in
      let old_on : work_on (left_on old.path.items) ≡ work_on (left_on front) + (0 + 1) = ap work_on ended_left ∙ work_pushed (left_on front) frame.place [] in
      omega arith

  pub ended : Steps forms old new
  ended = record { sound = ended_sound; same = ended_same; less = ended_less }

-- ---- a whole visit

-- an empty path, with one place to visit
pub one_visit : (forms : List Form) (s : Search) (place : ℕ) → s.path.items ≡ [] → answer forms s (place ∷ []) ≡ visit (length forms + 1) forms [] place s.done.items
unfolding answer
one_visit forms s place empty =
    ap (λ (l : List Frame). goes_on (length forms + 1) forms [] (left_on l) (place ∷ []) s.done.items) empty
    ∙ going_one (length forms + 1) forms [] place s.done.items

pub visited : (forms : List Form) (old new : Search) (place : ℕ) → old.path.items ≡ [] → new.path.items ≡ [] → IsSearch forms new → answer forms old (place ∷ []) ≡ answer forms new [] → Visits forms old place new
unfolding answer
visited forms old new place begun ended sound same = record {
  sound = sound;
  ended = ended;
  is = sym (one_visit forms old place begun) ∙ same
      ∙ ap (λ (l : List Frame). goes_on (length forms + 1) forms [] (left_on l) [] new.done.items) ended
      ∙ going_ended (length forms + 1) forms [] new.done.items;
}

-- ---- all visits

-- what is given where the forms from a place on are left to visit
abbrev pub rest_of : List Form → ℕ → List ℕ → Visited
rest_of forms k done = visit_each (visit (length forms + 1) forms []) (places_of k (drop k forms)) done

pub all_left : (forms : List Form) → ordered forms ≡ rest_of forms 0 []
unfolding ordered
all_left forms = refl

split_at : (forms : List Form) (k : ℕ) → k < length forms → (f : Form) × (drop k forms ≡ f ∷ drop (suc k) forms)
split_at [] k low = absurd (omega arith)
split_at (f ∷ forms) zero low = (f, refl)
split_at (f ∷ forms) (suc k) low = split_at forms k (omega arith)

split : (forms : List Form) (k : ℕ) → k < length forms → (f : Form) × (drop k forms ≡ f ∷ drop (k + 1) forms)
split forms k low =
    let (f, all) = split_at forms k low in
    let plus : suc k ≡ k + 1 = omega arith in
    (f, all ∙ ap (λ (j : ℕ). f ∷ drop j forms) plus)

pub one_visited : (forms : List Form) (k : ℕ) (done more : List ℕ) → k < length forms → visit (length forms + 1) forms [] k done ≡ Ok more → rest_of forms k done ≡ rest_of forms (k + 1) more
one_visited forms k done more low is =
    let (f, all) = split forms k low in
    ap (λ (l : List Form). visit_each (visit (length forms + 1) forms []) (places_of k l) done) all
    ∙ ap (λ v. and_then v (visit_each (visit (length forms + 1) forms []) (places_of (k + 1) (drop (k + 1) forms)))) is

pub one_refused : (forms : List Form) (k : ℕ) (done cycle : List ℕ) → k < length forms → visit (length forms + 1) forms [] k done ≡ Err cycle → rest_of forms k done ≡ Err cycle
one_refused forms k done cycle low is =
    let (f, all) = split forms k low in
    ap (λ (l : List Form). visit_each (visit (length forms + 1) forms []) (places_of k l) done) all
    ∙ ap (λ v. and_then v (visit_each (visit (length forms + 1) forms []) (places_of (k + 1) (drop (k + 1) forms)))) is

pub none_left : (forms : List Form) (k : ℕ) (done : List ℕ) → length forms ≤ k → rest_of forms k done ≡ Ok done
none_left forms k done all = ap (λ (l : List Form). visit_each (visit (length forms + 1) forms []) (places_of k l) done) (drop_of_length-le forms all)

-- ---- the part of a path

-- there is none
pub part_ends : (path : List Frame) (i n place : ℕ) → length path ≤ i → n ≡ length path → part_from place (places_on (drop i path)) ≡ part_from place (places_on path) → part_from place (places_on path) ≡ places_on (drop n path)
part_ends path i n place all is before =
    sym before ∙ ap (λ (l : List Frame). part_from place (places_on l)) (drop_of_length-le path all)
    ∙ ap places_on (sym (drop_of_length-le path (let few : length path ≤ n = omega arith in few)))

-- ---- the beginning

-- all forms are new
pub all_fresh : (forms : List Form) (s : Search) → s.states.items ≡ replicate (length forms) New → s.path.items ≡ [] → s.done.items ≡ [] → IsSearch forms s
all_fresh forms s states_are path_is done_is = record {
  size = ap length states_are ∙ length-replicate (length forms) New;
  states = λ n d low.
      ap (λ (l : List State). get_or l n d) states_are ∙ get_or-replicate (length forms) n New d low
      ∙ (λ i. state_at (places_on (sym path_is i)) (sym done_is i) n);
  once = subst (λ (l : List Frame). IsDistinct nat_eq (places_on l)) (sym path_is) (path_empty forms).once;
  within = λ n h. absurd (false≢true (subst (λ (l : List Frame). is_in n (places_on l) ≡ true) path_is h));
  named = subst (HaveNamed forms) (sym path_is) tt;
}
