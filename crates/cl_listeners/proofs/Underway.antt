-- Some listeners were told, and the others not yet.
use Rattle.std.proofs.Common.{◌≡◌, ℕ, ◌+◌, ◌<◌, ◌≤◌, List, [], ◌∷◌, ◌++◌, length, map, set, get_or, take, drop, refl, sym, ap, ◌∙◌, subst, append_assoc, append-nil, arith}
use Rattle.std.proofs.lemmas.List.{length-append, map-append, get_or-set_same, length-take-le}
use Rattle.std.proofs.Math.ListN.{length-set}
use Rattle.std.proofs.Math.Seq.{set-append_seam, get_or-append_seam, take-append_seam, drop-append-add}
use Rattle.cl_events.specs.declared.event.Event.{Event}
use Rattle.cl_listeners.specs.Hearing.{Heard, HeardAll, WentDeaf, Parted, nobody, stays, leaves, Told}

module _ (events : List Event) where
  one_stays : {all active deaf : List Heard} (b n : Heard) → HeardAll events b n → Parted events all active deaf → Parted events (all ++ b ∷ []) (active ++ n ∷ []) deaf
  one_stays b n h nobody = stays h nobody
  one_stays b n h (stays k more) = stays k (one_stays b n h more)
  one_stays b n h (leaves k more) = leaves k (one_stays b n h more)

  one_leaves : {all active deaf : List Heard} (b n : Heard) → WentDeaf events b n → Parted events all active deaf → Parted events (all ++ b ∷ []) active (deaf ++ n ∷ [])
  one_leaves b n h nobody = leaves h nobody
  one_leaves b n h (stays k more) = stays k (one_leaves b n h more)
  one_leaves b n h (leaves k more) = leaves k (one_leaves b n h more)

module _ {N : Type 0} (of : N → Heard) (events : List Event) (active deaf : List N) where
  -- The listeners before place i were told. `of` is what a listener is to contracts.
  pub record Underway (active' deaf' : List N) (i : ℕ) : Type 0 where
    pub all : List Heard
    pub stayed : List N
    pub rest : List N
    pub left : List Heard
    pub before : map of active ≡ all ++ map of rest
    pub now : active' ≡ stayed ++ rest
    pub here : length stayed ≡ i
    pub parted : Parted events all (map of stayed) left
    pub gone : map of deaf' ≡ map of deaf ++ left

  pub begun : Underway active deaf 0
  begun = record { all = []; stayed = []; rest = active; left = []; before = refl; now = refl; here = refl; parted = nobody; gone = sym (append-nil (map of deaf)) }

  past_end : (stayed xs : List N) (i : ℕ) → xs ≡ stayed ++ [] → length stayed ≡ i → i < length xs → ⊥
  past_end stayed xs i now here below =
      let long : length xs ≡ length stayed + 0 = ap length now ∙ length-append stayed [] in omega (arith, below, long, here)

  at_seam : (stayed rs xs : List N) (r b : N) (i : ℕ) → xs ≡ stayed ++ r ∷ rs → length stayed ≡ i → b ≡ get_or xs i b → b ≡ r
  at_seam stayed rs xs r b i now here at =
      at ∙ ap (λ ys. get_or ys i b) now ∙ ap (λ k. get_or (stayed ++ r ∷ rs) k b) (sym here) ∙ get_or-append_seam stayed r rs b

  set_seam : (stayed rs xs : List N) (r n : N) (i : ℕ) → xs ≡ stayed ++ r ∷ rs → length stayed ≡ i → set xs i n ≡ stayed ++ n ∷ rs
  set_seam stayed rs xs r n i now here = ap (λ ys. set ys i n) now ∙ ap (λ k. set (stayed ++ r ∷ rs) k n) (sym here) ∙ set-append_seam stayed r rs n

  cut_seam : (stayed rs : List N) (n : N) (i : ℕ) → length stayed ≡ i → take i (stayed ++ n ∷ rs) ++ drop (i + 1) (stayed ++ n ∷ rs) ≡ stayed ++ rs
  cut_seam stayed rs n i here =
      ap (λ k. take k (stayed ++ n ∷ rs) ++ drop (k + 1) (stayed ++ n ∷ rs)) (sym here)
      ∙ ap (λ ys. ys ++ drop (length stayed + 1) (stayed ++ n ∷ rs)) (take-append_seam stayed (n ∷ rs)) ∙ ap (λ ys. stayed ++ ys) (drop-append-add stayed (n ∷ rs) 1)

  stay_by : (all : List Heard) (stayed rest : List N) (left : List Heard) (xs ds : List N) (i : ℕ) (b n : N) → map of active ≡ all ++ map of rest → xs ≡ stayed ++ rest
      → length stayed ≡ i → Parted events all (map of stayed) left → map of ds ≡ map of deaf ++ left → i < length xs → b ≡ get_or xs i b → HeardAll events (of b) (of n)
      → Underway (set xs i n) ds (i + 1)
  stay_by all stayed [] left xs ds i b n before now here parted gone below at h = absurd (past_end stayed xs i now here below)
  stay_by all stayed (r ∷ rs) left xs ds i b n before now here parted gone below at h = record {
    all = all ++ of r ∷ [];
    stayed = stayed ++ n ∷ [];
    rest = rs;
    left = left;
    before = before ∙ sym (append_assoc all (of r ∷ []) (map of rs));
    now = set_seam stayed rs xs r n i now here ∙ sym (append_assoc stayed (n ∷ []) rs);
    here = length-append stayed (n ∷ []) ∙ ap (λ k. k + 1) here;
    parted = subst (λ ys. Parted events (all ++ of r ∷ []) ys left) (sym (map-append of stayed (n ∷ [])))
        (one_stays events (of r) (of n) (subst (λ x. HeardAll events (of x) (of n)) (at_seam stayed rs xs r b i now here at) h) parted);
    gone = gone;
  }

  leave_by : (all : List Heard) (stayed rest : List N) (left : List Heard) (xs ds : List N) (i : ℕ) (b n : N) → map of active ≡ all ++ map of rest → xs ≡ stayed ++ rest
      → length stayed ≡ i → Parted events all (map of stayed) left → map of ds ≡ map of deaf ++ left → i < length xs → b ≡ get_or xs i b → WentDeaf events (of b) (of n)
      → Underway (take i (set xs i n) ++ drop (i + 1) (set xs i n)) (ds ++ n ∷ []) i
  leave_by all stayed [] left xs ds i b n before now here parted gone below at h = absurd (past_end stayed xs i now here below)
  leave_by all stayed (r ∷ rs) left xs ds i b n before now here parted gone below at h = record {
    all = all ++ of r ∷ [];
    stayed = stayed;
    rest = rs;
    left = left ++ of n ∷ [];
    before = before ∙ sym (append_assoc all (of r ∷ []) (map of rs));
    now = ap (λ ys. take i ys ++ drop (i + 1) ys) (set_seam stayed rs xs r n i now here) ∙ cut_seam stayed rs n i here;
    here = here;
    parted = one_leaves events (of r) (of n) (subst (λ x. WentDeaf events (of x) (of n)) (at_seam stayed rs xs r b i now here at) h) parted;
    gone = map-append of ds (n ∷ []) ∙ ap (λ ys. ys ++ of n ∷ []) gone ∙ append_assoc (map of deaf) left (of n ∷ []);
  }

  pub stay : (xs ds : List N) (i : ℕ) (b n : N) → Underway xs ds i → i < length xs → b ≡ get_or xs i b → HeardAll events (of b) (of n) → Underway (set xs i n) ds (i + 1)
  stay xs ds i b n u below at h = stay_by u.all u.stayed u.rest u.left xs ds i b n u.before u.now u.here u.parted u.gone below at h

  pub leave : (xs ds : List N) (i : ℕ) (b n : N) → Underway xs ds i → i < length xs → b ≡ get_or xs i b → WentDeaf events (of b) (of n)
      → Underway (take i (set xs i n) ++ drop (i + 1) (set xs i n)) (ds ++ n ∷ []) i
  leave xs ds i b n u below at h = leave_by u.all u.stayed u.rest u.left xs ds i b n u.before u.now u.here u.parted u.gone below at h

  end_by : (all : List Heard) (stayed rest : List N) (left : List Heard) (xs ds : List N) (i : ℕ) → map of active ≡ all ++ map of rest → xs ≡ stayed ++ rest
      → length stayed ≡ i → Parted events all (map of stayed) left → map of ds ≡ map of deaf ++ left → length xs ≤ i
      → Told events (record { active = map of active; deaf = map of deaf }) (record { active = map of xs; deaf = map of ds })
  end_by all stayed [] left xs ds i before now here parted gone past = record {
    left = left;
    parted = subst (λ ys. Parted events (map of active) (map of ys) left) (sym (now ∙ append-nil stayed)) (subst (λ ys. Parted events ys (map of stayed) left) (sym (before ∙ append-nil all)) parted);
    deaf = gone;
  }
  end_by all stayed (r ∷ rs) left xs ds i before now here parted gone past =
      let long : length xs ≡ length stayed + length (r ∷ rs) = ap length now ∙ length-append stayed (r ∷ rs) in absurd (omega (arith, past, long, here))

  pub ended : (xs ds : List N) (i : ℕ) → Underway xs ds i → length xs ≤ i → Told events (record { active = map of active; deaf = map of deaf }) (record { active = map of xs; deaf = map of ds })
  ended xs ds i u past = end_by u.all u.stayed u.rest u.left xs ds i u.before u.now u.here u.parted u.gone past

  pub left_by : (xs ds xs' ds' : List N) (i : ℕ) (b n left : N) → Underway xs ds i → i < length xs → b ≡ get_or xs i b → WentDeaf events (of b) (of n)
      → xs' ≡ take i (set xs i n) ++ drop (i + 1) (set xs i n) → left ≡ get_or (set xs i n) i left → ds' ≡ ds ++ left ∷ [] → Underway xs' ds' i
  left_by xs ds xs' ds' i b n left u below at h cut value push =
      let same : left ≡ n = value ∙ get_or-set_same xs i n left below in
      subst (λ ys. Underway ys ds' i) (sym cut)
      (subst (λ ys. Underway (take i (set xs i n) ++ drop (i + 1) (set xs i n)) ys i) (sym (push ∙ ap (λ k. ds ++ k ∷ []) same)) (leave xs ds i b n u below at h))

module _ {N : Type 0} where
  pub still_within : (xs xs' : List N) (i : ℕ) (n : N) → i < length xs → xs' ≡ take i (set xs i n) ++ drop (i + 1) (set xs i n) → i ≤ length xs'
  still_within xs xs' i n below cut =
      let long : length (set xs i n) ≡ length xs = length-set xs i n in
      let front : length (take i (set xs i n)) ≡ i = length-take-le i (set xs i n) (omega (arith, below, long)) in
      let whole : length xs' ≡ length (take i (set xs i n)) + length (drop (i + 1) (set xs i n)) = ap length cut ∙ length-append (take i (set xs i n)) (drop (i + 1) (set xs i n)) in
      omega (arith, front, whole)
