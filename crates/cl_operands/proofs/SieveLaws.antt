-- Truth values, and what they keep of a sequence.
use Rattle.std.proofs.Common.{◌≡◌, ℕ, zero, suc, ◌+◌, ◌<◌, ◌≤◌, ◌&&◌, Bool, true, false, not, List, [], ◌∷◌, ◌++◌, length, get_or, drop, option_map, Option, Some, None, Result, Ok, Err, append_assoc, add-one, refl, sym, ap, ◌∙◌, subst, arith, nat_le}
use Rattle.std.specs.Prelude.{if◌then◌else◌, nat_lt}
use Rattle.std.specs.List.{list_all}
use Rattle.std.proofs.lemmas.List.{append-nil, drop_all}
use Rattle.std.proofs.lemmas.Bool.{and_parts, and_from}
use Rattle.std.proofs.lemmas.Bool.Decides.{nat_tests}
use Rattle.cl_values.specs.declared.refusal.ValueRefusal.{ValueRefusal}
use Rattle.cl_values.specs.declared.refusal.ValueRefusal.TheVariants.{BadTuple, BadText, TooDeep, TooLarge}
use Rattle.cl_values.specs.Tree.{Tree as Val, BoolV, BuffV, AsciiV, Utf8V, ListV, items_of, depth_of, items_depth}
use Rattle.cl_values.specs.Wire.{size_of}
use Rattle.cl_values.specs.Valid.{IsVal, made, is_text_byte, has_rising_keys, has_good_texts, items_have_rising_keys, items_have_good_texts}
use Rattle.cl_types.specs.declared.fault.Fault.{Fault}
use Rattle.cl_values.specs.declared.no_value.NoValue.{NoValue}
use Rattle.cl_values.specs.Applied.{Applied}
use Rattle.cl_values.specs.Computed.{Computed, Gives, Undefined, is_within, kept}
use Rattle.cl_values.specs.Sequences.{singles, contents, joined}
use Rattle.cl_values.proofs.Lists.{values_of_items, next_part}
use Rattle.cl_meaning.specs.Calls.{and_truth, truths}
use Rattle.cl_operands.specs.Truths.{truth_of, join}
use Rattle.cl_operands.specs.Sieved.{flags_of, chosen, sieved}

-- ---- truth values joined

truths_next : (op : Bool → Bool → Bool) (start : Bool) (v : Val) (vs : List Val) (b : Bool) → Some b ≡ truth_of v → truths op start (v ∷ vs) ≡ and_truth op b (truths op start vs)
truths_next op start (BoolV c) vs b h = let same : c ≡ b = cc in ap (λ d. and_truth op d (truths op start vs)) same
truths_next op start v vs b h = absurd cc

truths_none : (op : Bool → Bool → Bool) (start : Bool) (v : Val) (vs : List Val) → None ≡ truth_of v → truths op start (v ∷ vs) ≡ None
truths_none op start (BoolV c) vs h = absurd cc
truths_none op start v vs h = refl

join_more : (all s b : Bool) (o : Option Bool) → option_map (join all s) (and_truth (join all) b o) ≡ option_map (join all (join all s b)) o
join_more all s b None = refl
join_more true true b (Some c) = refl
join_more true false b (Some c) = refl
join_more false true b (Some c) = refl
join_more false false b (Some c) = refl

pub join_starts : (all : Bool) (o : Option Bool) → option_map (join all all) o ≡ o
join_starts all None = refl
join_starts true (Some b) = refl
join_starts false (Some b) = refl

join_last : (all s : Bool) → join all s all ≡ s
join_last true true = refl
join_last true false = refl
join_last false true = refl
join_last false false = refl

pub joined_turn : (all s more b : Bool) (vs : List Val) (i : ℕ) (v : Val) (o whole : Option Bool) → i < length vs → v ≡ get_or vs i v → o ≡ Some b → o ≡ truth_of v → more ≡ join all s b → option_map (join all s) (truths (join all) all (drop i vs)) ≡ whole → option_map (join all more) (truths (join all) all (drop (i + 1) vs)) ≡ whole
joined_turn all s more b vs i v o whole h k m e n so_far =
    ap (λ c. option_map (join all c) (truths (join all) all (drop (i + 1) vs))) n
    ∙ sym (join_more all s b (truths (join all) all (drop (i + 1) vs)))
    ∙ ap (option_map (join all s)) (sym (ap (truths (join all) all) (next_part vs i v h k) ∙ truths_next (join all) all v (drop (i + 1) vs) b (sym m ∙ e)))
    ∙ so_far

pub joined_stops : (all s : Bool) (vs : List Val) (i : ℕ) (v : Val) (o whole : Option Bool) → i < length vs → v ≡ get_or vs i v → o ≡ None → o ≡ truth_of v → option_map (join all s) (truths (join all) all (drop i vs)) ≡ whole → None ≡ whole
joined_stops all s vs i v o whole h k m e so_far =
    ap (option_map (join all s)) (sym (ap (truths (join all) all) (next_part vs i v h k) ∙ truths_none (join all) all v (drop (i + 1) vs) (sym m ∙ e)))
    ∙ so_far

pub joined_ends : (all s : Bool) (vs : List Val) (i : ℕ) (whole : Option Bool) → length vs ≤ i → option_map (join all s) (truths (join all) all (drop i vs)) ≡ whole → Some s ≡ whole
joined_ends all s vs i whole h so_far =
    ap (λ b. Some b) (sym (join_last all s)) ∙ ap (λ l. option_map (join all s) (truths (join all) all l)) (sym (drop_all i vs h)) ∙ so_far

-- ---- the results as truth values

flags_next : (v : Val) (vs : List Val) (b : Bool) → Some b ≡ truth_of v → flags_of (v ∷ vs) ≡ option_map (λ bs. b ∷ bs) (flags_of vs)
flags_next (BoolV c) vs b h = let same : c ≡ b = cc in ap (λ (d : Bool). option_map (λ bs. d ∷ bs) (flags_of vs)) same
flags_next v vs b h = absurd cc

flags_none : (v : Val) (vs : List Val) → None ≡ truth_of v → flags_of (v ∷ vs) ≡ None
flags_none (BoolV c) vs h = absurd cc
flags_none v vs h = refl

flag_onto : (flags more : List Bool) (b : Bool) (o : Option (List Bool)) → more ≡ flags ++ b ∷ [] → option_map (λ bs. more ++ bs) o ≡ option_map (λ bs. flags ++ bs) (option_map (λ bs. b ∷ bs) o)
flag_onto flags more b None h = refl
flag_onto flags more b (Some bs) h = ap (λ z. Some z) (ap (λ z. z ++ bs) h ∙ append_assoc flags (b ∷ []) bs)

pub flags_turn : (flags more : List Bool) (b : Bool) (vs : List Val) (i : ℕ) (v : Val) (o : Option Bool) (whole : Option (List Bool)) → i < length vs → v ≡ get_or vs i v → o ≡ Some b → o ≡ truth_of v → more ≡ flags ++ b ∷ [] → option_map (λ bs. flags ++ bs) (flags_of (drop i vs)) ≡ whole → option_map (λ bs. more ++ bs) (flags_of (drop (i + 1) vs)) ≡ whole
flags_turn flags more b vs i v o whole h k m e n so_far =
    flag_onto flags more b (flags_of (drop (i + 1) vs)) n
    ∙ ap (option_map (λ bs. flags ++ bs)) (sym (ap flags_of (next_part vs i v h k) ∙ flags_next v (drop (i + 1) vs) b (sym m ∙ e)))
    ∙ so_far

pub flags_stop : (flags : List Bool) (vs : List Val) (i : ℕ) (v : Val) (o : Option Bool) (whole : Option (List Bool)) → i < length vs → v ≡ get_or vs i v → o ≡ None → o ≡ truth_of v → option_map (λ bs. flags ++ bs) (flags_of (drop i vs)) ≡ whole → None ≡ whole
flags_stop flags vs i v o whole h k m e so_far =
    ap (option_map (λ bs. flags ++ bs)) (sym (ap flags_of (next_part vs i v h k) ∙ flags_none v (drop (i + 1) vs) (sym m ∙ e)))
    ∙ so_far

pub flags_start : (o : Option (List Bool)) → option_map (λ bs. [] ++ bs) o ≡ o
flags_start None = refl
flags_start (Some bs) = refl

pub flags_end : (flags : List Bool) (vs : List Val) (i : ℕ) (whole : Option (List Bool)) → length vs ≤ i → option_map (λ bs. flags ++ bs) (flags_of (drop i vs)) ≡ whole → Some flags ≡ whole
flags_end flags vs i whole h so_far =
    ap (λ z. Some z) (sym (append-nil flags)) ∙ ap (λ l. option_map (λ bs. flags ++ bs) (flags_of l)) (sym (drop_all i vs h)) ∙ so_far

-- ---- what is chosen

none_chosen : {A : Type 0} (xs : List A) → chosen xs [] ≡ []
none_chosen [] = refl
none_chosen (x ∷ xs) = refl

chosen_first : {A : Type 0} (x : A) (xs : List A) (flags : List Bool) (place : ℕ) (kept more : List A) → more ≡ (if get_or flags place false then kept ++ x ∷ [] else kept) → more ++ chosen xs (drop (suc place) flags) ≡ kept ++ chosen (x ∷ xs) (drop place flags)
chosen_first x xs [] zero kept more h = ap (λ l. l ++ chosen xs []) h ∙ ap (λ l. kept ++ l) (none_chosen xs)
chosen_first x xs [] (suc place) kept more h = ap (λ l. l ++ chosen xs []) h ∙ ap (λ l. kept ++ l) (none_chosen xs)
chosen_first x xs (true ∷ flags) zero kept more h = ap (λ l. l ++ chosen xs flags) h ∙ append_assoc kept (x ∷ []) (chosen xs flags)
chosen_first x xs (false ∷ flags) zero kept more h = ap (λ l. l ++ chosen xs flags) h
chosen_first x xs (b ∷ flags) (suc place) kept more h = chosen_first x xs flags place kept more h

pub chosen_turn : {A : Type 0} (x : A) (xs rest : List A) (flags : List Bool) (place : ℕ) (b : Bool) (kept more whole : List A) → rest ≡ x ∷ xs → b ≡ get_or flags place false → more ≡ (if b then kept ++ x ∷ [] else kept) → kept ++ chosen rest (drop place flags) ≡ whole → more ++ chosen xs (drop (place + 1) flags) ≡ whole
chosen_turn x xs rest flags place b kept more whole h k m so_far =
    rw add-one (chosen_first x xs flags place kept more (m ∙ ap (λ (c : Bool). if c then kept ++ x ∷ [] else kept) k))
    ∙ ap (λ l. kept ++ chosen l (drop place flags)) (sym h) ∙ so_far

no_item : {A : Type 0} (xs : List A) → length xs ≡ 0 → xs ≡ []
no_item [] h = refl
no_item (x ∷ xs) h = absurd (omega arith)

pub chosen_end : {A : Type 0} (rest : List A) (flags : List Bool) (kept whole : List A) → length rest ≡ 0 → kept ++ chosen rest flags ≡ whole → kept ≡ whole
chosen_end rest flags kept whole h so_far = sym (append-nil kept) ∙ ap (λ l. kept ++ chosen l flags) (sym (no_item rest h)) ∙ so_far

-- ---- sequences of what is chosen

joined_chosen : (make : List ℕ → Val) → ((x : ℕ) → contents (make (x ∷ [])) ≡ x ∷ []) → (xs : List ℕ) (bs : List Bool) → joined (chosen (singles make xs) bs) ≡ chosen xs bs
joined_chosen make h [] bs = refl
joined_chosen make h (x ∷ xs) [] = refl
joined_chosen make h (x ∷ xs) (true ∷ bs) = ap (λ l. l ++ joined (chosen (singles make xs) bs)) (h x) ∙ ap (λ l. x ∷ l) (joined_chosen make h xs bs)
joined_chosen make h (x ∷ xs) (false ∷ bs) = joined_chosen make h xs bs

pub sieved_bytes : (xs : List ℕ) (bs : List Bool) (ys : List ℕ) → ys ≡ chosen xs bs → sieved (BuffV xs) bs ≡ Gives (BuffV ys)
sieved_bytes xs bs ys h = ap (λ l. Gives (BuffV l)) (joined_chosen BuffV (λ x. refl) xs bs ∙ sym h)

pub sieved_ascii : (xs : List ℕ) (bs : List Bool) (ys : List ℕ) → ys ≡ chosen xs bs → sieved (AsciiV xs) bs ≡ Gives (AsciiV ys)
sieved_ascii xs bs ys h = ap (λ l. Gives (AsciiV l)) (joined_chosen AsciiV (λ x. refl) xs bs ∙ sym h)

pub sieved_unicode : (xs : List ℕ) (bs : List Bool) (ys : List ℕ) → ys ≡ chosen xs bs → sieved (Utf8V xs) bs ≡ Gives (Utf8V ys)
sieved_unicode xs bs ys h = ap (λ l. Gives (Utf8V l)) (joined_chosen Utf8V (λ x. refl) xs bs ∙ sym h)

pub sieved_values : (xs : List Val) (bs : List Bool) (ys : List Val) → ys ≡ chosen xs bs → sieved (ListV (items_of xs)) bs ≡ Gives (ListV (items_of ys))
sieved_values xs bs ys h = ap (λ l. Gives (ListV (items_of (chosen l bs)))) (values_of_items xs) ∙ ap (λ l. Gives (ListV (items_of l))) (sym h)

pub texts_chosen : (xs : List ℕ) (bs : List Bool) → list_all is_text_byte xs ≡ true → list_all is_text_byte (chosen xs bs) ≡ true
texts_chosen [] bs h = refl
texts_chosen (x ∷ xs) [] h = refl
texts_chosen (x ∷ xs) (true ∷ bs) h =
    let both = and_parts (is_text_byte x) (list_all is_text_byte xs) h in
    and_from (is_text_byte x) (list_all is_text_byte (chosen xs bs)) both.0 (texts_chosen xs bs both.1)
texts_chosen (x ∷ xs) (false ∷ bs) h = texts_chosen xs bs (and_parts (is_text_byte x) (list_all is_text_byte xs) h).1

keys_chosen : (xs : List Val) (bs : List Bool) → items_have_rising_keys (items_of xs) ≡ true → items_have_rising_keys (items_of (chosen xs bs)) ≡ true
keys_chosen [] bs h = refl
keys_chosen (x ∷ xs) [] h = refl
keys_chosen (x ∷ xs) (true ∷ bs) h =
    let both = and_parts (has_rising_keys x) (items_have_rising_keys (items_of xs)) h in
    and_from (has_rising_keys x) (items_have_rising_keys (items_of (chosen xs bs))) both.0 (keys_chosen xs bs both.1)
keys_chosen (x ∷ xs) (false ∷ bs) h = keys_chosen xs bs (and_parts (has_rising_keys x) (items_have_rising_keys (items_of xs)) h).1

good_chosen : (xs : List Val) (bs : List Bool) → items_have_good_texts (items_of xs) ≡ true → items_have_good_texts (items_of (chosen xs bs)) ≡ true
good_chosen [] bs h = refl
good_chosen (x ∷ xs) [] h = refl
good_chosen (x ∷ xs) (true ∷ bs) h =
    let both = and_parts (has_good_texts x) (items_have_good_texts (items_of xs)) h in
    and_from (has_good_texts x) (items_have_good_texts (items_of (chosen xs bs))) both.0 (good_chosen xs bs both.1)
good_chosen (x ∷ xs) (false ∷ bs) h = good_chosen xs bs (and_parts (has_good_texts x) (items_have_good_texts (items_of xs)) h).1

depth_chosen : (xs : List Val) (bs : List Bool) → items_depth (items_of (chosen xs bs)) ≤ items_depth (items_of xs)
depth_chosen [] bs = omega arith
depth_chosen (x ∷ xs) [] = omega arith
depth_chosen (x ∷ xs) (true ∷ bs) = omega (arith, depth_chosen xs bs)
depth_chosen (x ∷ xs) (false ∷ bs) = omega (arith, depth_chosen xs bs)

pub list_keys : (xs : List Val) (bs : List Bool) (ys : List Val) → ys ≡ chosen xs bs → IsVal (ListV (items_of xs)) → has_rising_keys (ListV (items_of ys)) ≡ true
list_keys xs bs ys h k = ap (λ l. items_have_rising_keys (items_of l)) h ∙ keys_chosen xs bs k.keys

pub list_texts : (xs : List Val) (bs : List Bool) (ys : List Val) → ys ≡ chosen xs bs → IsVal (ListV (items_of xs)) → has_good_texts (ListV (items_of ys)) ≡ true
list_texts xs bs ys h k = ap (λ l. items_have_good_texts (items_of l)) h ∙ good_chosen xs bs k.texts

pub list_depth : (xs : List Val) (bs : List Bool) (ys : List Val) → ys ≡ chosen xs bs → IsVal (ListV (items_of xs)) → depth_of (ListV (items_of ys)) ≤ 32
list_depth xs bs ys h k =
    let same : items_depth (items_of ys) ≡ items_depth (items_of (chosen xs bs)) = ap (λ l. items_depth (items_of l)) h in
    omega (arith, same, depth_chosen xs bs, k.depth)

-- ---- within the limits

beyond : (m n : ℕ) → nat_lt m n ≡ not (nat_le n m)
beyond m n = grind (arith, nat_tests)

decided : (v : Val) (keys texts deep large : Bool) → keys ≡ true → texts ≡ true → (r : Result Val ValueRefusal) → r ≡ (if not keys then Err BadTuple else if not texts then Err BadText else if not deep then Err TooDeep else if not large then Err TooLarge else Ok v) → r ≡ (if deep && large then Ok v else if deep then Err TooLarge else Err TooDeep)
decided v true true true true h k r e = e
decided v true true true false h k r e = e
decided v true true false true h k r e = e
decided v true true false false h k r e = e
decided v true false deep large h k r e = absurd cc
decided v false texts deep large h k r e = absurd cc

made_is : (v : Val) → has_rising_keys v ≡ true → has_good_texts v ≡ true → made v ≡ (if is_within v then Ok v else if nat_le (depth_of v) 32 then Err TooLarge else Err TooDeep)
made_is v h k =
    decided v (has_rising_keys v) (has_good_texts v) (nat_le (depth_of v) 32) (nat_le (size_of v) 1048576) h k (made v)
    (ap (λ (b : Bool). if not (has_rising_keys v) then Err BadTuple else if not (has_good_texts v) then Err BadText else if b then Err TooDeep else if nat_lt 1048576 (size_of v) then Err TooLarge else Ok v) (beyond 32 (depth_of v))
    ∙ ap (λ (b : Bool). if not (has_rising_keys v) then Err BadTuple else if not (has_good_texts v) then Err BadText else if not (nat_le (depth_of v) 32) then Err TooDeep else if b then Err TooLarge else Ok v) (beyond 1048576 (size_of v)))

given_by : (v w : Val) (b c : Bool) → Ok w ≡ (if b then Ok v else if c then Err TooLarge else Err TooDeep) → (if b then Gives v else Undefined) ≡ Gives w
given_by v w true c h = let same : w ≡ v = cc in ap (λ z. Gives z) (sym same)
given_by v w false true h = absurd cc
given_by v w false false h = absurd cc

pub within_given : (v w : Val) → has_rising_keys v ≡ true → has_good_texts v ≡ true → Ok w ≡ made v → kept (Gives v) ≡ Gives w
within_given v w h k e = given_by v w (is_within v) (nat_le (depth_of v) 32) (e ∙ made_is v h k)

wrong_by : (v : Val) (why : ValueRefusal) (b c : Bool) → Err why ≡ (if b then Ok v else if c then Err TooLarge else Err TooDeep) → (if b then Gives v else Undefined) ≡ Undefined
wrong_by v why true c h = absurd cc
wrong_by v why false c h = refl

pub within_wrong : (v : Val) (why : ValueRefusal) → has_rising_keys v ≡ true → has_good_texts v ≡ true → Err why ≡ made v → kept (Gives v) ≡ Undefined
within_wrong v why h k e = wrong_by v why (is_within v) (nat_le (depth_of v) 32) (e ∙ made_is v h k)

pub applied_so : (c d : Computed) (r : Result Val (Fault NoValue)) → c ≡ d → Applied d r → Applied c r
applied_so c d r h k = subst (λ o. Applied o r) (sym h) k
