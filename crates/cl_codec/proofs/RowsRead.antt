-- Rows that are read one by one: what was read so far stands before what is left.
use Rattle.std.proofs.Common.{◌≡◌, ℕ, ◌-◌, ◌<◌, zero, suc, List, [], ◌∷◌, ◌++◌, refl, arith, ap, ◌∙◌}
use Rattle.std.specs.Prelude.{Option, Some, Ok, Err}
use Rattle.cl_values.specs.declared.fault.DecodeRefusal.{DecodeRefusal}
use Rattle.cl_values.specs.Tree.{Tree, Items, NoItem, Item, items_of, Entries, NoEntry, Entry, entries_of}
use Rattle.cl_values.specs.Reading.{Read, and_then, read_items, read_key, read_entries}
use Rattle.cl_codec.specs.Entry.{read_entry}

-- values in front of others
abbrev pub items_before : List Tree → Items → Items
items_before [] ws = ws
items_before (v ∷ vs) ws = Item v (items_before vs ws)

items_push : (vs : List Tree) (v : Tree) (ws : Items) → items_before vs (Item v ws) ≡ items_before (vs ++ v ∷ []) ws
items_push [] v ws = refl
items_push (w ∷ vs) v ws = ap (λ (x : Items). Item w x) (items_push vs v ws)

items_alone : (vs : List Tree) → items_before vs NoItem ≡ items_of vs
items_alone [] = refl
items_alone (v ∷ vs) = ap (λ (x : Items). Item v x) (items_alone vs)

-- values that were read, and a reading of those behind them
abbrev pub with_items : List Tree → Read Items → Read Items
with_items vs others = and_then others (λ ws rest. Ok (items_before vs ws, rest))

pub items_start : (others : Read Items) → others ≡ with_items [] others
items_start (Ok p) = refl
items_start (Err fault) = refl

items_one : (vs : List Tree) (v : Tree) (others : Read Items) → with_items vs (and_then others (λ ws rest. Ok (Item v ws, rest))) ≡ with_items (vs ++ v ∷ []) others
items_one vs v (Ok p) = ap (λ (x : Items). Ok (x, p.1)) (items_push vs v p.0)
items_one vs v (Err fault) = refl

pub items_step : (read : List ℕ → Read Tree) (vs : List Tree) (n : ℕ) (bytes : List ℕ) (v : Tree) (more : List ℕ) → 0 < n → read bytes ≡ Ok (v, more) → with_items vs (read_items read n bytes) ≡ with_items (vs ++ v ∷ []) (read_items read (n - 1) more)
items_step read vs zero bytes v more h e = absurd (omega (arith, h))
items_step read vs (suc n) bytes v more h e =
    let one : n ≡ suc n - 1 = omega arith in
    ap (λ (r : Read Tree). with_items vs (and_then r (λ w left. and_then (read_items read n left) (λ ws rest. Ok (Item w ws, rest))))) e
    ∙ items_one vs v (read_items read n more)
    ∙ ap (λ (k : ℕ). with_items (vs ++ v ∷ []) (read_items read k more)) one

pub items_end : (read : List ℕ → Read Tree) (vs : List Tree) (n : ℕ) (bytes : List ℕ) → n ≡ 0 → with_items vs (read_items read n bytes) ≡ Ok (items_of vs, bytes)
items_end read vs n bytes e =
    ap (λ (k : ℕ). with_items vs (read_items read k bytes)) e ∙ ap (λ (x : Items). Ok (x, bytes)) (items_alone vs)

-- entries in front of others
abbrev pub entries_before : List (List ℕ × Tree) → Entries → Entries
entries_before [] fs = fs
entries_before (e ∷ es) fs = Entry e.0 e.1 (entries_before es fs)

entries_push : (es : List (List ℕ × Tree)) (k : List ℕ) (v : Tree) (fs : Entries) → entries_before es (Entry k v fs) ≡ entries_before (es ++ (k, v) ∷ []) fs
entries_push [] k v fs = refl
entries_push (e ∷ es) k v fs = ap (λ (x : Entries). Entry e.0 e.1 x) (entries_push es k v fs)

entries_alone : (es : List (List ℕ × Tree)) → entries_before es NoEntry ≡ entries_of es
entries_alone [] = refl
entries_alone (e ∷ es) = ap (λ (x : Entries). Entry e.0 e.1 x) (entries_alone es)

-- entries that were read, and a reading of those behind them
abbrev pub with_entries : List (List ℕ × Tree) → Read Entries → Read Entries
with_entries es others = and_then others (λ fs rest. Ok (entries_before es fs, rest))

pub entries_start : (others : Read Entries) → others ≡ with_entries [] others
entries_start (Ok p) = refl
entries_start (Err fault) = refl

entries_one : (es : List (List ℕ × Tree)) (k : List ℕ) (v : Tree) (others : Read Entries) → with_entries es (and_then others (λ fs rest. Ok (Entry k v fs, rest))) ≡ with_entries (es ++ (k, v) ∷ []) others
entries_one es k v (Ok p) = ap (λ (x : Entries). Ok (x, p.1)) (entries_push es k v p.0)
entries_one es k v (Err fault) = refl

-- the entries behind one
abbrev others_behind : (List ℕ → Read Tree) → ℕ → ℕ → List ℕ → Tree → List ℕ → Read Entries
others_behind read total n k v more = and_then (read_entries read total (Some k) n more) (λ fs rest. Ok (Entry k v fs, rest))

value_first : (k : List ℕ) (value : Read Tree) (next : List ℕ → Tree → List ℕ → Read Entries) → and_then value (λ v more. next k v more) ≡ and_then {A = List ℕ × Tree} (and_then value (λ v rest. Ok ((k, v), rest))) (λ e more. next e.0 e.1 more)
value_first k (Ok p) next = refl
value_first k (Err fault) next = refl

entry_first : (read : List ℕ → Read Tree) (key : Read (List ℕ)) (next : List ℕ → Tree → List ℕ → Read Entries) → and_then key (λ k behind. and_then (read behind) (λ v more. next k v more)) ≡ and_then {A = List ℕ × Tree} (and_then key (λ k behind. and_then (read behind) (λ v rest. Ok ((k, v), rest)))) (λ e more. next e.0 e.1 more)
entry_first read (Ok p) next = value_first p.0 (read p.1) next
entry_first read (Err fault) next = refl

pub entries_step : (read : List ℕ → Read Tree) (total : ℕ) (es : List (List ℕ × Tree)) (last : Option (List ℕ)) (n : ℕ) (bytes k : List ℕ) (v : Tree) (more : List ℕ) → 0 < n → read_entry read total last bytes ≡ Ok ((k, v), more) → with_entries es (read_entries read total last n bytes) ≡ with_entries (es ++ (k, v) ∷ []) (read_entries read total (Some k) (n - 1) more)
entries_step read total es last zero bytes k v more h e = absurd (omega (arith, h))
entries_step read total es last (suc n) bytes k v more h e =
    let one : n ≡ suc n - 1 = omega arith in
    ap (with_entries es) (entry_first read (read_key total last bytes) (others_behind read total n))
    ∙ ap (λ (r : Read (List ℕ × Tree)). with_entries es (and_then r (λ f left. others_behind read total n f.0 f.1 left))) e
    ∙ entries_one es k v (read_entries read total (Some k) n more)
    ∙ ap (λ (j : ℕ). with_entries (es ++ (k, v) ∷ []) (read_entries read total (Some k) j more)) one

pub entries_fault : (read : List ℕ → Read Tree) (total : ℕ) (es : List (List ℕ × Tree)) (last : Option (List ℕ)) (n : ℕ) (bytes : List ℕ) (fault : DecodeRefusal) → 0 < n → read_entry read total last bytes ≡ Err fault → with_entries es (read_entries read total last n bytes) ≡ Err fault
entries_fault read total es last zero bytes fault h e = absurd (omega (arith, h))
entries_fault read total es last (suc n) bytes fault h e =
    ap (with_entries es) (entry_first read (read_key total last bytes) (others_behind read total n))
    ∙ ap (λ (r : Read (List ℕ × Tree)). with_entries es (and_then r (λ f left. others_behind read total n f.0 f.1 left))) e

pub entries_end : (read : List ℕ → Read Tree) (total : ℕ) (es : List (List ℕ × Tree)) (last : Option (List ℕ)) (n : ℕ) (bytes : List ℕ) → n ≡ 0 → with_entries es (read_entries read total last n bytes) ≡ Ok (entries_of es, bytes)
entries_end read total es last n bytes e =
    ap (λ (k : ℕ). with_entries es (read_entries read total last k bytes)) e ∙ ap (λ (x : Entries). Ok (x, bytes)) (entries_alone es)
