-- Levels that are pushed, changed and popped.
use Rattle.std.proofs.Common.{◌≡◌, ℕ, ◌+◌, ◌-◌, ◌<◌, List, [], ◌∷◌, ◌++◌, length, take, get_or, set, map, reverse, Bool, true, false, Option, Some, arith, refl, append_assoc, append-nil, sym, ap, ◌∙◌}
use Rattle.std.specs.List.{flat_map}
use Rattle.std.specs.Vec.{with_item as put}
use Rattle.std.proofs.lemmas.List.{flat_map_more, map_push, reverse-append, length-set, take_all, take_more, take_more_set}
use Rattle.cl_sexpr.specs.declared.reading.Level.{Level}
use Rattle.cl_sexpr.specs.declared.reading.Reading.{Reading}
use Rattle.cl_sexpr.specs.Tree.{Tree, forest, pairs}
use Rattle.cl_sexpr.specs.Token.{Token, Open, Key, tree_tokens, forest_tokens, pairs_tokens, with_item, bare, next}
use Rattle.cl_sexpr.specs.Progress.{level_tokens, open_of, opens, Gains, Takes, TakesItem, LevelTakes, LevelReads}

pub forest_tokens_push : (xs : List Tree) (t : Tree) → forest_tokens (forest (xs ++ t ∷ [])) ≡ forest_tokens (forest xs) ++ tree_tokens t
forest_tokens_push [] t = append-nil (tree_tokens t)
forest_tokens_push (x ∷ xs) t = rw (forest_tokens_push xs t) (sym (append_assoc (tree_tokens x) (forest_tokens (forest xs)) (tree_tokens t)))

pub pairs_tokens_push : (xs : List (List ℕ × Tree)) (k : List ℕ) (t : Tree) → pairs_tokens (pairs (xs ++ (k, t) ∷ [])) ≡ pairs_tokens (pairs xs) ++ (Key k ∷ tree_tokens t)
pairs_tokens_push [] k t = ap (λ (x : List Token). Key k ∷ x) (append-nil (tree_tokens t))
pairs_tokens_push (x ∷ xs) k t = ap (λ (y : List Token). Key x.0 ∷ y) (rw (pairs_tokens_push xs k t) (sym (append_assoc (tree_tokens x.1) (pairs_tokens (pairs xs)) (Key k ∷ tree_tokens t))))

pub levels_push : (front : List Level) (l : Level) → flat_map level_tokens (front ++ l ∷ []) ≡ flat_map level_tokens front ++ level_tokens l
levels_push front l = sym (flat_map_more level_tokens [] front l)

pub opens_push : (front : List Level) (l : Level) → reverse (map open_of (front ++ l ∷ [])) ≡ open_of l ∷ reverse (map open_of front)
opens_push front l = rw (map_push, reverse-append) refl

-- the innermost level gains tokens
pub level_gains : (old new : Reading) (front : List Level) (l m : Level) (added : List Token) (after : List Open → Option (List Open)) → old.«open».items ≡ front ++ l ∷ [] → new.«open».items ≡ front ++ m ∷ [] → new.items.items ≡ old.items.items → level_tokens m ≡ level_tokens l ++ added → ((os : List Open) → after (open_of l ∷ os) ≡ Some (open_of m ∷ os)) → Gains old new added (after (opens old))
level_gains old new front l m added after o n i more step = record {
  read = rw (o, n, i, levels_push front m, levels_push front l, more) (simp append_assoc);
  opens_are = rw (o, n, opens_push front l, opens_push front m) (step (reverse (map open_of front)));
}

-- an item is added outside all brackets
pub top_gains : (old new : Reading) (t : Tree) → old.«open».items ≡ [] → new.«open».items ≡ [] → new.items.items ≡ old.items.items ++ t ∷ [] → Gains old new (tree_tokens t) (with_item (opens old))
top_gains old new t o n i = record {
  read = rw (o, n, i, forest_tokens_push old.items.items t) (simp append-nil);
  opens_are = rw (o, n) refl;
}

-- a key and its item make a pair
pub pair_made : (xs : List (List ℕ × Tree)) (k : List ℕ) (t : Tree) → pairs_tokens (pairs (xs ++ (k, t) ∷ [])) ++ [] ≡ (pairs_tokens (pairs xs) ++ Key k ∷ []) ++ tree_tokens t
pair_made xs k t = append-nil (pairs_tokens (pairs (xs ++ (k, t) ∷ []))) ∙ (pairs_tokens_push xs k t ∙ sym (append_assoc (pairs_tokens (pairs xs)) (Key k ∷ []) (tree_tokens t)))

-- the innermost level stands last, and is changed there
pub innermost : (xs : List Level) (n : ℕ) (x : Level) → n + 1 ≡ length xs → x ≡ get_or xs n x → xs ≡ take n xs ++ x ∷ []
innermost xs n x h e = sym (take_all (n + 1) xs (omega (arith, h))) ∙ (take_more xs n x (omega (arith, h)) ∙ ap (λ (y : Level). take n xs ++ y ∷ []) (sym e))

pub innermost_set : (xs : List Level) (n : ℕ) (y : Level) → n + 1 ≡ length xs → set xs n y ≡ take n xs ++ y ∷ []
innermost_set xs n y h = sym (take_all (n + 1) (set xs n y) (omega (arith, h, length-set xs n y))) ∙ take_more_set xs n y (omega (arith, h))

-- an item is added to the innermost level
pub level_takes : (old new : Reading) (front : List Level) (l m : Level) (item : Tree) → old.«open».items ≡ front ++ l ∷ [] → new.«open».items ≡ front ++ m ∷ [] → new.items.items ≡ old.items.items → (b : Bool) → LevelTakes l m item b → TakesItem old new item b
level_takes old new front l m item o n i true t = level_gains old new front l m (tree_tokens item) with_item o n i t.0 t.1
level_takes old new front l m item o n i false t = rw (o, opens_push front l) (t (reverse (map open_of front)))

-- a key, a colon or a comma is read into the innermost level
level_reads : (old new : Reading) (front : List Level) (l m : Level) (t : Token) → old.«open».items ≡ front ++ l ∷ [] → new.«open».items ≡ front ++ m ∷ [] → new.items.items ≡ old.items.items → (b : Bool) → LevelReads l m t b → Takes old new t b
level_reads old new front l m t o n i true h = level_gains old new front l m (bare (t ∷ [])) (λ os. next os t) o n i h.0 h.1
level_reads old new front l m t o n i false h = rw (o, opens_push front l) (h (reverse (map open_of front)))

-- the same, at the end of the levels
pub last_reads : (old : Reading) (l m : Level) (t : Token) (b : Bool) → 0 < length old.«open».items → l ≡ get_or old.«open».items (old.«open».len - 1) l → LevelReads l m t b → Takes old (record { items = old.items; «open» = put old.«open» (old.«open».len - 1) m }) t b
last_reads old l m t b some e h =
    let levels = old.«open» in
    let n = levels.len - 1 in
    let last : n + 1 ≡ length levels.items = omega (arith, some, levels.ok.0) in
    level_reads old (record { items = old.items; «open» = put levels n m }) (take n levels.items) l m t (innermost levels.items n l last e) (innermost_set levels.items n m last) refl b h
