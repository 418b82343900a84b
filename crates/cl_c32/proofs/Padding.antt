-- An array that holds the bytes so far, and zeros behind them.
use Rattle.std.proofs.Common.{◌≡◌, ℕ, ◌+◌, ◌-◌, ◌<◌, suc, List, [], ◌∷◌, ◌++◌, length, map, take, drop, replicate, set, get_or, refl, sym, ap, ◌∙◌, arith, append_assoc, length-take-le}
use borrow.Rule.Slice.PartMut.{put_mid}
use Rattle.std.proofs.lemmas.List.{append-nil, take_at, drop_at, set_at, take_more, drop-set-lt, drop-drop, length-map, map-append}

pub padded_push : (most : ℕ) (xs cells : List ℕ) (i v : ℕ) → length xs ≡ i → i < most → cells ≡ xs ++ replicate (most - i) 0 → set cells i v ≡ (xs ++ v ∷ []) ++ replicate (most - (i + 1)) 0
padded_push most xs cells i v l w e =
    let n : most - i ≡ suc (most - (i + 1)) = omega arith in
    rw (e, n, set_at xs 0 (replicate (most - (i + 1)) 0) v i l, append_assoc) refl

pub padded_more : (most : ℕ) (bs cells : List ℕ) (i : ℕ) → i < length bs → i < most → cells ≡ take i bs ++ replicate (most - i) 0 → set cells i (get_or bs i 0) ≡ take (i + 1) bs ++ replicate (most - (i + 1)) 0
padded_more most bs cells i h w e =
    padded_push most (take i bs) cells i (get_or bs i 0) (length-take-le i bs (omega arith)) w e
    ∙ ap (λ xs. xs ++ replicate (most - (i + 1)) 0) (sym (take_more bs i 0 h))

-- the same for what a function gives at each element
pub padded_map : (f : ℕ → ℕ) (most : ℕ) (bs cells : List ℕ) (i : ℕ) → i < length bs → i < most → cells ≡ map f (take i bs) ++ replicate (most - i) 0 → set cells i (f (get_or bs i 0)) ≡ map f (take (i + 1) bs) ++ replicate (most - (i + 1)) 0
padded_map f most bs cells i h w e =
    let long : length (map f (take i bs)) ≡ i = length-map (take i bs) f ∙ length-take-le i bs (omega arith) in
    let more : map f (take (i + 1) bs) ≡ map f (take i bs) ++ f (get_or bs i 0) ∷ [] = ap (map f) (take_more bs i 0 h) ∙ map-append f (take i bs) (get_or bs i 0 ∷ []) in
    padded_push most (map f (take i bs)) cells i (f (get_or bs i 0)) long w e
    ∙ ap (λ xs. xs ++ replicate (most - (i + 1)) 0) (sym more)

-- one more cell is in use
pub padding_less : (most : ℕ) (cells : List ℕ) (n c : ℕ) → n < most → drop n cells ≡ replicate (most - n) 0 → drop (n + 1) (set cells n c) ≡ replicate (most - (n + 1)) 0
padding_less most cells n c h e =
    let more : most - n ≡ suc (most - (n + 1)) = omega arith in
    drop-set-lt (n + 1) cells n c (omega arith) ∙ sym (drop-drop 1 n cells) ∙ ap (drop 1) (e ∙ ap (λ k. replicate k 0) more)

-- the second part of an array whose first part is full
pub put_mid-filled : (a b : List ℕ) → length a ≡ 20 → put_mid 20 4 (a ++ 0 ∷ 0 ∷ 0 ∷ 0 ∷ []) b ≡ a ++ b
put_mid-filled a b l =
    let rest = 0 ∷ 0 ∷ 0 ∷ 0 ∷ [] in
    (λ i. take_at a rest 20 l i ++ (b ++ drop 4 (drop_at a rest 20 l i))) ∙ ap (λ xs. a ++ xs) (append-nil b)

pub put_mid-behind : (a b s : List ℕ) (i n : ℕ) → length a ≡ i → put_mid i n (a ++ s) b ≡ a ++ (b ++ drop n s)
put_mid-behind a b s i n l = λ j. take_at a s i l j ++ (b ++ drop n (drop_at a s i l j))
