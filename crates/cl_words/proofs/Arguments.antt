-- What the words of a call spell, from the left.
use Rattle.std.proofs.Common.{◌≡◌, ℕ, ◌+◌, ◌<◌, ◌≤◌, List, [], ◌∷◌, ◌++◌, length, drop, get_or, string_bytes, Ok, Err, refl, sym, ap, subst, ◌∙◌, append_assoc, append-nil}
use Rattle.std.proofs.lemmas.List.{drop_more, drop_all}
use Rattle.std.specs.declared.alloc.Global.{Global}
use Rattle.std.specs.declared.string.String.{String}
use Rattle.cl_values.specs.Tree.{Tree}
use Rattle.cl_text.specs.Parsed.{Stands, Parses, outcome_of}
use Rattle.cl_text.specs.declared.refusal.TextRefusal.{TextRefusal}
use Rattle.cl_text.specs.declared.refusal.TextRefusal.TheVariants as refused
use Rattle.cl_words.specs.Words.{texts}
use Rattle.cl_words.specs.Argument.{Arguments, before, from_word, Spell}

-- arguments behind values
abbrev pub behind : List Tree → Arguments → Arguments
behind vs (Ok ws) = Ok (vs ++ ws)
behind vs (Err o) = Err o

behind_one : (vs : List Tree) (v : Tree) (args : Arguments) → behind vs (before v args) ≡ behind (vs ++ v ∷ []) args
behind_one vs v (Ok ws) = λ i. Ok (sym (append_assoc vs (v ∷ []) ws) i)
behind_one vs v (Err o) = refl

-- all words so far are values, and this is one more
pub spell_next : (words rest more : List (List ℕ)) (word : List ℕ) (vs : List Tree) (v : Tree) → ((args : Arguments) → Spell rest args → Spell words (behind vs args)) → rest ≡ word ∷ more → Parses word (Stands v) → (args : Arguments) → Spell more args → Spell words (behind (vs ++ v ∷ []) args)
spell_next words rest more word vs v so_far e parses args spelled =
    subst (Spell words) (behind_one vs v args)
    (so_far (before v args) (subst (λ (ws : List (List ℕ)). Spell ws (before v args)) (sym e) (Stands v, parses, (args, spelled, refl))))

stopped : (r : TextRefusal) (Behind : Arguments → Type 0) → from_word (outcome_of r) Behind (Err (outcome_of r))
stopped (refused.Syntax r) Behind = refl
stopped (refused.NotALiteral span) Behind = refl
stopped (refused.TooDeep span) Behind = refl
stopped (refused.TooLarge span) Behind = refl

-- all words so far are values, and this is none
pub spell_stops : (words rest more : List (List ℕ)) (word : List ℕ) (vs : List Tree) (r : TextRefusal) → ((args : Arguments) → Spell rest args → Spell words (behind vs args)) → rest ≡ word ∷ more → Parses word (outcome_of r) → Spell words (Err (outcome_of r))
spell_stops words rest more word vs r so_far e parses =
    so_far (Err (outcome_of r)) (subst (λ (ws : List (List ℕ)). Spell ws (Err (outcome_of r))) (sym e) (outcome_of r, parses, stopped r (Spell more)))

-- no word is left
pub spell_all : (words rest : List (List ℕ)) (vs : List Tree) → ((args : Arguments) → Spell rest args → Spell words (behind vs args)) → rest ≡ [] → Spell words (Ok vs)
spell_all words rest vs so_far e =
    subst (λ (us : List Tree). Spell words (Ok us)) (append-nil vs) (so_far (Ok []) (subst (λ (ws : List (List ℕ)). Spell ws (Ok [])) (sym e) refl))

-- the words from a place on, where there is one
pub word_in_front : (words : List (String Global)) (i : ℕ) (word : String Global) (text : List ℕ) → i < length words → word ≡ get_or words i word → text ≡ string_bytes word → texts (drop i words) ≡ text ∷ texts (drop (i + 1) words)
word_in_front words i word text h e t =
    ap texts (drop_more words i word h) ∙ ap (λ (bytes : List ℕ). bytes ∷ texts (drop (i + 1) words)) (sym (t ∙ ap string_bytes e))

pub no_word_left : (words : List (String Global)) (i : ℕ) → length words ≤ i → texts (drop i words) ≡ []
no_word_left words i h = ap texts (drop_all i words h)
