-- Which tokens spell which items.
use Rattle.std.specs.Prelude.{◌≡◌, ◌⊎◌, List, [], ◌∷◌, ◌++◌}
use Rattle.cl_sexpr.specs.Tree.{Tree, Forest, Pairs, LeafAt, ListAt, TupleAt, Empty, Then, NoPair, Pair}
use Rattle.cl_sexpr.specs.Token.{Token, Separator, Comment, Colon, Comma, Opens, Closes, OpensTuple, ClosesTuple, Key, Is, Faulty}

-- the tokens without blanks and comments
abbrev pub unspaced : List Token → List Token
unspaced [] = []
unspaced (Separator ∷ ts) = unspaced ts
unspaced (Comment ∷ ts) = unspaced ts
unspaced (Colon ∷ ts) = Colon ∷ unspaced ts
unspaced (Comma ∷ ts) = Comma ∷ unspaced ts
unspaced (Opens at ∷ ts) = Opens at ∷ unspaced ts
unspaced (Closes end ∷ ts) = Closes end ∷ unspaced ts
unspaced (OpensTuple at ∷ ts) = OpensTuple at ∷ unspaced ts
unspaced (ClosesTuple end ∷ ts) = ClosesTuple end ∷ unspaced ts
unspaced (Key name ∷ ts) = Key name ∷ unspaced ts
unspaced (Is leaf span ∷ ts) = Is leaf span ∷ unspaced ts
unspaced (Faulty r ∷ ts) = Faulty r ∷ unspaced ts

abbrev mutual
  -- a token, ( items ), or { pairs }
  pub IsItem : Tree → List Token → Type 0
  IsItem (LeafAt leaf span) ts = ts ≡ Is leaf span ∷ []
  IsItem (ListAt items span) ts = (inner : List Token) × IsRow items inner × (ts ≡ Opens span.start ∷ (inner ++ Closes span.end ∷ []))
  IsItem (TupleAt parts span) ts = (inner : List Token) × ArePairs parts inner × (ts ≡ OpensTuple span.start ∷ (inner ++ ClosesTuple span.end ∷ []))

  -- one item after another
  pub IsRow : Forest → List Token → Type 0
  IsRow Empty ts = ts ≡ []
  IsRow (Then t f) ts = (one others : List Token) × IsItem t one × IsRow f others × (ts ≡ one ++ others)

  -- one pair or more: key: item
  pub ArePairs : Pairs → List Token → Type 0
  ArePairs NoPair ts = ⊥
  ArePairs (Pair key t ps) ts = (one others : List Token) × IsItem t one × AreMore ps others × (ts ≡ Key key ∷ Colon ∷ (one ++ others))

  -- what stands behind a pair: nothing or a last comma, or a comma and more pairs
  pub AreMore : Pairs → List Token → Type 0
  AreMore NoPair ts = (ts ≡ []) ⊎ (ts ≡ Comma ∷ [])
  AreMore (Pair key t ps) ts = (one others : List Token) × IsItem t one × AreMore ps others × (ts ≡ Comma ∷ Key key ∷ Colon ∷ (one ++ others))
