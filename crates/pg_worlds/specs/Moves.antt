-- The moves, their words and their order.
use Rattle.std.specs.Prelude.{◌≡◌, ℕ, List, [], ◌∷◌, codes}
use Rattle.pg_worlds.specs.declared.tactic_name.TacticName.{TacticName}
use Rattle.pg_worlds.specs.declared.tactic_name.TacticName.TheVariants.{Rfl, Rw, Induction, Intro, Exact, Apply, Cases, Left, Right, Constructor, Use, Symm, Exfalso, Have, Revert, ByCases}

-- the word of a move
abbrev pub word_of : TacticName → List ℕ
word_of Rfl = codes "rfl"
word_of Rw = codes "rw"
word_of Induction = codes "induction"
word_of Intro = codes "intro"
word_of Exact = codes "exact"
word_of Apply = codes "apply"
word_of Cases = codes "cases"
word_of Left = codes "left"
word_of Right = codes "right"
word_of Constructor = codes "constructor"
word_of Use = codes "use"
word_of Symm = codes "symm"
word_of Exfalso = codes "exfalso"
word_of Have = codes "have"
word_of Revert = codes "revert"
word_of ByCases = codes "by_cases"

-- the words of the moves, in the order in which inventories list them
abbrev pub words : List (List ℕ)
words =
    codes "rfl"
    ∷ codes "rw"
    ∷ codes "induction"
    ∷ codes "intro"
    ∷ codes "exact"
    ∷ codes "apply"
    ∷ codes "cases"
    ∷ codes "left"
    ∷ codes "right"
    ∷ codes "constructor"
    ∷ codes "use"
    ∷ codes "symm"
    ∷ codes "exfalso"
    ∷ codes "have"
    ∷ codes "revert"
    ∷ codes "by_cases"
    ∷ []

-- the place of a move in this order
abbrev pub place_of : TacticName → ℕ
place_of Rfl = 0
place_of Rw = 1
place_of Induction = 2
place_of Intro = 3
place_of Exact = 4
place_of Apply = 5
place_of Cases = 6
place_of Left = 7
place_of Right = 8
place_of Constructor = 9
place_of Use = 10
place_of Symm = 11
place_of Exfalso = 12
place_of Have = 13
place_of Revert = 14
place_of ByCases = 15

-- no two moves have one word
abbrev pub WordsDiffer : Type 0
WordsDiffer = (s t : TacticName) → word_of s ≡ word_of t → s ≡ t
