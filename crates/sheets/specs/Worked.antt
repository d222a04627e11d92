-- The worked sheets of document 01, word by word.
use Rattle.std.specs.Prelude.{ℕ, List, [], ◌∷◌}

-- M1: one node, which starts, has signal 1 and goes to itself
abbrev pub M1 : List ℕ
M1 = 1 ∷ 1 ∷ 1 ∷ 1 ∷ 1 ∷ 1 ∷ 1 ∷ 0 ∷ []

-- M2: two nodes with signal 1, each leading to the other
abbrev pub M2 : List ℕ
M2 = 2 ∷ 1 ∷ 2 ∷ 1 ∷ 1 ∷ 1 ∷ 1 ∷ 0 ∷ 2 ∷ 2 ∷ 0 ∷ 1 ∷ 0 ∷ []

-- M3: M2 with the second node's signals 0
abbrev pub M3 : List ℕ
M3 = 2 ∷ 1 ∷ 2 ∷ 1 ∷ 1 ∷ 1 ∷ 0 ∷ 0 ∷ 2 ∷ 2 ∷ 0 ∷ 1 ∷ 0 ∷ []

-- M5: node 1 starts, 1 to 2, 2 to 3 and 4, each of 3 and 4 to itself; signal 1 at 3, signal 2 at 4
abbrev pub M5 : List ℕ
M5 =
    4 ∷ 2 ∷ 5
    ∷ 0 ∷ 1 ∷ 1 ∷ 0 ∷ 0 ∷ 2 ∷ 1 ∷ 0 ∷ 4 ∷ 2 ∷ 0 ∷ 5
    ∷ 2 ∷ 0 ∷ 3 ∷ 3 ∷ 4 ∷ 0 ∷ 3 ∷ 0 ∷ 4 ∷ 0 ∷ []

-- M6: 1 starts, 1 to 2 and 3, 2 to 4, 3 to 5, each of 4 and 5 to itself; signal 1 at 4, signal 2 at 5
abbrev pub M6 : List ℕ
M6 =
    5 ∷ 2 ∷ 6
    ∷ 0 ∷ 1 ∷ 1 ∷ 0 ∷ 0 ∷ 3 ∷ 0 ∷ 0 ∷ 4 ∷ 1 ∷ 0 ∷ 5 ∷ 2 ∷ 0 ∷ 6
    ∷ 2 ∷ 2 ∷ 3 ∷ 0 ∷ 4 ∷ 0 ∷ 5 ∷ 0 ∷ 4 ∷ 0 ∷ 5 ∷ 0 ∷ []

-- the automaton Next with one line, signal 1
abbrev pub NextSheet : List ℕ
NextSheet =
    1 ∷ 4 ∷ 5 ∷ 1 ∷ 1 ∷ 1
    ∷ 0 ∷ 1 ∷ 2 ∷ 0 ∷ 2 ∷ 3 ∷ 1 ∷ 4 ∷ 4 ∷ 0 ∷ 5 ∷ 0
    ∷ 2 ∷ 3 ∷ 0 ∷ 3 ∷ 2 ∷ 3 ∷ 4 ∷ 1 ∷ 0 ∷ 3 ∷ 3 ∷ 0 ∷ 4 ∷ 3 ∷ 0
    ∷ 0 ∷ 1 ∷ 0 ∷ 0 ∷ 0 ∷ 0 ∷ []

-- (g): v = 1, two states, one accepting, mask 2 to the accepting and mask 1 to the other from both; one line, signal 1
abbrev pub MixedSheet : List ℕ
MixedSheet =
    1 ∷ 2 ∷ 4 ∷ 1 ∷ 1 ∷ 1
    ∷ 1 ∷ 1 ∷ 2 ∷ 0 ∷ 3 ∷ 0
    ∷ 1 ∷ 2 ∷ 2 ∷ 2 ∷ 1 ∷ 0 ∷ 1 ∷ 2 ∷ 4 ∷ 2 ∷ 1 ∷ 0
    ∷ 0 ∷ 1 ∷ 0 ∷ 0 ∷ 0 ∷ 0 ∷ []

-- (h): v = 1, mask 1 alone; one state and one line, signal 1
abbrev pub PartialSheet : List ℕ
PartialSheet = 1 ∷ 1 ∷ 1 ∷ 1 ∷ 1 ∷ 1 ∷ 1 ∷ 1 ∷ 0 ∷ 1 ∷ 1 ∷ 0 ∷ 0 ∷ 1 ∷ 0 ∷ 0 ∷ 0 ∷ 0 ∷ []

-- (i): M1 with edge next 1
abbrev pub SelfLinked : List ℕ
SelfLinked = 1 ∷ 1 ∷ 1 ∷ 1 ∷ 1 ∷ 1 ∷ 1 ∷ 1 ∷ []

-- (j): M1 with signals 2
abbrev pub ExtraSignal : List ℕ
ExtraSignal = 1 ∷ 1 ∷ 1 ∷ 2 ∷ 1 ∷ 1 ∷ 1 ∷ 0 ∷ []
