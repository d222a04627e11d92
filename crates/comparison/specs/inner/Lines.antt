-- The lines that comparison writes, the rule sheet of a list of them, and the lists that it writes: the first lines, and those of a split.
use Rattle.std.specs.Prelude.{◌≡◌, ℕ, zero, suc, ◌+◌, ◌-◌, ◌*◌, ◌≤◌, ◌<◌, List, [], ◌∷◌, ◌++◌, length, get_or, take}
use Rattle.truth.specs.Passed.{signals_most, line_words, line_record, signal_operation, negation_operation, either_operation, some_path_operation}
use Rattle.comparison.specs.inner.Sizes.{written_space}
use Rattle.comparison.specs.Comparison.{next_words, rule_head}
use Rattle.comparison.specs.declared.writing.Written.{Written}
use Rattle.comparison.specs.declared.writing.Line.{Line}
use Rattle.comparison.specs.declared.writing.Line.TheVariants.{Signal, Not, Or, Next}

-- signal i; not line j; line i or line j; some next node has line j
pub data Entry : Type 0 where
  sig : ℕ → Entry
  neg : ℕ → Entry
  alt : ℕ → ℕ → Entry
  next : ℕ → Entry

-- a line that was taken apart, or is to be written
abbrev pub entry_of : Line → Entry
entry_of (Signal i) = sig i
entry_of (Not j) = neg j
entry_of (Or i j) = alt i j
entry_of (Next j) = next j

-- the words of a line record
unfoldable pub words : Entry → List ℕ
words (sig i) = line_record signal_operation i 0
words (neg j) = line_record negation_operation j 0
words (alt i j) = line_record either_operation i j
words (next j) = line_record some_path_operation 1 j

unfoldable pub written_words : List Entry → List ℕ
unfolding words
written_words [] = []
written_words (l ∷ ls) = words l ++ written_words ls

-- the rule sheet of a list of lines
unfoldable pub sheet : List Entry → List ℕ
unfolding next_words written_words
sheet ls = rule_head (length ls) ++ written_words ls

-- line j of the list; lines count from 1
unfoldable pub entry : List Entry → ℕ → Entry
entry ls j = get_or ls (j - 1) (sig 0)

-- the references of line j: to signals 1 to a, and to lines 1 to j - 1
unfoldable pub Refers : ℕ → ℕ → Entry → Type 0
Refers a j (sig i) = (1 ≤ i) × (i ≤ a)
Refers a j (neg i) = (1 ≤ i) × (i < j)
Refers a j (alt i k) = ((1 ≤ i) × (i < j)) × ((1 ≤ k) × (k < j))
Refers a j (next i) = (1 ≤ i) × (i < j)

-- a list of lines over a signals, at most 16, each of which refers only to lines above it
pub record Downward (a : ℕ) (ls : List Entry) : Type 0 where
  pub few : a ≤ signals_most
  pub refers : (j : ℕ) → 1 ≤ j → j ≤ length ls → Refers a j (entry ls j)

-- lines 1 to a are the signals
unfoldable pub signal_lines : ℕ → List Entry
signal_lines zero = []
signal_lines (suc i) = signal_lines i ++ sig (suc i) ∷ []

-- p or not p, below n lines: line n + 2 is true everywhere
unfoldable pub everywhere : ℕ → ℕ → List Entry
everywhere n p = neg p ∷ alt p (n + 1) ∷ []

-- the lines to begin with: the signals, and then signal 1 or not signal 1
unfoldable pub first_lines : ℕ → List Entry
unfolding signal_lines everywhere
first_lines a = signal_lines a ++ everywhere (length (signal_lines a)) 1

-- a split of line b by line p, below n lines: line n + 4 is "b and p", line n + 6 is "b and not p"
unfoldable pub split : ℕ → ℕ → ℕ → List Entry
split n b p = neg b ∷ neg p ∷ alt (n + 1) (n + 2) ∷ neg (n + 3) ∷ alt (n + 1) p ∷ neg (n + 5) ∷ []

-- the words of the lines stand at the head of the space in which lines are written
pub record HoldsLines (space : List ℕ) (ls : List Entry) : Type 0 where
  pub size : length space ≡ written_space
  pub stands : take (line_words * length ls) space ≡ written_words ls

-- the written lines are those of a list over a signals, each of which refers only to lines above it
pub record Lists (a : ℕ) (w : Written) (ls : List Entry) : Type 0 where
  pub down : Downward a ls
  pub holds : HoldsLines w.words ls
  pub count : length ls ≡ w.count

-- below n lines, whatever they are, the lines `more` are written
pub record Adds (before after : List ℕ) (n : ℕ) (more : List Entry) : Type 0 where
  pub size : length after ≡ written_space
  pub adds : (ls : List Entry) → length ls ≡ n → HoldsLines before ls → HoldsLines after (ls ++ more)

-- the lines `more` are written, as the next ones
pub record Pushed (before after : Written) (more : List Entry) : Type 0 where
  pub count : after.count ≡ before.count + length more
  pub adds : Adds before.words after.words before.count more
