-- The automaton of a path line beside the machine, in rows: where the argument lines have a valuation, where a position may go to
-- another, and which positions are good.
use Rattle.std.specs.Prelude.{◌≡◌, ◌↔◌, ℕ, zero, suc, ◌+◌, ◌-◌, ◌*◌, ◌^◌, ◌≤◌, ◌<◌, List, Bool, true, false, not, ◌&&◌, length, get_or, T}
use Rattle.sheets.specs.Format.{argument_place}
use Rattle.sheets.specs.Words.{bit}
use Rattle.sheets.specs.Structures.{Automaton}
use Rattle.sheets.specs.Rules.{lent, line_word}
use Rattle.sheets.specs.inner.Lines.{arguments}
use Rattle.sheets.specs.declared.lines.PathLine.{PathLine}
use Rattle.truth.specs.Sizes.{positions_most, row_words, cell}
use Rattle.truth.specs.inner.Rows.{rows_has}
use Rattle.truth.specs.inner.Links.{Into, Onto}

unfoldable pub same : Bool → Bool → Bool
same true b = b
same false b = not b

-- bits 0 to v - 1 of w are the truths f 0 to f (v - 1)
unfoldable pub agrees : ℕ → ℕ → (ℕ → Bool) → Bool
unfolding same bit
agrees zero w f = true
agrees (suc v) w f = agrees v w f && same (bit w v) (f v)

-- the line of variable i + 1 of line j; of a list of lines; of a decoded line
abbrev pub argument : List ℕ → ℕ → ℕ → ℕ
argument R j i = line_word lent R j (argument_place i)

abbrev pub line_at : List ℕ → ℕ → ℕ
line_at lines i = get_or lines i 0

abbrev pub argument_of : PathLine → ℕ → ℕ
argument_of p = line_at (arguments p)

-- the truth of variable i + 1 at node s, where `arg i` is its line, by the rows of the lines above
abbrev pub argument_at : List ℕ → (ℕ → ℕ) → ℕ → ℕ → Bool
argument_at rows arg s i = rows_has rows (arg i - 1) s

-- `allow` has at the row of p and p' the nodes of `all` at which the automaton A, of t positions, goes from position p to position p', under the
-- valuation that the argument lines have there; position p is state p + 1
pub record Allowed (A : Automaton) (t : ℕ) (rows : List ℕ) (arg : ℕ → ℕ) (all : ℕ → Bool) (allow : List ℕ) : Type 0 where
  pub inside : (k s : ℕ) → T (rows_has allow k s) → T (all s)
  pub goes : (p p' s w : ℕ) → p < t → p' < t → w < 2 ^ A.variables → T (agrees A.variables w (argument_at rows arg s)) → T (all s)
      → rows_has allow (cell p p') s ≡ A.goes (p + 1) w (p' + 1)

-- accepting and non-accepting exchanged, or not
unfoldable pub turned : Bool → Bool → Bool
turned false b = b
turned true b = not b

-- accepting states are good for operation 3, non-accepting ones for operation 4
abbrev pub good : Bool → Automaton → ℕ → Bool
good exchanged A q = turned exchanged (A.accepting q)

-- row p has all nodes of `all` where position p is good, and none otherwise
pub record GoodRows (A : Automaton) (t : ℕ) (all : ℕ → Bool) (exchanged : Bool) (rows : List ℕ) : Type 0 where
  pub row : (p s : ℕ) → p < t → rows_has rows p s ≡ (all s && good exchanged A (p + 1))

-- ---- what the tables are made of

-- the lines of variables 1 to v have rows
abbrev pub Refers : List ℕ → (ℕ → ℕ) → ℕ → Type 0
Refers rows arg v = (i : ℕ) → i < v → (1 ≤ arg i) × (row_words * arg i ≤ length rows)

-- s is in the row of a valuation that the mask has
abbrev pub Drawn : List ℕ → ℕ → ℕ → Type 0
Drawn table mask s = (w : ℕ) × T (bit mask w) × T (rows_has table w s)

-- what one mask changes: the row of p and k in `allow` has the nodes that it draws, and the sets know of p and k what they must
pub record MaskSet (table : List ℕ) (mask p k : ℕ) (allow into onto allow' into' onto' : List ℕ) : Type 0 where
  pub size : length allow' ≡ length allow
  pub here : (s : ℕ) → T (rows_has allow' (cell p k) s) ↔ Drawn table mask s
  pub other : (q s : ℕ) → (q ≡ cell p k → ⊥) → rows_has allow' q s ≡ rows_has allow q s
  pub enters : (t : ℕ) → t ≤ positions_most → p < t → k < t → Into allow into t → Into allow' into' t
  pub leaves : (t : ℕ) → t ≤ positions_most → p < t → k < t → Onto allow onto t → Onto allow' onto' t
