-- The lines that the last line of a list needs: lines that are true at the same nodes are made one, and those that are needed are numbered anew.
use Rattle.std.specs.Prelude.{◌≡◌, ◌⊎◌, ◌↔◌, ℕ, ◌≤◌, ◌<◌, List, Option, Some, Bool, true, false, ◌++◌, length, get_or, set, drop, T}
use Rattle.truth.specs.Passed.{kripke, nodes, machine_refusal}
use Rattle.comparison.specs.inner.Lines.{Entry, sig, neg, alt, next, sheet, entry, Downward, HoldsLines, Lists}
use Rattle.comparison.specs.inner.Blocks.{TrueIn}
use Rattle.comparison.specs.declared.writing.Written.{Written}
use Rattle.comparison.specs.declared.needed.Merging.{Merging}

-- the line with its references renumbered
unfoldable pub renumber : (ℕ → ℕ) → Entry → Entry
renumber f (sig i) = sig i
renumber f (neg j) = neg (f j)
renumber f (alt i j) = alt (f i) (f j)
renumber f (next j) = next (f j)

-- the table `needed` with its references marked
unfoldable pub marks : (ℕ → ℕ) → Entry → List Bool → List Bool
marks f (sig i) needed = needed
marks f (neg j) needed = set needed (f j) true
marks f (alt i j) needed = set (set needed (f i) true) (f j) true
marks f (next j) needed = set needed (f j) true

-- what holds of each of its references
unfoldable pub EachLine : (ℕ → Type 0) → Entry → Type 0
EachLine P (sig i) = Unit {0}
EachLine P (neg j) = P j
EachLine P (alt i j) = P i × P j
EachLine P (next j) = P j

-- what holds of one of them
unfoldable pub SomeLine : (ℕ → Type 0) → Entry → Type 0
SomeLine P (sig i) = ⊥
SomeLine P (neg j) = P j
SomeLine P (alt i j) = P i ⊎ P j
SomeLine P (next j) = P j

-- ---- truths, at every node of every machine

-- line j of one list and line k of another are true at the same nodes
unfoldable pub Same : List Entry → ℕ → List Entry → ℕ → Type 0
Same ls j ms k = (M : List ℕ) → machine_refusal M ≡ 0 → (s : ℕ) → 1 ≤ s → s ≤ nodes M → TrueIn M ls j s ↔ TrueIn M ms k s

-- line j is true exactly where line k is not
unfoldable pub Opposite : List Entry → ℕ → ℕ → Type 0
Opposite ls j k = (M : List ℕ) → machine_refusal M ≡ 0 → (s : ℕ) → 1 ≤ s → s ≤ nodes M → TrueIn M ls j s ↔ (TrueIn M ls k s → ⊥)

-- line j is true exactly where some next node has line k
unfoldable pub NextOf : List Entry → ℕ → ℕ → Type 0
NextOf ls j k = (M : List ℕ) → machine_refusal M ≡ 0 → (s : ℕ) → 1 ≤ s → s ≤ nodes M
    → TrueIn M ls j s ↔ ((t : ℕ) × T ((kripke M).edge s t) × TrueIn M ls k t)

-- line j is true everywhere
unfoldable pub Always : List Entry → ℕ → Type 0
Always ls j = (M : List ℕ) → machine_refusal M ≡ 0 → (s : ℕ) → 1 ≤ s → s ≤ nodes M → TrueIn M ls j s

-- the last line needs line k, directly or through others
pub data Needs (ls : List Entry) : ℕ → Type 0 where
  itself : Needs ls (length ls)
  through : (k m : ℕ) → SomeLine (λ r. r ≡ k) (entry ls m) → Needs ls m → Needs ls k

-- a list with fewer lines, or as many, and a last line that is true where that of `ls` is and needs every line
pub record Shortened (a : ℕ) (ls short : List Entry) : Type 0 where
  pub down : Downward a short
  pub some : 1 ≤ length short
  pub few : length short ≤ length ls
  pub same : Same ls (length ls) short (length short)
  pub needed : (k : ℕ) → 1 ≤ k → k ≤ length short → Needs short k

-- ---- lines made one

-- `same` at k is a line, not below line k, that is true where line k is
pub record Stands (ls : List Entry) (same : List ℕ) (k : ℕ) : Type 0 where
  pub low : 1 ≤ get_or same k 0
  pub high : get_or same k 0 ≤ k
  pub true : Same ls k ls (get_or same k 0)

abbrev pub AllStand : List Entry → ℕ → List ℕ → Type 0
AllStand ls n same = (k : ℕ) → 1 ≤ k → k ≤ n → Stands ls same k

-- `other` at k, where it is not 0, is a line that is true exactly where line k is not
pub record Opposed (ls : List Entry) (i : ℕ) (other : List ℕ) (k : ℕ) : Type 0 where
  pub low : 1 ≤ k
  pub high : get_or other k 0 ≤ i
  pub true : Opposite ls k (get_or other k 0)

-- `nexts` at k, where it is not 0, is a line that is true exactly where some next node has line k
pub record Followed (ls : List Entry) (i : ℕ) (nexts : List ℕ) (k : ℕ) : Type 0 where
  pub high : get_or nexts k 0 ≤ i
  pub true : NextOf ls (get_or nexts k 0) k

-- lines 1 to i are done; line `top`, if there is one, is true everywhere
pub record Merged (ls : List Entry) (i : ℕ) (same other nexts : List ℕ) (top : Option ℕ) : Type 0 where
  pub stands : AllStand ls i same
  pub opposed : (k : ℕ) → 1 ≤ get_or other k 0 → Opposed ls i other k
  pub followed : (k : ℕ) → 1 ≤ get_or nexts k 0 → Followed ls i nexts k
  pub always : (t : ℕ) → top ≡ Some t → Always ls t

abbrev pub MergedIn : List Entry → ℕ → Merging → Type 0
MergedIn ls i m = Merged ls i m.same.places m.other.places m.nexts.places m.top

-- r is the number that line j has in the table, or i where it has none: then the table becomes `added`
pub data NumberOr (j i : ℕ) (added before after : List ℕ) (r : ℕ) : Type 0 where
  had : 1 ≤ r → r ≡ get_or before j 0 → after ≡ before → NumberOr j i added before after r
  new : get_or before j 0 ≡ 0 → r ≡ i → after ≡ added → NumberOr j i added before after r

-- r is line i, "line x or line y", or that one of the two beside which the other is true nowhere: line `top` has it in `other`
pub data EitherOf (other : List ℕ) (top : Option ℕ) (x y i r : ℕ) : Type 0 where
  second : (t : ℕ) → top ≡ Some t → x ≡ get_or other t 0 → r ≡ y → EitherOf other top x y i r
  first : (t : ℕ) → top ≡ Some t → y ≡ get_or other t 0 → r ≡ x → EitherOf other top x y i r
  both : r ≡ i → EitherOf other top x y i r

-- ---- needed lines

-- line k is marked in the table
abbrev pub IsMarked : List Bool → ℕ → Type 0
IsMarked needed k = get_or needed k false ≡ true

-- line k is needed by a needed line
pub record Wanted (ls : List Entry) (same : List ℕ) (j : ℕ) (needed : List Bool) (k : ℕ) : Type 0 where
  pub by : ℕ
  pub low : 1 ≤ by
  pub high : by ≤ j
  pub marked : IsMarked needed by
  pub refers : SomeLine (λ r. get_or same r 0 ≡ k) (entry ls by)

-- line j is needed, and, of the needed lines from i + 1 to j, each line that they refer to; and no other
pub record Closed (ls : List Entry) (same : List ℕ) (i j : ℕ) (needed : List Bool) : Type 0 where
  pub last : IsMarked needed j
  pub each : (k : ℕ) → i < k → k ≤ j → IsMarked needed k → EachLine (λ r. IsMarked needed (get_or same r 0)) (entry ls k)
  pub only : (k : ℕ) → IsMarked needed k → (k ≡ j) ⊎ Wanted ls same j needed k

-- the needed lines of 1 to i are written in `out`, line k as line `number` at k, the last of them as line c
pub record Copied (a : ℕ) (ls : List Entry) (same : List ℕ) (needed : List Bool) (i : ℕ) (number out : List ℕ) (c : ℕ) : Type 0 where
  pub lines : List Entry
  pub count : length lines ≡ c
  pub holds : HoldsLines out lines
  pub down : Downward a lines
  pub low : (k : ℕ) → 1 ≤ k → k ≤ i → IsMarked needed k → 1 ≤ get_or number k 0
  pub high : (k : ℕ) → 1 ≤ k → k ≤ i → IsMarked needed k → get_or number k 0 ≤ c
  pub true : (k : ℕ) → 1 ≤ k → k ≤ i → IsMarked needed k → Same ls k lines (get_or number k 0)
  pub last : 1 ≤ i → IsMarked needed i → get_or number i 0 ≡ c
  pub whence : (n : ℕ) → 1 ≤ n → n ≤ c → (k : ℕ) × (1 ≤ k) × (k ≤ i) × IsMarked needed k × (get_or number k 0 ≡ n)
  pub refers : (m : ℕ) → 1 ≤ m → m ≤ i → IsMarked needed m → (k : ℕ) → SomeLine (λ r. get_or same r 0 ≡ k) (entry ls m)
      → SomeLine (λ r. r ≡ get_or number k 0) (entry lines (get_or number m 0))

-- the written lines are those of some list
pub record Listed (w : Written) : Type 0 where
  pub a : ℕ
  pub lines : List Entry
  pub lists : Lists a w lines

-- the words of n lines, which are `ls` shortened
pub record ShortLines (a : ℕ) (ls : List Entry) (space : List ℕ) (n : ℕ) : Type 0 where
  pub short : List Entry
  pub shortened : Shortened a ls short
  pub holds : HoldsLines space short
  pub count : length short ≡ n

-- the sheet of `ls` shortened stands at the head of the space, and the words past it are as before
pub record ShortSheet (a : ℕ) (ls : List Entry) (before after : List ℕ) : Type 0 where
  pub short : List Entry
  pub shortened : Shortened a ls short
  pub stands : after ≡ sheet short ++ drop (length (sheet short)) before
