-- Copying the needed lines: the loop over the lines, one line after the other.
use mathlib.Core.Path.{◌≡◌, ap, ◌∙◌}
use Prim.Native.Nat.{ℕ, ◌+◌, ◌-◌, ◌≤◌}
use native.Mathlib.Omega.{arith}
use mathlib.Core.List.{List, [], ◌∷◌}
use mathlib.Core.Bool.{Bool, false}
use lib.ListN.{length, get_or, set, length-set}
use Rattle.comparison.specs.inner.Sizes.{written_space, written_most, line_places}
use Rattle.comparison.specs.inner.Lines.{Entry, entry, Downward, HoldsLines, Pushed}
use Rattle.comparison.specs.inner.Needed.{renumber, AllStand, IsMarked, Closed, Copied}
use Rattle.comparison.specs.declared.writing.Written.{Written}
use Rattle.comparison.proofs.NeededLines.{copied_none, copied-skipped, copied-line}

-- the needed lines before i are written in `out`, and they are fewer than i
pub record Copying (lines : Written) (j : ℕ) (same : List ℕ) (needed : List Bool) (i : ℕ) (number : List ℕ) (out : Written) : Type 0 where
  pub size : length number ≡ line_places
  pub few : out.count + 1 ≤ i
  pub copied : (a : ℕ) (ls : List Entry) → Downward a ls → HoldsLines lines.words ls → j ≤ length ls → AllStand ls (length ls) same
      → Closed ls same 0 j needed → Copied a ls same needed (i - 1) number out.words out.count

module _ (lines : Written) (j : ℕ) (same : List ℕ) (needed : List Bool) where
  pub copying-none : (number : List ℕ) (out : Written) → out.count ≡ 0 → length number ≡ line_places → length out.words ≡ written_space → Copying lines j same needed 1 number out
  copying-none number out none size room = record {
    size = size;
    few = omega arith;
    copied = λ a ls down holds inside stands closed. rw none (copied_none a ls same needed number out.words down.few room);
  }

  module _ (most : j ≤ written_most) (i : ℕ) (low : 1 ≤ i) (high : i ≤ j) (number : List ℕ) (out : Written)
      (x : Copying lines j same needed i number out) where
    -- line i is not needed
    pub copying-skip : get_or needed i false ≡ false → Copying lines j same needed (i + 1) number out
    copying-skip z =
        let few = x.few in
        let e : i - 1 + 1 ≡ i + 1 - 1 = omega arith in
        let e' : i - 1 + 1 ≡ i = omega arith in
        record {
          size = x.size;
          few = omega arith;
          copied = λ a ls down holds inside stands closed.
              rw e at (copied-skipped a ls down same needed stands (i - 1) (omega arith) (omega arith) number out.words out.count x.size
              (x.copied a ls down holds inside stands closed) (rw e' z));
        }

    -- it is, and is written with its references renumbered
    pub copying-more : IsMarked needed i → (line new : Entry) (out' : Written) → ((ls : List Entry) → HoldsLines lines.words ls → i ≤ length ls → entry ls i ≡ line)
        → new ≡ renumber (λ r. get_or number (get_or same r 0) 0) line → Pushed out out' (new ∷ []) → (number' : List ℕ) → number' ≡ set number i (out.count + 1)
        → Copying lines j same needed (i + 1) number' out'
    copying-more need line new out' taken renumbered pushed number' put =
        let few = x.few in
        let one : out'.count ≡ out.count + 1 = pushed.count in
        let e : i - 1 + 1 ≡ i = omega arith in
        let e' : i + 1 - 1 ≡ i = omega arith in
        record {
          size = ap length put ∙ length-set number i (out.count + 1) ∙ x.size;
          few = omega arith;
          copied = λ a ls down holds inside stands closed.
              rw (e', put, one)
              (rw e at (copied-line a ls down same needed stands (i - 1) (omega arith) (omega arith) number out.words out.count x.size
              (x.copied a ls down holds inside stands closed) (rw e need) (rw e (closed.each i (omega arith) high need)) out'.words
              (rw (e, taken ls holds (omega arith), ← renumbered) pushed.adds)));
        }

  pub copying-end : (i : ℕ) (number : List ℕ) (out : Written) → i ≡ j + 1 → Copying lines j same needed i number out
      → (a : ℕ) (ls : List Entry) → Downward a ls → HoldsLines lines.words ls → j ≤ length ls → AllStand ls (length ls) same → Closed ls same 0 j needed
      → (n : List ℕ) × Copied a ls same needed j n out.words out.count
  copying-end i number out e x a ls down holds inside stands closed =
      let q : i - 1 ≡ j = omega arith in
      (number, rw q at (x.copied a ls down holds inside stands closed))
