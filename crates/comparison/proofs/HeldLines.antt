-- Lines in a space of words: a line's six words are stored below the others, and lists of lines are written one after the other.
use mathlib.Core.Path.{◌≡◌, refl, ap, ◌∙◌}
use Prim.Native.Nat.{ℕ, ◌+◌, ◌*◌}
use native.Mathlib.Numerals.{add-one}
use native.Mathlib.Omega.{arith}
use mathlib.Core.List.{List, [], ◌∷◌, ◌++◌, append_assoc}
use lib.ListN.{length, take, length-append}
use Rattle.truth.specs.Passed.{line_words}
use Rattle.comparison.specs.inner.Sizes.{written_space}
use Rattle.comparison.specs.inner.Lines.{Entry, sig, neg, alt, words, written_words, signal_lines, everywhere, first_lines, split, HoldsLines, Adds, Pushed}
use Rattle.comparison.specs.declared.writing.Written.{Written}
use Rattle.comparison.proofs.Lines.{words-below}
use Rattle.comparison.proofs.FirstLines.{signal-length}

-- ---- lines

-- the words of a line were stored below n lines
pub adds-line : (before after : List ℕ) (n : ℕ) (l : Entry) → length after ≡ written_space → take (line_words * n + line_words) after ≡ take (line_words * n) before ++ words l → Adds before after n (l ∷ [])
adds-line before after n l size e = record { size = size; adds = λ ls len h. record { size = size; stands = stands ls len h.stands } }
  where
    stands : (ls : List Entry) → length ls ≡ n → take (line_words * length ls) before ≡ written_words ls → take (line_words * length (ls ++ l ∷ [])) after ≡ written_words (ls ++ l ∷ [])
    stands ls len h =
        let m : line_words * length (ls ++ l ∷ []) ≡ line_words * n + line_words = omega (arith, length-append ls (l ∷ [])) in
        let k : line_words * length ls ≡ line_words * n = omega arith in
        ap (λ (i : ℕ). take i after) m ∙ e ∙ rw (← k, h, words-below)

pub holds-none : (space : List ℕ) → length space ≡ written_space → HoldsLines space []
unfolding written_words
holds-none space size = record { size = size; stands = refl }

-- one list after the other
pub adds_then : (a b c : List ℕ) (n m : ℕ) (xs ys : List Entry) → Adds a b n xs → m ≡ n + length xs → Adds b c m ys → Adds a c n (xs ++ ys)
adds_then a b c n m xs ys f e g = record {
  size = g.size;
  adds = λ ls len h. rw append_assoc at (g.adds (ls ++ xs) (omega (arith, length-append ls xs)) (f.adds ls len h));
}

-- ---- the first lines

pub holds-signal : (before after : List ℕ) (i : ℕ) → HoldsLines before (signal_lines i) → Adds before after i (sig (i + 1) ∷ []) → HoldsLines after (signal_lines (i + 1))
unfolding signal_lines
holds-signal before after i h f = rw (add-one, ← add-one i) (f.adds (signal_lines i) (signal-length i) h)

pub holds-first : (a b c : List ℕ) (n : ℕ) → HoldsLines a (signal_lines n) → Adds a b n (neg 1 ∷ []) → Adds b c (n + 1) (alt 1 (n + 1) ∷ []) → HoldsLines c (first_lines n)
unfolding first_lines everywhere
holds-first a b c n h f g =
    rw signal-length ((adds_then a b c n (n + 1) (neg 1 ∷ []) (alt 1 (n + 1) ∷ []) f (omega arith) g).adds (signal_lines n) (signal-length n) h)

-- ---- the lines of a split
pub adds-split : (s₀ s₁ s₂ s₃ s₄ s₅ s₆ : List ℕ) (n b p : ℕ) → Adds s₀ s₁ n (neg b ∷ []) → Adds s₁ s₂ (n + 1) (neg p ∷ [])
    → Adds s₂ s₃ (n + 2) (alt (n + 1) (n + 2) ∷ []) → Adds s₃ s₄ (n + 3) (neg (n + 3) ∷ []) → Adds s₄ s₅ (n + 4) (alt (n + 1) p ∷ [])
    → Adds s₅ s₆ (n + 5) (neg (n + 5) ∷ []) → Adds s₀ s₆ n (split n b p)
unfolding split
adds-split s₀ s₁ s₂ s₃ s₄ s₅ s₆ n b p f₁ f₂ f₃ f₄ f₅ f₆ =
    let g₅ = adds_then s₄ s₅ s₆ (n + 4) (n + 5) (alt (n + 1) p ∷ []) (neg (n + 5) ∷ []) f₅ (omega arith) f₆ in
    let g₄ = adds_then s₃ s₄ s₆ (n + 3) (n + 4) (neg (n + 3) ∷ []) (alt (n + 1) p ∷ neg (n + 5) ∷ []) f₄ (omega arith) g₅ in
    let g₃ = adds_then s₂ s₃ s₆ (n + 2) (n + 3) (alt (n + 1) (n + 2) ∷ []) (neg (n + 3) ∷ alt (n + 1) p ∷ neg (n + 5) ∷ []) f₃ (omega arith) g₄ in
    let g₂ = adds_then s₁ s₂ s₆ (n + 1) (n + 2) (neg p ∷ []) (alt (n + 1) (n + 2) ∷ neg (n + 3) ∷ alt (n + 1) p ∷ neg (n + 5) ∷ []) f₂ (omega arith) g₃ in
    adds_then s₀ s₁ s₆ n (n + 1) (neg b ∷ []) (neg p ∷ alt (n + 1) (n + 2) ∷ neg (n + 3) ∷ alt (n + 1) p ∷ neg (n + 5) ∷ []) f₁ (omega arith) g₂

-- the words of a line were stored below the others
pub pushed-line : (before after : Written) (l : Entry) → after.count ≡ before.count + 1 → length after.words ≡ written_space
    → take (line_words * before.count + line_words) after.words ≡ take (line_words * before.count) before.words ++ words l → Pushed before after (l ∷ [])
pushed-line before after l count size e = record { count = count; adds = adds-line before.words after.words before.count l size e }

-- the six pushes of a split
pub pushed-split : (w₀ w₁ w₂ w₃ w₄ w₅ w₆ : Written) (b p i₁ i₂ i₃ i₅ : ℕ) → i₁ ≡ w₀.count + 1 → i₂ ≡ w₁.count + 1 → i₃ ≡ w₂.count + 1 → i₅ ≡ w₄.count + 1
    → Pushed w₀ w₁ (neg b ∷ []) → Pushed w₁ w₂ (neg p ∷ []) → Pushed w₂ w₃ (alt i₁ i₂ ∷ []) → Pushed w₃ w₄ (neg i₃ ∷ []) → Pushed w₄ w₅ (alt i₁ p ∷ [])
    → Pushed w₅ w₆ (neg i₅ ∷ []) → Pushed w₀ w₆ (split w₀.count b p)
unfolding split
pushed-split w₀ w₁ w₂ w₃ w₄ w₅ w₆ b p i₁ i₂ i₃ i₅ e₁ e₂ e₃ e₅ f₁ f₂ f₃ f₄ f₅ f₆ =
    let n = w₀.count in
    let c₁ : w₁.count ≡ n + 1 = f₁.count in
    let c₂ : w₂.count ≡ n + 2 = omega (arith, f₂.count) in
    let c₃ : w₃.count ≡ n + 3 = omega (arith, f₃.count) in
    let c₄ : w₄.count ≡ n + 4 = omega (arith, f₄.count) in
    let c₅ : w₅.count ≡ n + 5 = omega (arith, f₅.count) in
    let j₂ : i₂ ≡ n + 2 = omega arith in
    let j₃ : i₃ ≡ n + 3 = omega arith in
    let j₅ : i₅ ≡ n + 5 = omega arith in
    record {
      count = omega (arith, f₆.count);
      adds = adds-split w₀.words w₁.words w₂.words w₃.words w₄.words w₅.words w₆.words n b p f₁.adds (rw c₁ at f₂.adds) (rw (c₂, e₁, j₂) at f₃.adds)
          (rw (c₃, j₃) at f₄.adds) (rw (c₄, e₁) at f₅.adds) (rw (c₅, j₅) at f₆.adds);
    }

-- ---- the first lines, pushed one after the other

-- the signals below i are written, and nothing else
pub record SignalsWritten (w : Written) (i : ℕ) : Type 0 where
  pub next : i ≡ w.count + 1
  pub holds : HoldsLines w.words (signal_lines w.count)

pub signals-begun : (w : Written) → w.count ≡ 0 → length w.words ≡ written_space → SignalsWritten w 1
unfolding signal_lines
signals-begun w e size = record { next = omega arith; holds = rw e (holds-none w.words size) }

pub signals-pushed : (w w' : Written) (i : ℕ) → SignalsWritten w i → Pushed w w' (sig i ∷ []) → SignalsWritten w' (i + 1)
signals-pushed w w' i s f =
    let e : w'.count ≡ w.count + 1 = f.count in
    record { next = omega (arith, s.next); holds = rw e (holds-signal w.words w'.words w.count s.holds (rw s.next at f.adds)) }

pub signals-written : (w : Written) (i a : ℕ) → SignalsWritten w i → i ≡ a + 1 → HoldsLines w.words (signal_lines a)
signals-written w i a s e = let q : w.count ≡ a = omega (arith, s.next) in rw q at s.holds

pub pushed-first : (w₁ w₂ w₃ : Written) (a i : ℕ) → w₁.count ≡ a → HoldsLines w₁.words (signal_lines a) → Pushed w₁ w₂ (neg 1 ∷ []) → i ≡ w₁.count + 1
    → Pushed w₂ w₃ (alt 1 i ∷ []) → HoldsLines w₃.words (first_lines a)
pushed-first w₁ w₂ w₃ a i e h f q g =
    let c : w₂.count ≡ a + 1 = omega (arith, f.count) in
    let j : i ≡ a + 1 = omega arith in
    holds-first w₁.words w₂.words w₃.words a h (rw e at f.adds) (rw (c, j) at g.adds)
