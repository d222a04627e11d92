-- Rows: where the two words of a set hold a node; what they hold after or, and, complement and one more bit; when they hold nothing;
-- how many they hold.
use mathlib.Core.Path.{◌≡◌, refl, sym, ◌∙◌}
use mathlib.Core.Logic.{⊎_elim}
use Prim.Native.Nat.{ℕ, zero, suc, ◌+◌, ◌-◌, ◌*◌, ◌%◌, ◌^◌, ◌≤◌, ◌<◌}
use native.Mathlib.Nat.{add-zero, add-suc}
use native.Mathlib.Omega.{arith}
use mathlib.Core.Bool.{Bool, true, false, not, ◌&&◌, ◌||◌, true≢false}
use borrow.Author.Tests.{le-leb, lt-leb, eq-eqb, ne_eqb}
use lib.Dec.{T, T_not, not_T, leb, eqb, eqb→eq}
use lib.Count.{ones}
use lib.Bits.{bit_and, bit_or, or_zero_r}
use Rattle.sheets.specs.Words.{bit, within, each, indicator, sum}
use Rattle.sheets.proofs.Tests.{passed, failed, and_left}
use Rattle.sheets.proofs.Search.{Among, le-or-gt, within-at, within_in, each_at, each_in, find}
use Rattle.sheets.proofs.Counting.{number}
use Rattle.sheets.proofs.Positions.{same_tests}
use Rattle.sheets.proofs.Bits.{bits-same, no-bit}
use Rattle.sheets.proofs.BitLaws.{sum_same, ones-number, bit-or, bit-and, bit_not, bit-none, bit-power, one_shifted}
use Rattle.truth.specs.Sizes.{row_word_bits, high_first, members_most}
use Rattle.truth.specs.inner.Rows.{pick, held, tally}

-- ---- the numbers from 1 to 128

pub in_row : (s : ℕ) → 1 ≤ s → s ≤ members_most → within 1 members_most s ≡ true
in_row s lo hi = passed (within 1 members_most s) (within_in 1 members_most s lo hi)

pub not-in-row : (s : ℕ) → s ≡ 0 → within 1 members_most s ≡ false
not-in-row s e = rw (lt-leb 1 s (omega arith))

pub past_row : (s : ℕ) → members_most < s → within 1 members_most s ≡ false
past_row s h = rw (le-leb 1 s (omega arith), lt-leb s members_most h)

-- ---- where a node's bit is

module _ (a b s : ℕ) where
  pub held_in : T (held a b s) → (1 ≤ s) × (s ≤ members_most)
  unfolding held
  held_in t = within-at 1 members_most s (and_left (within 1 members_most s) _ t)

  pub held_out : within 1 members_most s ≡ false → held a b s ≡ false
  unfolding held
  held_out e = rw e

  pub held_low : 1 ≤ s → s ≤ row_word_bits → held a b s ≡ bit a (s - 1)
  unfolding held pick
  held_low lo hi = rw (le-leb 1 s lo, le-leb s members_most (omega arith), le-leb s row_word_bits hi)

  pub held_high : row_word_bits < s → s ≤ members_most → held a b s ≡ bit b (s - high_first)
  unfolding held pick
  held_high lo hi = rw (le-leb 1 s (omega arith), le-leb s members_most hi, lt-leb s row_word_bits lo)

module _ (a b k : ℕ) (l : k < row_word_bits) where
  pub held-lower : held a b (k + 1) ≡ bit a k
  held-lower = let e : k + 1 - 1 ≡ k = omega arith in rw e at (held_low a b (k + 1) (omega arith) (omega arith))

  pub held-upper : held a b (k + high_first) ≡ bit b k
  held-upper = let e : k + high_first - high_first ≡ k = omega arith in rw e at (held_high a b (k + high_first) (omega arith) (omega arith))

-- a row is known by the bits of its two words
held_by : (a b : ℕ) (f : ℕ → Bool) → ((k : ℕ) → k < row_word_bits → bit a k ≡ f (k + 1)) → ((k : ℕ) → k < row_word_bits → bit b k ≡ f (k + high_first))
    → ((s : ℕ) → within 1 members_most s ≡ false → f s ≡ false) → (s : ℕ) → held a b s ≡ f s
held_by a b f lower upper outside s =
    ⊎_elim none (λ lo. ⊎_elim (low lo) (λ mid. ⊎_elim (high mid) past (le-or-gt s members_most)) (le-or-gt s row_word_bits)) (le-or-gt s 0)
  where
    none : s ≤ 0 → held a b s ≡ f s
    none h = let e = not-in-row s (omega arith) in held_out a b s e ∙ sym (outside s e)

    low : 0 < s → s ≤ row_word_bits → held a b s ≡ f s
    low lo hi = let e : s - 1 + 1 ≡ s = omega arith in held_low a b s lo hi ∙ rw e at (lower (s - 1) (omega arith))

    high : row_word_bits < s → s ≤ members_most → held a b s ≡ f s
    high lo hi = let e : s - high_first + high_first ≡ s = omega arith in held_high a b s lo hi ∙ rw e at (upper (s - high_first) (omega arith))

    past : members_most < s → held a b s ≡ f s
    past h = let e = past_row s h in held_out a b s e ∙ sym (outside s e)

-- ---- or, and, complement, nothing

-- an operation that gives false of false and false, bit by bit
pick-both : (f : Bool → Bool → Bool) → f false false ≡ false → (w p x y z u : Bool) → (w && pick p (f x y) (f z u)) ≡ f (w && pick p x z) (w && pick p y u)
unfolding pick
pick-both f e true true x y z u = refl
pick-both f e true false x y z u = refl
pick-both f e false p x y z u = sym e

module _ (a b c d s : ℕ) where
  pub held-or : held (bit_or a c) (bit_or b d) s ≡ (held a b s || held c d s)
  unfolding held
  held-or = rw (bit-or a c (s - 1), bit-or b d (s - high_first)) (pick-both ◌||◌ refl (within 1 members_most s) (leb s row_word_bits) _ _ _ _)

  pub held-and : held (bit_and a c) (bit_and b d) s ≡ (held a b s && held c d s)
  unfolding held
  held-and = rw (bit-and a c (s - 1), bit-and b d (s - high_first)) (pick-both ◌&&◌ refl (within 1 members_most s) (leb s row_word_bits) _ _ _ _)

pub held-not : (a b s : ℕ) → a < 2 ^ row_word_bits → b < 2 ^ row_word_bits → held ((2 ^ row_word_bits - 1) - a) ((2 ^ row_word_bits - 1) - b) s ≡ (within 1 members_most s && not (held a b s))
held-not a b s ha hb =
    held_by ((2 ^ row_word_bits - 1) - a) ((2 ^ row_word_bits - 1) - b) (λ s. within 1 members_most s && not (held a b s))
    (λ k l. rw (in_row (k + 1) (omega arith) (omega arith), held-lower a b k l) (bit_not row_word_bits a k ha l))
    (λ k l. rw (in_row (k + high_first) (omega arith) (omega arith), held-upper a b k l) (bit_not row_word_bits b k hb l)) (λ s e. rw e) s

pub held_none : (s : ℕ) → held 0 0 s ≡ false
held_none = held_by 0 0 (λ s. false) (λ k l. bit-none k) (λ k l. bit-none k) (λ s e. refl)

-- ---- one more bit; `with-low` and `with-high` have `1 << k` as MIR computes it

shift-eqb : (k o s : ℕ) → o ≤ s → eqb k (s - o) ≡ eqb (k + o) s
shift-eqb k o s l =
    same_tests (eqb k (s - o)) (eqb (k + o) s) (λ t. let e = eqb→eq k (s - o) t in rw (eq-eqb (k + o) s (omega arith)) tt)
    (λ t. let e = eqb→eq (k + o) s t in rw (eq-eqb k (s - o) (omega arith)) tt)

module _ (a b s i : ℕ) where
  -- two words with the bit of node s alone
  with-one : (c d : ℕ) → 1 ≤ s → s ≤ members_most → ((k : ℕ) → k < row_word_bits → bit c k ≡ eqb (k + 1) s) → ((k : ℕ) → k < row_word_bits → bit d k ≡ eqb (k + high_first) s)
      → held (bit_or a c) (bit_or b d) i ≡ (held a b i || (within 1 members_most s && eqb i s))
  with-one c d lo hi lower upper =
      held-or a b c d i
      ∙ rw (held_by c d (λ i. eqb i s) lower upper (λ i e. ne_eqb i s (λ q. true≢false (sym (in_row i (omega arith) (omega arith)) ∙ e))) i, in_row s lo hi)

  pub with-low : 1 ≤ s → s ≤ row_word_bits → held (bit_or a ((1 * 2 ^ (s - 1)) % 2 ^ row_word_bits)) b i ≡ (held a b i || (within 1 members_most s && eqb i s))
  with-low lo hi =
      let more = with-one (2 ^ (s - 1)) 0 lo (omega arith) (λ k l. bit-power (s - 1) k ∙ shift-eqb k 1 s lo)
      (λ k l. bit-none k ∙ sym (ne_eqb (k + high_first) s (λ q. omega arith))) in
      rw (one_shifted row_word_bits (s - 1) (omega arith)) (rw (or_zero_r b) at more)

  pub with-high : row_word_bits < s → s ≤ members_most → held a (bit_or b ((1 * 2 ^ (s - high_first)) % 2 ^ row_word_bits)) i ≡ (held a b i || (within 1 members_most s && eqb i s))
  with-high lo hi =
      let more = with-one 0 (2 ^ (s - high_first)) (omega arith) hi (λ k l. bit-none k ∙ sym (ne_eqb (k + 1) s (λ q. omega arith)))
      (λ k l. bit-power (s - high_first) k ∙ shift-eqb k high_first s (omega arith)) in
      rw (one_shifted row_word_bits (s - high_first) (omega arith)) (rw (or_zero_r a) at more)

-- ---- a row with nothing in it, and one with something

module _ (f : ℕ → Bool) where
  pub none_passes : ((s : ℕ) → T (f s) → (1 ≤ s) × (s ≤ members_most)) → each members_most (λ s. not (f s)) ≡ true → (s : ℕ) → T (f s) → ⊥
  none_passes inside e s t = let r = inside s t in T_not (f s) (each_at members_most (λ s. not (f s)) (rw e tt) s r.0 r.1) t

  pub one_passes : each members_most (λ s. not (f s)) ≡ false → Among members_most (λ s. T (f s))
  one_passes e = ⊎_elim (λ r. r) (λ none. absurd (rw e at (each_in members_most (λ s. not (f s)) none))) (find members_most f)

no_bits : (x : ℕ) → x < 2 ^ row_word_bits → ((i : ℕ) → i < row_word_bits → bit x i ≡ false) → x ≡ 0
no_bits x h f = bits-same row_word_bits x 0 h (omega arith) (λ i l. (λ t. absurd (T_not (bit x i) (rw (f i l) tt) t), λ t. absurd (no-bit i t)))

module _ (a b : ℕ) (ha : a < 2 ^ row_word_bits) (hb : b < 2 ^ row_word_bits) where
  abbrev all : Bool
  all = each members_most (λ s. not (held a b s))

  gone : T all → (s : ℕ) → 1 ≤ s → s ≤ members_most → held a b s ≡ false
  gone t s lo hi = failed (held a b s) (each_at members_most (λ s. not (held a b s)) t s lo hi)

  pub empty-low : (a ≡ 0 → ⊥) → all ≡ false
  empty-low n = failed all (not_T all (λ t. n (no_bits a ha (λ k l. sym (held-lower a b k l) ∙ gone t (k + 1) (omega arith) (omega arith)))))

  pub empty-high : a ≡ 0 → eqb b 0 ≡ all
  empty-high e =
      same_tests (eqb b 0) all (λ t. each_in members_most (λ s. not (held a b s)) (λ s lo hi. rw (e, eqb→eq b 0 t, held_none s) tt))
      (λ t. rw (no_bits b hb (λ k l. sym (held-upper a b k l) ∙ gone t (k + high_first) (omega arith) (omega arith))) tt)

-- ---- how many

pub tally-number : (n : ℕ) (p : ℕ → Bool) → tally n p ≡ number n p
unfolding tally number sum
tally-number zero p = refl
tally-number (suc n) p = omega (arith, tally-number n p)

pub sum-split : (n m : ℕ) (f : ℕ → ℕ) → sum (n + m) f ≡ sum n f + sum m (λ i. f (n + i))
unfolding sum
sum-split n zero f = rw (add-zero n) (omega arith)
sum-split n (suc m) f = rw (add-suc n m) (omega (arith, sum-split n m f))

pub held-count : (a b : ℕ) → a < 2 ^ row_word_bits → b < 2 ^ row_word_bits → ones a + ones b ≡ tally members_most (held a b)
unfolding number
held-count a b ha hb =
    let lows = sum_same row_word_bits (λ i. indicator (held a b i)) (λ i. indicator (bit a (i - 1))) (λ i lo hi. rw (held_low a b i lo hi)) in
    let highs = sum_same row_word_bits (λ i. indicator (held a b (row_word_bits + i))) (λ i. indicator (bit b (i - 1)))
    (λ i lo hi. let e : row_word_bits + i - high_first ≡ i - 1 = omega arith in rw (held_high a b (row_word_bits + i) (omega arith) (omega arith), e)) in
    cc (tally-number members_most (held a b), sum-split row_word_bits row_word_bits (λ i. indicator (held a b i)), lows, highs, ones-number row_word_bits a ha, ones-number row_word_bits b hb)
