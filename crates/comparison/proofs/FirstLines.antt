-- The first lines that comparison writes: the signals, and the line that is true everywhere; and the refinement of one block.
use mathlib.Core.Path.{◌≡◌, refl, sym, subst, ap, ◌∙◌}
use mathlib.Core.Logic.{inl, by_cases}
use Prim.Native.Nat.{ℕ, zero, suc, ◌+◌, ◌≤◌}
use native.Mathlib.Omega.{arith}
use native.Mathlib.Decide.{dec_le}
use mathlib.Core.List.{List, [], ◌∷◌, ◌++◌}
use mathlib.Core.Bool.{Bool, true, not, ◌||◌, or-not_self}
use lib.ListN.{length, length-append}
use lib.Dec.{T}
use Rattle.truth.specs.Passed.{kripke, nodes, machine_refusal, signals_most}
use Rattle.truth.proofs.Passed.{nodes-sized}
use Rattle.comparison.specs.inner.Lines.{Entry, sig, entry, Refers, Downward, signal_lines, everywhere, first_lines}
use Rattle.comparison.specs.inner.Blocks.{Exact, Members, Covers, Disjoint, Inhabited}
use Rattle.comparison.specs.inner.Refinement.{Refined, Refinement, LinesIn}
use Rattle.comparison.proofs.AddedLines.{entry-above, entry-added, down-added}
use Rattle.comparison.proofs.ExactLines.{exact-as, exact-sig, exact-neg, exact-alt, exact-kept}

pub signal-length : (a : ℕ) → length (signal_lines a) ≡ a
unfolding signal_lines
signal-length zero = refl
signal-length (suc i) = omega (arith, signal-length i, length-append (signal_lines i) (sig (suc i) ∷ []))

pub signal-entry : (a i : ℕ) → 1 ≤ i → i ≤ a → entry (signal_lines a) i ≡ sig i
unfolding signal_lines entry
signal-entry zero i lo hi = absurd (omega arith)
signal-entry (suc a) i lo hi =
    by_cases (dec_le i a)
    (λ h. entry-above (signal_lines a) (sig (suc a) ∷ []) i lo (omega (arith, signal-length a)) ∙ signal-entry a i lo h)
    (λ h.
    let e : i ≡ length (signal_lines a) + 1 = omega (arith, signal-length a) in
    let q : suc a ≡ i = omega arith in
    ap (entry (signal_lines a ++ sig (suc a) ∷ [])) e ∙ entry-added (signal_lines a) (sig (suc a) ∷ []) 1 (omega arith) ∙ ap sig q)

pub signal-down : (a : ℕ) → a ≤ signals_most → Downward a (signal_lines a)
unfolding Refers
signal-down a few = record {
  few = few;
  refers = λ j lo hi. subst (Refers a j) (sym (signal-entry a j lo (omega (arith, signal-length a)))) (lo, omega (arith, signal-length a));
}

pub exact-signal : (M : List ℕ) → machine_refusal M ≡ 0 → (a : ℕ) → a ≤ signals_most → (i : ℕ) → 1 ≤ i → i ≤ a → Exact M (signal_lines a) i ((kripke M).signal i)
exact-signal M ok a few i lo hi =
    exact-sig M ok a (signal_lines a) (signal-down a few) i lo (omega (arith, signal-length a)) i (signal-entry a i lo hi)

module _ (a : ℕ) (ls : List Entry) (down : Downward a ls) (p : ℕ) (lp : 1 ≤ p) (hp : p ≤ length ls) where
  pub everywhere-down : Downward a (ls ++ everywhere (length ls) p)
  unfolding everywhere Refers entry
  everywhere-down = down-added ls (everywhere (length ls) p) a down new
    where
      new : (k : ℕ) → 1 ≤ k → k ≤ 2 → Refers a (length ls + k) (entry (everywhere (length ls) p) k)
      new zero l h = absurd (omega arith)
      new (suc zero) l h = (lp, omega arith)
      new (suc (suc zero)) l h = ((lp, omega arith), (omega arith, omega arith))
      new (suc (suc (suc k))) l h = absurd (omega arith)

  pub everywhere-length : length (ls ++ everywhere (length ls) p) ≡ length ls + 2
  unfolding everywhere
  everywhere-length = length-append ls (everywhere (length ls) p)

  pub exact-everywhere : (M : List ℕ) → machine_refusal M ≡ 0 → (x : ℕ → Bool) → Exact M ls p x
      → Exact M (ls ++ everywhere (length ls) p) (length ls + 2) (λ s. true)
  unfolding everywhere entry
  exact-everywhere M ok x e =
      let new = ls ++ everywhere (length ls) p in
      let size = everywhere-length in
      let e' = exact-kept M ok a ls (everywhere (length ls) p) down everywhere-down p lp hp x e in
      exact-as M new (length ls + 2) (λ s. x s || not (x s)) (λ s. true) (λ s lo hi. or-not_self (x s))
      (exact-alt M ok a new everywhere-down (length ls + 2) (omega arith) (omega arith) p (length ls + 1) x (λ s. not (x s))
      (entry-added ls (everywhere (length ls) p) 2 (omega arith)) e'
      (exact-neg M ok a new everywhere-down (length ls + 1) (omega arith) (omega arith) p x
      (entry-added ls (everywhere (length ls) p) 1 (omega arith)) e'))

-- one block, of all the nodes, with a line that is true everywhere
one-refined : (M : List ℕ) (ls : List Entry) (line : ℕ → ℕ) (mem : Members) → ((s : ℕ) → 1 ≤ s → s ≤ nodes M → mem 0 s ≡ true) → Exact M ls (line 0) (λ s. true)
    → Refined M ls 1 line mem
unfolding Covers Disjoint
one-refined M ls line mem all x = record {
  covers = λ s lo hi. (0, omega arith, subst T (sym (all s lo hi)) tt);
  once = λ c d s h l i k. omega arith;
  exact = λ c h.
      let e : 0 ≡ c = omega arith in
      subst (λ (d : ℕ). Exact M ls (line d) (mem d)) e (exact-as M ls (line 0) (λ s. true) (mem 0) (λ s lo hi. sym (all s lo hi)) x);
}

-- ---- the refinement to begin with

pub first-length : (a : ℕ) → 1 ≤ a → a ≤ signals_most → length (first_lines a) ≡ a + 2
unfolding first_lines
first-length a some few =
    let n = signal-length a in
    everywhere-length a (signal_lines a) (signal-down a few) 1 (omega arith) (omega arith) ∙ ap (λ (k : ℕ). k + 2) n

pub first_entry : (a i : ℕ) → 1 ≤ i → i ≤ a → entry (first_lines a) i ≡ sig i
unfolding first_lines
first_entry a i lo hi =
    entry-above (signal_lines a) (everywhere (length (signal_lines a)) 1) i lo (omega (arith, signal-length a)) ∙ signal-entry a i lo hi

true-line : (a : ℕ) → 1 ≤ a → a ≤ signals_most → (M : List ℕ) → machine_refusal M ≡ 0 → Exact M (first_lines a) (a + 2) (λ s. true)
unfolding first_lines
true-line a some few M ok =
    let n = signal-length a in
    subst (λ (k : ℕ). Exact M (first_lines a) (k + 2) (λ s. true)) n
    (exact-everywhere a (signal_lines a) (signal-down a few) 1 (omega arith) (omega arith) M ok ((kripke M).signal 1)
    (exact-signal M ok a few 1 (omega arith) some))

pub begins : (a : ℕ) → 1 ≤ a → a ≤ signals_most → (M₁ M₂ : List ℕ) → machine_refusal M₁ ≡ 0 → machine_refusal M₂ ≡ 0 → (line : ℕ → ℕ) → line 0 ≡ a + 2
    → (m₁ m₂ : Members) → ((s : ℕ) → 1 ≤ s → s ≤ nodes M₁ → m₁ 0 s ≡ true) → ((t : ℕ) → 1 ≤ t → t ≤ nodes M₂ → m₂ 0 t ≡ true)
    → Refinement a M₁ M₂ (first_lines a) 1 line m₁ m₂
unfolding LinesIn Inhabited first_lines
begins a some few M₁ M₂ ok₁ ok₂ line e m₁ m₂ all₁ all₂ =
    let n = signal-length a in
    let size = first-length a some few in
    record {
      down = everywhere-down a (signal_lines a) (signal-down a few) 1 (omega arith) (omega arith);
      lines = λ c h. let q : line c ≡ line 0 = ap line (omega arith) in (omega arith, omega arith);
      first = one-refined M₁ (first_lines a) line m₁ all₁ (rw e (true-line a some few M₁ ok₁));
      second = one-refined M₂ (first_lines a) line m₂ all₂ (rw e (true-line a some few M₂ ok₂));
      inhabited = λ c h.
          let q : 0 ≡ c = omega arith in
          inl (1, (omega arith, (nodes-sized M₁ ok₁).0, subst (λ (d : ℕ). T (m₁ d 1)) q (subst T (sym (all₁ 1 (omega arith) (nodes-sized M₁ ok₁).0)) tt)));
    }
