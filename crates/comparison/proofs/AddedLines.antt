-- Lines are added below a list: what the new lines refer to, and that the lines above keep their truths.
use mathlib.Core.Path.{◌≡◌, subst, ap, ◌∙◌}
use mathlib.Core.Logic.Iff
use mathlib.Core.Logic.{◌↔◌, by_cases}
use Prim.Native.Nat.{ℕ, zero, suc, ◌+◌, ◌-◌, ◌≤◌}
use native.Mathlib.Omega.{arith}
use native.Mathlib.Decide.{dec_le}
use mathlib.Core.List.{List, [], ◌∷◌, ◌++◌}
use lib.ListN.{length, get_or, length-append, get_or-append}
use lib.Seq.{get_or-append-add}
use Rattle.truth.specs.Passed.{nodes, machine_refusal}
use Rattle.comparison.specs.inner.Lines.{Entry, sig, entry, Refers, Downward}
use Rattle.comparison.specs.inner.Blocks.{TrueIn}
use Rattle.comparison.proofs.TrueLines.{says_same, true-says}

module _ (ls more : List Entry) where
  pub entry-above : (j : ℕ) → 1 ≤ j → j ≤ length ls → entry (ls ++ more) j ≡ entry ls j
  unfolding entry
  entry-above j lo hi = get_or-append ls more (sig 0) (j - 1) (omega arith)

  pub entry-added : (k : ℕ) → 1 ≤ k → entry (ls ++ more) (length ls + k) ≡ entry more k
  unfolding entry
  entry-added k lo =
      let e : length ls + k - 1 ≡ length ls + (k - 1) = omega arith in
      ap (λ (n : ℕ). get_or (ls ++ more) n (sig 0)) e ∙ get_or-append-add ls more (k - 1) (sig 0)

  pub down-added : (a : ℕ) → Downward a ls → ((k : ℕ) → 1 ≤ k → k ≤ length more → Refers a (length ls + k) (entry more k)) → Downward a (ls ++ more)
  down-added a down new = record { few = down.few; refers = refers }
    where
      refers : (j : ℕ) → 1 ≤ j → j ≤ length (ls ++ more) → Refers a j (entry (ls ++ more) j)
      refers j lo hi =
          by_cases (dec_le j (length ls))
          (λ h. rw (entry-above j lo h) (down.refers j lo h))
          (λ h.
          let e : length ls + (j - length ls) ≡ j = omega arith in
          let k : 1 ≤ j - length ls = omega arith in
          let r : Refers a (length ls + (j - length ls)) (entry (ls ++ more) (length ls + (j - length ls))) =
          rw (entry-added (j - length ls) k) (new (j - length ls) k (omega (arith, length-append ls more))) in
          subst (λ (i : ℕ). Refers a i (entry (ls ++ more) i)) e r)

  -- the lines above keep their truths
  module _ (M : List ℕ) (ok : machine_refusal M ≡ 0) (a : ℕ) (down : Downward a ls) (down' : Downward a (ls ++ more)) where
    kept : (f j : ℕ) → j ≤ f → 1 ≤ j → j ≤ length ls → (s : ℕ) → 1 ≤ s → s ≤ nodes M
        → TrueIn M ls j s ↔ TrueIn M (ls ++ more) j s
    kept zero j l lo hi s low high = absurd (omega arith)
    kept (suc f) j l lo hi s low high =
        Iff.trans (true-says M ok a ls down j lo hi s low high)
        (Iff.trans (says_same M ok a j (TrueIn M ls) (TrueIn M (ls ++ more))
        (λ i l' k'. kept f i (omega arith) l' (omega arith)) (entry ls j) (down.refers j lo hi) s low high)
        (Iff.symm (rw (entry-above j lo hi) at (true-says M ok a (ls ++ more) down' j lo (omega (arith, length-append ls more)) s low high))))

    pub true-kept : (j : ℕ) → 1 ≤ j → j ≤ length ls → (s : ℕ) → 1 ≤ s → s ≤ nodes M
        → TrueIn M ls j s ↔ TrueIn M (ls ++ more) j s
    true-kept j = kept j j (omega arith)

-- one line more
pub entry-one : (ls : List Entry) (l : Entry) → entry (ls ++ l ∷ []) (length ls + 1) ≡ l
unfolding entry
entry-one ls l = entry-added ls (l ∷ []) 1 (omega arith)

pub down-one : (a : ℕ) (ls : List Entry) (l : Entry) → Downward a ls → Refers a (length ls + 1) l → Downward a (ls ++ l ∷ [])
unfolding entry
down-one a ls l down r = down-added ls (l ∷ []) a down new
  where
    new : (k : ℕ) → 1 ≤ k → k ≤ 1 → Refers a (length ls + k) (entry (l ∷ []) k)
    new zero lo hi = absurd (omega arith)
    new (suc zero) lo hi = r
    new (suc (suc k)) lo hi = absurd (omega arith)
