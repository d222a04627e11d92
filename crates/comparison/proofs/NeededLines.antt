-- Needed lines written one below the other, with their references renumbered.
use mathlib.Core.Path.{◌≡◌, refl, sym, subst, ap, ◌∙◌}
use mathlib.Core.Logic.Iff
use mathlib.Core.Logic.{◌⊎◌, inl, inr, ◌↔◌, by_cases}
use Prim.Native.Nat.{ℕ, zero, suc, ◌+◌, ◌≤◌, ◌<◌}
use native.Mathlib.Omega.{arith}
use native.Mathlib.Decide.{dec_le, ℕ_discrete}
use mathlib.Core.List.{List, [], ◌∷◌, ◌++◌}
use mathlib.Core.Bool.{Bool, false}
use lib.ListN.{length, get_or, set, length-append}
use lib.Seq.{get_or-set_same, get_or-set_other}
use Rattle.comparison.specs.inner.Sizes.{written_space, written_most, line_places}
use Rattle.truth.specs.Passed.{nodes, machine_refusal, signals_most}
use Rattle.comparison.specs.inner.Lines.{Entry, entry, Downward, Adds}
use Rattle.comparison.specs.inner.Blocks.{TrueIn}
use Rattle.comparison.specs.inner.Needed.{renumber, EachLine, SomeLine, Same, AllStand, IsMarked, Wanted, Closed, Copied, Needs, itself, through, ShortLines}
use Rattle.comparison.proofs.TrueLines.{true-says}
use Rattle.comparison.proofs.AddedLines.{entry-above, entry-one, down-one, true-kept}
use Rattle.comparison.proofs.HeldLines.{holds-none}
use Rattle.comparison.proofs.EachLine.{each-also, some-each, some-renumbered, each-above, refers-renumbered, says-renumbered}
use Rattle.comparison.proofs.SameTruths.{same_then}

-- ---- copies

pub copied_none : (a : ℕ) (ls : List Entry) (same : List ℕ) (needed : List Bool) (number out : List ℕ) → a ≤ signals_most → length out ≡ written_space → Copied a ls same needed 0 number out 0
copied_none a ls same needed number out few size = record {
  lines = [];
  count = refl;
  holds = holds-none out size;
  down = record { few = few; refers = λ j lo hi. absurd (omega arith) };
  low = λ k lo hi. absurd (omega arith);
  high = λ k lo hi. absurd (omega arith);
  true = λ k lo hi. absurd (omega arith);
  last = λ h. absurd (omega arith);
  whence = λ n lo hi. absurd (omega arith);
  refers = λ m lo hi. absurd (omega arith);
}

module _ (a : ℕ) (ls : List Entry) (down : Downward a ls) (same : List ℕ) (needed : List Bool) (stands : AllStand ls (length ls) same) (i : ℕ) (inside : i + 1 ≤ length ls) (small : i < written_most)
    (number out : List ℕ) (c : ℕ) (size : length number ≡ line_places) (x : Copied a ls same needed i number out c) where
  -- a line that is not needed
  pub copied-skipped : get_or needed (i + 1) false ≡ false → Copied a ls same needed (i + 1) number out c
  copied-skipped z = record {
    lines = x.lines;
    count = x.count;
    holds = x.holds;
    down = x.down;
    low = λ k lo hi m. x.low k lo (earlier k hi m) m;
    high = λ k lo hi m. x.high k lo (earlier k hi m) m;
    true = λ k lo hi m. x.true k lo (earlier k hi m) m;
    last = λ lo m. cc;
    whence = λ n lo hi. let w = x.whence n lo hi in let b = w.2 in (w.0, w.1, omega arith, w.3, w.4);
    refers = λ m lo hi need. x.refers m lo (earlier m hi need) need;
  }
    where
      earlier : (k : ℕ) → k ≤ i + 1 → IsMarked needed k → k ≤ i
      earlier k hi m = by_cases (ℕ_discrete k (i + 1)) (λ q. cc) (λ q. omega arith)

  -- a needed one
  module _ (need : IsMarked needed (i + 1)) (refs : EachLine (λ r. IsMarked needed (get_or same r 0)) (entry ls (i + 1))) where
    g : ℕ → ℕ
    g r = get_or number (get_or same r 0) 0

    up : EachLine (λ r. (1 ≤ r) × (r < i + 1)) (entry ls (i + 1))
    up = each-above a (i + 1) (entry ls (i + 1)) (down.refers (i + 1) (omega arith) inside)

    new : Entry
    new = renumber g (entry ls (i + 1))

    lines' : List Entry
    lines' = x.lines ++ new ∷ []

    down' : Downward a lines'
    unfolding g new lines'
    down' =
        let n = x.count in
        down-one a x.lines new x.down
        (refers-renumbered a (i + 1) (length x.lines + 1) g (entry ls (i + 1)) (down.refers (i + 1) (omega arith) inside)
        (each-also (λ r. (1 ≤ r) × (r < i + 1)) (λ r. IsMarked needed (get_or same r 0)) (λ r. (1 ≤ g r) × (g r < length x.lines + 1))
        (λ r p q.
        let st = stands r p.0 (omega arith) in
        let lo = st.low in
        let b = st.high in
        let hi : get_or same r 0 ≤ i = omega arith in
        let top = x.high (get_or same r 0) lo hi q in
        (x.low (get_or same r 0) lo hi q, omega arith))
        (entry ls (i + 1)) up refs))

    -- the lines above are as they were
    still : (j k : ℕ) → 1 ≤ k → k ≤ c → Same ls j x.lines k → Same ls j lines' k
    unfolding Same lines'
    still j k l h y M ok s lo hi =
        let n = x.count in
        Iff.trans (y M ok s lo hi) (true-kept x.lines (new ∷ []) M ok a x.down down' k l (omega arith) s lo hi)

    agree : (M : List ℕ) → machine_refusal M ≡ 0 → EachLine (λ r. (u : ℕ) → 1 ≤ u → u ≤ nodes M → TrueIn M ls r u ↔ TrueIn M lines' (g r) u) (entry ls (i + 1))
    unfolding Same g
    agree M ok =
        each-also (λ r. (1 ≤ r) × (r < i + 1)) (λ r. IsMarked needed (get_or same r 0)) (λ r. (u : ℕ) → 1 ≤ u → u ≤ nodes M → TrueIn M ls r u ↔ TrueIn M lines' (g r) u)
        (λ r p q.
        let st = stands r p.0 (omega arith) in
        let lo = st.low in
        let b = st.high in
        let k = get_or same r 0 in
        let hi : get_or same r 0 ≤ i = omega arith in
        still r (g r) (x.low k lo hi q) (x.high k lo hi q) (same_then ls ls x.lines r k (g r) st.true (x.true k lo hi q)) M ok)
        (entry ls (i + 1)) up refs

    same_here : Same ls (i + 1) lines' (length x.lines + 1)
    unfolding Same new lines'
    same_here M ok s lo hi =
        Iff.trans (true-says M ok a ls down (i + 1) (omega arith) inside s lo hi)
        (Iff.trans (says-renumbered M ok g (TrueIn M ls) (TrueIn M lines') (entry ls (i + 1)) (agree M ok) s lo hi)
        (Iff.symm (rw (entry-one x.lines new) at (true-says M ok a lines' down' (length x.lines + 1) (omega arith) (omega (arith, length-append x.lines (new ∷ []))) s lo hi))))

    pub copied-line : (out' : List ℕ) → Adds out out' c (renumber (λ r. get_or number (get_or same r 0) 0) (entry ls (i + 1)) ∷ [])
        → Copied a ls same needed (i + 1) (set number (i + 1) (c + 1)) out' (c + 1)
    unfolding g new lines'
    copied-line out' adds =
        let n = x.count in
        record {
          lines = lines';
          count = omega (arith, length-append x.lines (new ∷ []));
          holds = adds.adds x.lines n x.holds;
          down = down';
          low = λ k lo hi m. by_cases (dec_le k i) (λ h. rw (other k h) (x.low k lo h m)) (λ h. let v : 1 ≤ c + 1 = omega arith in rw (here k (omega arith)) v);
          high = λ k lo hi m. by_cases (dec_le k i) (λ h. let v = x.high k lo h m in let w : get_or number k 0 ≤ c + 1 = omega arith in rw (other k h) w) (λ h. let v : c + 1 ≤ c + 1 = omega arith in rw (here k (omega arith)) v);
          true = λ k lo hi m. by_cases (dec_le k i) (λ h. rw (other k h) (still k (get_or number k 0) (x.low k lo h m) (x.high k lo h m) (x.true k lo h m)))
              (λ h. rw (here k (omega arith)) (newest k (omega arith)));
          last = λ lo m. here (i + 1) refl;
          whence = λ n lo hi. by_cases (dec_le n c)
              (λ h. let w = x.whence n lo h in let b = w.2 in (w.0, w.1, omega arith, w.3, other w.0 w.2 ∙ w.4))
              (λ h. let e : c + 1 ≡ n = omega arith in (i + 1, omega arith, omega arith, need, here (i + 1) refl ∙ e));
          refers = λ m lo hi marked k w. by_cases (dec_le m i)
              (λ h. let b = above m lo (omega arith) k w in rw (other m h, other k (omega arith)) (kept-refers m lo h marked k w))
              (λ h. let b = above m lo (omega arith) k w in rw (here m (omega arith), other k (omega arith)) (new-refers m (omega arith) k w));
        }
      where
        other : (k : ℕ) → k ≤ i → get_or (set number (i + 1) (c + 1)) k 0 ≡ get_or number k 0
        other k h = get_or-set_other number (i + 1) k (c + 1) 0 (λ e. omega arith)

        here : (k : ℕ) → k ≡ i + 1 → get_or (set number (i + 1) (c + 1)) k 0 ≡ c + 1
        here k e = ap (λ (n : ℕ). get_or (set number (i + 1) (c + 1)) n 0) e ∙ get_or-set_same number (i + 1) (c + 1) 0 (omega arith)

        -- what a line refers to stands above it
        above : (m : ℕ) → 1 ≤ m → m ≤ i + 1 → (k : ℕ) → SomeLine (λ r. get_or same r 0 ≡ k) (entry ls m) → k < m
        above m lo hi k w =
            some-each (λ r. (1 ≤ r) × (r < m)) (λ r. get_or same r 0 ≡ k) (λ r p q. let b = (stands r p.0 (omega arith)).high in omega arith) (entry ls m)
            (each-above a m (entry ls m) (down.refers m lo (omega arith))) w

        kept-refers : (m : ℕ) → 1 ≤ m → m ≤ i → IsMarked needed m → (k : ℕ) → SomeLine (λ r. get_or same r 0 ≡ k) (entry ls m)
            → SomeLine (λ r. r ≡ get_or number k 0) (entry lines' (get_or number m 0))
        kept-refers m lo hi marked k w =
            let b = x.high m lo hi marked in
            let n = x.count in
            rw (entry-above x.lines (new ∷ []) (get_or number m 0) (x.low m lo hi marked) (omega arith)) (x.refers m lo hi marked k w)

        new-refers : (m : ℕ) → m ≡ i + 1 → (k : ℕ) → SomeLine (λ r. get_or same r 0 ≡ k) (entry ls m) → SomeLine (λ r. r ≡ get_or number k 0) (entry lines' (c + 1))
        new-refers m e k w =
            let w' : SomeLine (λ r. get_or same r 0 ≡ k) (entry ls (i + 1)) = subst (λ (n : ℕ). SomeLine (λ r. get_or same r 0 ≡ k) (entry ls n)) e w in
            let v = some-renumbered g (λ r. get_or same r 0 ≡ k) (λ r. r ≡ get_or number k 0) (λ r q. ap (λ (n : ℕ). get_or number n 0) q) (entry ls (i + 1)) w' in
            subst (λ (n : ℕ). SomeLine (λ r. r ≡ get_or number k 0) (entry lines' (n + 1))) x.count (rw (entry-one x.lines new) v)

        newest : (k : ℕ) → k ≡ i + 1 → Same ls k lines' (c + 1)
        newest k e = subst (λ (n : ℕ). Same ls k lines' (n + 1)) x.count (subst (λ (n : ℕ). Same ls n lines' (length x.lines + 1)) (sym e) same_here)

-- a line below line k refers to it
record Used (ls : List Entry) (k : ℕ) : Type 0 where
  by : ℕ
  below : k < by
  inside : by ≤ length ls
  refers : SomeLine (λ r. r ≡ k) (entry ls by)

-- where every line above the last one is used, the last one needs them all
all-needed : (ls : List Entry) → ((k : ℕ) → 1 ≤ k → k < length ls → Used ls k) → (f k : ℕ) → length ls ≤ k + f → 1 ≤ k → k ≤ length ls → Needs ls k
all-needed ls used zero k h lo hi = let e : length ls ≡ k = omega arith in subst (λ (n : ℕ). Needs ls n) e itself
all-needed ls used (suc f) k h lo hi =
    by_cases (ℕ_discrete (length ls) k) (λ e. subst (λ (n : ℕ). Needs ls n) e itself)
    (λ n.
    let u = used k lo (omega arith) in
    let b = u.below in
    through k u.by u.refers (all-needed ls used f u.by (omega arith) (omega arith) u.inside))

-- line n of the copies is used, if line k, of which it is the copy, is needed by another
used : (a : ℕ) (ls : List Entry) (same : List ℕ) (needed : List Bool) (number out : List ℕ) (j c : ℕ) (x : Copied a ls same needed j number out c) (k n : ℕ) → get_or number k 0 ≡ n → Wanted ls same j needed k → Used x.lines n
used a ls same needed number out j c x k n e w =
    let m = get_or number w.by 0 in
    let low = x.low w.by w.low w.high w.marked in
    let high = x.high w.by w.low w.high w.marked in
    let count = x.count in
    let refers : SomeLine (λ r. r ≡ n) (entry x.lines m) = rw e at (x.refers w.by w.low w.high w.marked k w.refers) in
    record {
      by = m;
      below = some-each (λ r. (1 ≤ r) × (r < m)) (λ r. r ≡ n) (λ r p q. omega arith) (entry x.lines m) (each-above a m (entry x.lines m) (x.down.refers m low (omega arith))) refers;
      inside = omega arith;
      refers = refers;
    }

-- the lines that the last line needs
pub shortened : (a : ℕ) (ls : List Entry) (same : List ℕ) (needed : List Bool) (number out : List ℕ) (j c : ℕ) → 1 ≤ length ls → AllStand ls (length ls) same → j ≡ get_or same (length ls) 0
    → Closed ls same 0 j needed → c ≤ j → Copied a ls same needed j number out c → ShortLines a ls out c
shortened a ls same needed number out j c some stands e closed few x =
    let st = stands (length ls) some (omega arith) in
    let l : 1 ≤ j = rw e st.low in
    let h : j ≤ length ls = rw e st.high in
    let need = closed.last in
    let low = x.low j l (omega arith) need in
    let last = x.last l need in
    let n = x.count in
    record {
      short = x.lines;
      shortened = record {
        down = x.down;
        some = omega arith;
        few = omega arith;
        same = rw (n, ← last) (same_then ls ls x.lines (length ls) j (get_or number j 0) (rw e st.true) (x.true j l (omega arith) need));
        needed = λ k. all-needed x.lines every (length x.lines) k (omega arith);
      };
      holds = x.holds;
      count = n;
    }
  where
    by-need : (n : ℕ) → n < length x.lines → (k : ℕ) → get_or number k 0 ≡ n → (k ≡ j) ⊎ Wanted ls same j needed k → Used x.lines n
    by-need n hi k q (inl z) =
        let st = stands (length ls) some (omega arith) in
        let l : 1 ≤ j = rw e st.low in
        let last = x.last l closed.last in
        let count = x.count in
        absurd (omega (arith, ap (λ (i : ℕ). get_or number i 0) z))
    by-need n hi k q (inr w) = used a ls same needed number out j c x k n q w

    every : (k : ℕ) → 1 ≤ k → k < length x.lines → Used x.lines k
    every k lo hi =
        let count = x.count in
        let w = x.whence k lo (omega arith) in
        by-need k hi w.0 w.4 (closed.only w.0 w.3)
