-- In a finite structure where each node has a valuation it is decided whether a sound automaton accepts on some path, or its exchange does.
use mathlib.Core.Path.{refl}
use mathlib.Core.Logic.Dec
use mathlib.Core.Logic.Iff
use Prim.Native.Nat.{ℕ}
use native.Mathlib.Decide.{dec_le}
use mathlib.Core.Bool.{Bool}
use lib.Dec.{T}
use Rattle.sheets.specs.Structures.{Kripke, Automaton}
use Rattle.sheets.specs.Sound.{OneTo, MoveUnder, Sound}
use Rattle.sheets.proofs.Tests.{dec-test}
use Rattle.sheets.proofs.Search.{chosen}
use Rattle.truth.specs.Truth.{Truths, Valuation, SomePath}
use Rattle.truth.specs.inner.Product.{good}
use Rattle.truth.proofs.Valuations.{valuation-same}
use Rattle.truth.proofs.EndlessPaths.{Arena}
use Rattle.truth.proofs.FairPairs.{fair, fair-sound, fair-complete}
use Rattle.truth.proofs.LinePaths.{Beside, start-in, path-endless, separate}

-- of nodes 1 to N: no edge leads out of them, and each has a valuation
pub record Finite (K : Kripke) (N v : ℕ) (above : Truths) (arg : ℕ → ℕ) : Type 0 where
  pub stays : (s s' : ℕ) → OneTo N s → T (K.edge s s') → OneTo N s'
  pub value : (s : ℕ) → OneTo N s → (w : ℕ) × Valuation above v arg s w

-- the arena that goes by the valuation at each node says where a path exists
module _ {K : Kripke} {A : Automaton} {N n : ℕ} {above : Truths} {arg : ℕ → ℕ} (sound : Sound A n) (fin : Finite K N A.variables above arg)
    (exchanged : Bool) where
  pub path-decided : (s : ℕ) → OneTo N s → Dec (SomePath K A above arg (good exchanged A) s)
  path-decided s on =
      let h = start-in beside s on.0 on.1 in
      Dec.of_iff
      (Iff.trans (fair-sound B A.initial s h, fair-complete B (MoveUnder A n) (separate beside) A.initial s h) (path-endless beside s on.0 on.1))
      (dec-test (fair B A.initial s))
    where
      v : (g : ℕ → ℕ) × ((s : ℕ) → OneTo N s → Valuation above A.variables arg s (g s))
      v = chosen (OneTo N) (λ s. Dec.and (dec_le 1 s) (dec_le s N)) (Valuation above A.variables arg) fin.value

      B : Arena
      B = record { nodes = N; states = n; edge = K.edge; allow = λ q q' s. A.goes q (v.0 s) q'; good = good exchanged A }

      beside : Beside K A above arg exchanged B
      beside = record {
        sound = sound;
        stays = λ s s' lo hi. fin.stays s s' (lo, hi);
        edges = λ s s' lo hi. Iff.rfl;
        value = λ s lo hi. (v.0 s, v.1 s (lo, hi));
        allows = λ q s q' w h to u. rw (valuation-same above A.variables arg s w (v.0 s) u (v.1 s (h.node-from, h.node-to))) Iff.rfl;
        goods = λ q. refl;
      }
