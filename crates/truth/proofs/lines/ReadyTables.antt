-- The tables of the machine that the code makes for accepted sheets are those that a line is solved with.
use mathlib.Core.Path.{◌≡◌}
use Prim.Native.Nat.{ℕ, ◌-◌, ◌≤◌}
use native.Mathlib.Omega.{arith}
use mathlib.Core.List.{List}
use mathlib.Core.Bool.{◌&&◌}
use lib.Dec.{leb}
use Rattle.sheets.specs.Words.{within}
use Rattle.sheets.specs.Machine.{nodes, kripke, machine_refusal}
use Rattle.sheets.specs.Rules.{lent, rule_refusal}
use Rattle.sheets.proofs.AcceptedMachine.{nodes-sized}
use Rattle.truth.specs.Sizes.{members_most, table_rows}
use Rattle.truth.specs.inner.Rows.{rows_has}
use Rattle.truth.specs.inner.OneLine.{Ready}

pub ready : (M R next back : List ℕ) (n : ℕ) → n ≡ nodes M → machine_refusal M ≡ 0 → rule_refusal lent R ≡ 0
    → ((s u : ℕ) → 1 ≤ s → s ≤ nodes M → s ≤ table_rows → rows_has next (s - 1) u ≡ (within 1 members_most u && (kripke M).edge s u))
    → ((s u : ℕ) → 1 ≤ u → u ≤ n → rows_has back (u - 1) s ≡ (leb s n && (within 1 members_most s && rows_has next (s - 1) u)))
    → Ready M R next back
ready M R next back n e machine rules successors predecessors = record {
  machine = machine;
  rules = rules;
  successors = λ s u lo hi. successors s u lo hi (omega (arith, (nodes-sized M machine).1));
  predecessors = rw e at predecessors;
}
