-- The invariant of `name_states`: the places passed hold the states of their positions, and the others positions still.
use Rattle.std.proofs.Common.{◌≡◌, ℕ, ◌<◌, ◌≤◌, get_or}
use Rattle.truth.proofs.path.name_states.Given as goal

abbrev pub invariant-loop-place : goal.invariant-loop-place
invariant-loop-place l = record {
  named : (j : ℕ) → j < l.place-index → get_or l.list j 0 ≡ get_or l.states (get_or l.initial.list j 0) 0;
  left : (j : ℕ) → l.place-index ≤ j → get_or l.list j 0 ≡ get_or l.initial.list j 0;
}
