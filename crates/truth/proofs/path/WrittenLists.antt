-- A list whose first words are written over by those of another: its length, one word more, and the word at an index.
use mathlib.Core.Path.{◌≡◌, refl, sym, ap, ◌∙◌}
use Prim.Native.Nat.{ℕ, suc, ◌+◌, ◌-◌, ◌≤◌, ◌<◌}
use native.Mathlib.Numerals.{add-one}
use native.Mathlib.Omega.{arith}
use mathlib.Core.List.{List, ◌++◌}
use lib.ListN.{length, set, take, drop, get_or, length-append, length-take, length-drop, get_or-append}
use lib.Seq.{length-take-le, take-suc, drop-cons, append_snoc, set_at, get_or-append-add, get_or-take, get_or-drop}

module _ (from before : List ℕ) (k : ℕ) (long : k ≤ length from) (fits : k ≤ length before) where
  pub written-length : length (take k from ++ drop k before) ≡ length before
  written-length = simp (length-append, length-take, length-drop) (omega arith)

  pub written-here : (i : ℕ) → i < k → get_or (take k from ++ drop k before) i 0 ≡ get_or from i 0
  written-here i h = get_or-append (take k from) (drop k before) 0 i (simp length-take (omega arith)) ∙ get_or-take k from i 0 h

  pub written-rest : (i : ℕ) → k ≤ i → get_or (take k from ++ drop k before) i 0 ≡ get_or before i 0
  written-rest i h =
      let l : length (take k from) ≡ k = length-take-le k from long in
      let e : i ≡ length (take k from) + (i - k) = omega arith in
      ap (λ (n : ℕ). get_or (take k from ++ drop k before) n 0) e ∙ get_or-append-add (take k from) (drop k before) (i - k) 0
      ∙ get_or-drop k before (i - k) 0
      ∙ ap (λ (n : ℕ). get_or before n 0) (omega arith)

pub written_next : (from before now : List ℕ) (i : ℕ) → i < length from → i < length before → now ≡ take i from ++ drop i before
    → set now i (get_or from i 0) ≡ take (i + 1) from ++ drop (i + 1) before
written_next from before now i long fits e =
    ap (λ (l : List ℕ). set l i (get_or from i 0)) (e ∙ ap (λ (l : List ℕ). take i from ++ l) (drop-cons before i 0 fits))
    ∙ set_at (take i from) (get_or before i 0) (drop (suc i) before) (get_or from i 0) i (length-take-le i from (omega arith))
    ∙ sym (append_snoc (take i from) (get_or from i 0) (drop (suc i) before))
    ∙ rw (add-one, take-suc from i 0) refl
