-- `q18` meets its contract: its three tests in the order in which the code makes them.
use borrow.Author.Rules.{rules}
use mathlib.Core.Path.{◌≡◌, refl, ◌∙◌}
use Prim.Native.Nat.{ℕ}
use mathlib.Core.List.{List}
use mathlib.Core.Bool.{Bool, true, false}
use Rattle.sheets.specs.Format.{operation_place}
use Rattle.sheets.specs.Operations.{some_path_operation, some_path_not_operation}
use Rattle.sheets.specs.OperationNumbers.{number_of, Reads}
use Rattle.sheets.specs.Words.{within}
use Rattle.sheets.specs.declared.operation.Operation.{Operation}
use Rattle.sheets.specs.declared.operation.NoOperation.{NoOperation}
use Rattle.std.specs.Prelude.{Result, Ok, Err, MatchResult}
use Rattle.sheets.specs.Machine.{nodes}
use Rattle.sheets.specs.Rules.{lent, lines, line_word}
use Rattle.sheets.proofs.OperationNumbers.{none-path}
use Rattle.truth.specs.Path.{asked, q18}
use Rattle.truth.proofs.path.Call.q18.Goals as goal

-- whether the operation that is read is that of a path line; where none is read, it is not
path-read : (n : ℕ) (r : Result Operation NoOperation) (d : Bool) (Tested : Operation → Type 0) → Reads n r → MatchResult r Tested (λ e. d ≡ false)
    → ((o : Operation) → Tested o → d ≡ within some_path_operation some_path_not_operation (number_of o))
    → d ≡ within some_path_operation some_path_not_operation n
path-read n (Ok o) d Tested reads test says = rw (← reads) (says o test)
path-read n (Err e) d Tested reads test says = test ∙ none-path n reads.1

module _ (M R : List ℕ) (j s k l n : ℕ) (a b d : Bool) (ek : k ≡ asked R j) (el : l ≡ lines R) (ea : a ≡ within 1 l k) where
  no_line : a ≡ false → false ≡ q18 M R j s
  unfolding q18
  no_line x = rw (← ek, ← el, ← ea, x) refl

  module _ (x : a ≡ true) (en : n ≡ nodes M) (eb : b ≡ within 1 n s) where
    no_node : b ≡ false → false ≡ q18 M R j s
    unfolding q18
    no_node y = rw (← ek, ← el, ← ea, x, ← en, ← eb, y) refl

    last-test : b ≡ true → d ≡ within some_path_operation some_path_not_operation (line_word lent R k operation_place) → d ≡ q18 M R j s
    unfolding q18
    last-test y ed = rw (← ek, ← el, ← ea, x, ← en, ← eb, y, ← ed) refl

pub returns-then-not-within : goal.returns-then-not-within
returns-then-not-within c =
    let k = c.asked-j in
    let l = c.lines in
    no_line _ _ _ _ _ _ 0 _ true true k.ensures l.ensures c.within.ensures c.if-not-within.true

pub returns-then-not-within-2 : goal.returns-then-not-within-2
returns-then-not-within-2 c =
    no_node _ _ _ _ _ _ _ _ _ true c.asked-j.ensures c.lines.ensures c.within.ensures
    c.if-not-within.false c.nodes.ensures c.within-2.ensures c.if-not-within-2.true

pub returns : goal.returns
returns c =
    last-test _ _ _ _ _ _ _ _ _ _ c.asked-j.ensures c.lines.ensures c.within.ensures
    c.if-not-within.false c.nodes.ensures c.within-2.ensures c.if-not-within-2.false
    (path-read _ c.read_operation.result c.is_ok_and.result _ c.read_operation.ensures c.is_ok_and.ensures (λ o h. search rules))
