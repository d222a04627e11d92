-- What a path call makes: refused by the first "no" of its table; or what is said of the asked line by the rows of the lines above it,
-- which say their truths.
use mathlib.Core.Path.{◌≡◌, refl, sym, ap, subst}
use mathlib.Core.Logic.{◌↔◌}
use Prim.Native.Nat.{ℕ, ◌-◌, ◌*◌, ◌≤◌, ◌<◌}
use native.Mathlib.Omega.{arith}
use mathlib.Core.List.{List}
use mathlib.Core.Bool.{Bool, ◌&&◌}
use lib.ListN.{length}
use lib.Dec.{T, leb, leb→le, eqb}
use Rattle.sheets.specs.Format.{variables_most, lines_most, operation_place, operand_place}
use Rattle.sheets.specs.Operations.{some_path_operation, some_path_not_operation}
use Rattle.sheets.specs.Words.{within}
use Rattle.std.specs.Prelude.{Some, None, Result, Ok, Err}
use Rattle.sheets.specs.Questions as Questions
use Rattle.sheets.specs.Questions.{none as no_refusal, Question, first_no}
use Rattle.sheets.specs.Refusals.{refusal_of}
use Rattle.sheets.specs.declared.refusal.Refusal.{Refusal}
use Rattle.sheets.specs.Machine.{nodes, machine_refusal}
use Rattle.sheets.specs.Rules.{lent, fits, lines, line_word, automata, automaton, q7, rule_refusal}
use Rattle.sheets.specs.inner.Lines.{path_line}
use Rattle.sheets.specs.declared.lines.PathLine.{PathLine}
use Rattle.sheets.specs.Positioned.{state_count}
use Rattle.sheets.proofs.Tests.{and_left, and_right}
use Rattle.sheets.proofs.Search.{within-at}
use Rattle.sheets.proofs.Questions.{AllYes, rule-answers}
use Rattle.sheets.proofs.SheetTable.{BothAccepted, call-accepted}
use Rattle.sheets.proofs.PositionedStates.{positioned-named, few-valued}
use Rattle.truth.specs.Sizes.{row_words, lines_words}
use Rattle.truth.specs.Truth.{TrueAt}
use Rattle.truth.specs.Labelling.{RowsTo}
use Rattle.truth.specs.inner.Product.{argument, argument_of}
use Rattle.truth.specs.inner.OneLine.{Holds}
use Rattle.truth.specs.inner.Trails.{placed}
use Rattle.truth.specs.Path.{asked, q18, q19, path_questions}
use Rattle.truth.specs.PathAnswers.{Answer}
use Rattle.truth.specs.inner.Made.{MadePath, MadeFor}
use Rattle.truth.specs.inner.Shows.{Askable, ShowsLine}
use Rattle.sheets.specs.CheckAnswers.{Answered}
use Rattle.sheets.proofs.CheckAnswers.{numbered}
use Rattle.truth.proofs.lines.DecodedKinds.{carried}
use Rattle.truth.proofs.path.PathTable.{own_questions}
use Rattle.truth.proofs.path.PathLines.{auto, operation, operated, path-refers, holds-true, list-true}

-- the rows of an accepted sheet fit 2048 words
pub rows_fit : (R : List ℕ) → rule_refusal lent R ≡ 0 → row_words * lines R ≤ lines_words
unfolding q7 fits
rows_fit R rules =
    let t : T (leb (lines R) lines_most) = search (and_right, (rule-answers lent R rules).seven) in
    omega (arith, leb→le (lines R) lines_most t)

-- a check that did not answer with a refusal found none
pub passed : {questions : List Question} {r : Result (Unit {0}) Refusal} → Answered questions r → ((refusal : Refusal) → r ≡ Err refusal → ⊥)
    → no_refusal ≡ first_no questions
passed {r = Ok a} said other = said.refusal
passed {r = Err refusal} said other = absurd (other refusal refl)

module _ (M R : List ℕ) (j s room : ℕ) where
  -- the call is refused
  pub refused : (refusal : Refusal) (list names : List ℕ) → refusal_of {A = Unit {0}} (Err refusal) ≡ first_no (path_questions M R j s room)
      → MadeFor M R j s room list names (Err refusal)
  unfolding MadePath
  refused refusal list names e = record { refusal = e; made = omega (arith, numbered refusal) }

  -- nothing is
  module _ (none-asked : no_refusal ≡ first_no (path_questions M R j s room)) where
    accepted : BothAccepted M R × AllYes (own_questions M R j s room)
    unfolding path_questions no_refusal
    accepted = call-accepted M R (own_questions M R j s room) (ap (λ (r : Questions.Refusal). r.number) none-asked)

    pub machine-accepted : machine_refusal M ≡ 0
    machine-accepted = accepted.0.machine

    pub rules-accepted : rule_refusal lent R ≡ 0
    rules-accepted = accepted.0.rules

    -- line k is the asked one
    module _ (k : ℕ) (ek : k ≡ asked R j) where
      line-accepted : T (within 1 (lines R) k && within 1 (nodes M) s && within some_path_operation some_path_not_operation (line_word lent R k operation_place))
      unfolding q18
      line-accepted = rw ek accepted.1.0

      pub line-in : (1 ≤ k) × (k ≤ lines R)
      line-in = within-at 1 (lines R) k (let t = line-accepted in search (and_left, t))

      node_in : (1 ≤ s) × (s ≤ nodes M)
      node_in = within-at 1 (nodes M) s (let t = line-accepted in search (and_left, and_right, t))

      path-line : T (within some_path_operation some_path_not_operation (line_word lent R k operation_place))
      path-line = let t = line-accepted in search (and_right, t)

      room-enough : nodes M * state_count R (line_word lent R k operand_place) ≤ room
      unfolding q19
      room-enough = rw ek (leb→le _ room accepted.1.1.0)

      -- the rows are those of the lines above it, and p is the line that it is
      module _ (before rows : List ℕ) (written : RowsTo M R (k - 1) before rows) (p : PathLine) (ep : p ≡ path_line (line_word lent R k operand_place) (argument R k))
          (exchanged : Bool) (ee : eqb (line_word lent R k operation_place) some_path_not_operation ≡ exchanged) where
        kind : line_word lent R k operation_place ≡ operation exchanged
        kind = rw (← ee) (operated (line_word lent R k operation_place) path-line)

        ex : p.automaton ≡ line_word lent R k operand_place
        ex = rw ep

        refers : ((1 ≤ auto R k) × (auto R k ≤ automata R)) × ((i : ℕ) → i < (automaton R (auto R k)).variables → (1 ≤ argument R k i) × (argument R k i < k))
        refers = path-refers M R machine-accepted rules-accepted k line-in.0 line-in.1 exchanged kind

        -- its variables are few
        few : (automaton R (line_word lent R k operand_place)).variables ≤ variables_most
        few =
            let named = (positioned-named lent R rules-accepted (line_word lent R k operand_place) refers.0.0 refers.0.1).variables in
            omega (arith, named, few-valued R rules-accepted (line_word lent R k operand_place) refers.0.0 refers.0.1)

        same : (i : ℕ) → i < (automaton R (line_word lent R k operand_place)).variables → argument_of p i ≡ argument R k i
        same i l = subst (λ (q : PathLine). argument_of q i ≡ argument R k i) (sym ep) (carried (line_word lent R k operand_place) (argument R k) i (omega (arith, l, few)))

        -- the path exists by the bits of the rows where the line is true
        line-holds : Holds M R rows (argument_of p) p.automaton exchanged s ↔ TrueAt lent M R k s
        line-holds =
            rw ex
            (holds-true M R machine-accepted rules-accepted k line-in.0 line-in.1 exchanged kind before rows written (argument_of p) same s node_in.0 node_in.1)

        pub askable : length rows ≡ lines_words → Askable M R rows (argument_of p) p.automaton s
        askable size =
            let named = positioned-named lent R rules-accepted (line_word lent R k operand_place) refers.0.0 refers.0.1 in
            let fit = rows_fit R rules-accepted in
            let in_lines = line-in.1 in
            record {
              machine = machine-accepted;
              rules = rules-accepted;
              from = rw ex refers.0.0;
              to = rw ex refers.0.1;
              arguments = λ i l.
                  let v : i < (automaton R (line_word lent R k operand_place)).variables = rw named.variables (rw ex at l) in
                  let a = refers.1 i v in
                  let b : (1 ≤ argument R k i) × (row_words * argument R k i ≤ length rows) = (a.0, omega (arith, a.1)) in
                  subst (λ (n : ℕ). (1 ≤ n) × (row_words * n ≤ length rows)) (sym (same i v)) b;
              low = node_in.0;
              high = node_in.1;
            }

        pub shown : (list names : List ℕ) (answer : Answer) → ShowsLine M R rows (argument_of p) p.automaton exchanged s list names answer → MadeFor M R j s room list names answer
        unfolding ShowsLine MadePath
        shown list names (Err refusal) said = absurd said
        shown list names (Ok None) said = record { refusal = none-asked; made = λ t. said (line-holds.1 (rw ek t)) }
        shown list names (Ok (Some path)) said = record {
          refusal = none-asked;
          made = (
            rw (← ek) (line-holds.0 said.0),
            rw (← ek)
                (list-true M R machine-accepted rules-accepted k line-in.0 line-in.1 exchanged kind before rows written (argument_of p) same s node_in.0 node_in.1
                (placed list) (placed names) path.length path.back (rw ex at said.1)),
            omega (arith, rw ex at said.2, room-enough),
          );
        }
