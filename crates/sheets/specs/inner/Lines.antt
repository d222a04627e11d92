-- A line record taken apart, in the form that the code hands out: the line that it is, or that it is malformed, which is question 15's "no" at
-- that line.
use Rattle.std.specs.Prelude.{ℕ, List, [], ◌∷◌, Bool, true, false, Option, Some, None}
use Rattle.sheets.specs.Format.{operation_place, operand_place, argument_place}
use Rattle.sheets.specs.Structures as Structures
use Rattle.sheets.specs.Rules.{lent, line_word, line_fits, line}
use Rattle.sheets.specs.declared.lines.PathLine.{PathLine}
use Rattle.sheets.specs.declared.lines.Line.{Line}
use Rattle.sheets.specs.declared.lines.Line.TheVariants.{Signal, Negation, Either, SomePath, SomePathNot}

-- an automaton with the lines of the variables that it may have
abbrev pub path_line : ℕ → (ℕ → ℕ) → PathLine
path_line x arg = record { automaton = x; lines = arg 0 ∷ arg 1 ∷ arg 2 ∷ arg 3 ∷ [] }

-- the automaton and the lines that the words of line j name
abbrev pub named : List ℕ → ℕ → PathLine
named R j = path_line (line_word lent R j operand_place) (λ i. line_word lent R j (argument_place i))

-- the lines of a path line, in their order
abbrev pub arguments : PathLine → List ℕ
arguments p = p.lines

unfoldable pub handed : Structures.Line → Option Line
handed (Structures.signal i) = Some (Signal i)
handed (Structures.negation j) = Some (Negation j)
handed (Structures.either i j) = Some (Either i j)
handed (Structures.some_path x arg) = Some (SomePath (path_line x arg))
handed (Structures.some_path_not x arg) = Some (SomePathNot (path_line x arg))
handed Structures.malformed = None

-- a line, if question 15 answers so of it
unfoldable pub decoded_as : Bool → Structures.Line → Option Line
unfolding handed
decoded_as false l = None
decoded_as true l = handed l

unfoldable pub decoded : List ℕ → ℕ → Option Line
unfolding decoded_as line_fits line
decoded R j = decoded_as (line_fits lent R j (line_word lent R j operation_place)) (line lent R j)
