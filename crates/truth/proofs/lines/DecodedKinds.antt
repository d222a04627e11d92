-- A decoded line of an accepted rule sheet is the line of the definitions, and what it refers to stands above it.
use mathlib.Core.Path.{◌≡◌, refl, subst}
use Prim.Native.Nat.{ℕ, zero, suc, ◌≤◌, ◌<◌}
use native.Mathlib.Omega.{arith}
use mathlib.Core.List.{List}
use mathlib.Core.Bool.{Bool, true, false}
use lib.Dec.{T}
use Rattle.sheets.specs.Format.{variables_most, signals_most, operation_place, operand_place}
use Rattle.sheets.specs.Structures as Structures
use Rattle.sheets.specs.Rules.{lent, lines, line_word, line_of, line, line_fits, automata, automaton, rule_refusal}
use Rattle.sheets.specs.inner.Lines.{path_line, decoded_as, decoded}
use Rattle.sheets.specs.declared.lines.Line.{Line}
use Rattle.sheets.specs.declared.lines.Line.TheVariants.{Signal, Negation, Either, SomePath, SomePathNot}
use Rattle.std.specs.Prelude.{Option, Some, None}
use Rattle.sheets.proofs.AcceptedRule.{line-fits}
use Rattle.sheets.proofs.DecodedLines.{none-fails}
use Rattle.sheets.proofs.FormedLines as FormedLines
use Rattle.truth.specs.inner.Product.{argument, argument_of}

-- the lines that a path line's words name
pub carried : (x : ℕ) (arg : ℕ → ℕ) (i : ℕ) → i < variables_most → argument_of (path_line x arg) i ≡ arg i
carried x arg zero l = refl
carried x arg (suc zero) l = refl
carried x arg (suc (suc zero)) l = refl
carried x arg (suc (suc (suc zero))) l = refl
carried x arg (suc (suc (suc (suc i)))) l = absurd (omega arith)

module _ (R : List ℕ) (j : ℕ) where
  -- the line of the definitions that a decoded line is
  abbrev pub meant : Line → Structures.Line
  meant (Signal i) = Structures.signal i
  meant (Negation k) = Structures.negation k
  meant (Either i k) = Structures.either i k
  meant (SomePath p) = Structures.some_path p.automaton (argument R j)
  meant (SomePathNot p) = Structures.some_path_not p.automaton (argument R j)

  same-formed : {k l : Line} → Some k ≡ Some l → meant k ≡ meant l
  same-formed {k} {l} e = let f : k ≡ l = cc in rw f

  meant-by : (l : Line) (n : ℕ) (b : Bool) → decoded_as b (line_of lent R j n) ≡ Some l → line_of lent R j n ≡ meant l
  unfolding decoded_as line_of
  meant-by l n false e = let z : ◌≡◌ {A = ℕ} 0 1 = cc in absurd (omega arith)
  meant-by l zero true e = same-formed e
  meant-by l (suc zero) true e = same-formed e
  meant-by l (suc (suc zero)) true e = same-formed e
  meant-by l (suc (suc (suc zero))) true e = same-formed e
  meant-by l (suc (suc (suc (suc zero)))) true e = same-formed e
  meant-by l (suc (suc (suc (suc (suc n))))) true e = let z : ◌≡◌ {A = ℕ} 0 1 = cc in absurd (omega arith)

  pub line-meant : (l : Line) → decoded R j ≡ Some l → line lent R j ≡ meant l
  unfolding decoded line
  line-meant l e = meant-by l (line_word lent R j operation_place) (line_fits lent R j (line_word lent R j operation_place)) e

  -- a decoded path line carries the lines of its variables
  abbrev pub Carries : Line → Type 0
  Carries (Signal i) = Unit {0}
  Carries (Negation k) = Unit {0}
  Carries (Either i k) = Unit {0}
  Carries (SomePath p) = (i : ℕ) → i < variables_most → argument_of p i ≡ argument R j i
  Carries (SomePathNot p) = (i : ℕ) → i < variables_most → argument_of p i ≡ argument R j i

  same-carried : {k l : Line} → Some k ≡ Some l → Carries k → Carries l
  same-carried {k} {l} e h = let f : k ≡ l = cc in subst Carries f h

  carries-by : (l : Line) (n : ℕ) (b : Bool) → decoded_as b (line_of lent R j n) ≡ Some l → Carries l
  unfolding decoded_as line_of
  carries-by l n false e = let z : ◌≡◌ {A = ℕ} 0 1 = cc in absurd (omega arith)
  carries-by l zero true e = same-carried e tt
  carries-by l (suc zero) true e = same-carried e tt
  carries-by l (suc (suc zero)) true e = same-carried e tt
  carries-by l (suc (suc (suc zero))) true e = same-carried e (carried (line_word lent R j operand_place) (argument R j))
  carries-by l (suc (suc (suc (suc zero)))) true e = same-carried e (carried (line_word lent R j operand_place) (argument R j))
  carries-by l (suc (suc (suc (suc (suc n))))) true e = let z : ◌≡◌ {A = ℕ} 0 1 = cc in absurd (omega arith)

  pub line-carries : (l : Line) → decoded R j ≡ Some l → Carries l
  unfolding decoded line
  line-carries l e = carries-by l (line_word lent R j operation_place) (line_fits lent R j (line_word lent R j operation_place)) e

  -- as the code has it: the answer of `decode`, then the line in it
  pub told : {d : Option Line} {l k : Line} → d ≡ decoded R j → d ≡ Some l → l ≡ k → decoded R j ≡ Some k
  told e f g = cc

  module _ (accepted : rule_refusal lent R ≡ 0) (lo : 1 ≤ j) (hi : j ≤ lines R) where
    pub none-malformed : decoded R j ≡ None → ⊥
    none-malformed e = subst T (none-fails R j e) (line-fits lent R accepted j lo hi)

    pub refers : (l : Line) → decoded R j ≡ Some l → FormedLines.Formed signals_most (automata R) (automaton R) j (meant l)
    refers l e = rw (line-meant l e) at (FormedLines.formed lent R accepted signals_most (FormedLines.over-most lent R accepted) j lo hi)
