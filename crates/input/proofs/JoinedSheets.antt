-- Two sheets one after the other are cut apart, where the first is accepted: so two files may be joined for a program.
use mathlib.Core.Path.{◌≡◌, refl, sym, ap, ◌∙◌}
use Prim.Native.Nat.{ℕ, ◌%◌, ◌<◌, ◌≤◌}
use native.Mathlib.Omega.{arith}
use mathlib.Core.List.{List, [], ◌∷◌, ◌++◌}
use mathlib.Core.Bool.{true, false, true≢false, ◌&&◌}
use mathlib.Core.Logic.{⊎_elim}
use borrow.Author.Tests.{le-leb, lt-leb, eq-eqb, eqb-true}
use lib.ListN.{length, length-append, get_or-append}
use lib.Seq.{take-append_seam, drop-append_seam}
use lib.Dec.{T, leb}
use Rattle.sheets.specs.Words.{word, within}
use Rattle.sheets.specs.Format.{nodes_most, signals_most, edges_most, machine_header, plain, machine_longest}
use Rattle.sheets.specs.Machine.{nodes, signals, edges, q1, machine_refusal}
use Rattle.sheets.specs.MachineForms.{q2}
use Rattle.sheets.proofs.Tests.{passed, and_left, and_right}
use Rattle.sheets.proofs.Search.{le-or-gt, within-at}
use Rattle.sheets.proofs.Questions.{machine-answers}
use Rattle.input.specs.Limits.{machines_bytes}
use Rattle.input.specs.Bytes.{readable, word_of, words_of}
use Rattle.input.specs.Cut.{header_end, first_end, first_sheet, second_sheet}
use Rattle.input.proofs.Cuts.{end-by-header}
use Rattle.input.proofs.WordLists.{words-length}

-- the words of bytes one after the other, where the first are even in number
words-joined : (first second : List ℕ) → length first % 2 ≡ 0 → words_of (first ++ second) ≡ words_of first ++ words_of second
unfolding words_of
words-joined [] second even = refl
words-joined (low ∷ []) second even = absurd (omega arith)
words-joined (low ∷ high ∷ first) second even = ap (◌∷◌ (word_of low high)) (words-joined first second (omega arith))

-- a first sheet to which questions 1 and 2 say yes, and any second
module _ (first second : List ℕ) (one : q1 first ≡ true) (two : q2 plain first ≡ true) where
  short : length first < machine_header → q1 first ≡ false
  unfolding q1
  short h = simp (lt-leb machine_header (length first) h)

  three : machine_header ≤ length first
  three = ⊎_elim (λ h. h) (λ h. absurd (true≢false (sym one ∙ short h))) (le-or-gt machine_header (length first))

  -- the header is the first sheet's
  same_word : (k : ℕ) → k < machine_header → word (first ++ second) k ≡ word first k
  unfolding word
  same_word k h = let long = three in get_or-append first second 0 k (omega arith)

  same_nodes : nodes (first ++ second) ≡ nodes first
  same_nodes = same_word 0 (omega arith)

  same-signals : signals (first ++ second) ≡ signals first
  same-signals = same_word 1 (omega arith)

  same_edges : edges (first ++ second) ≡ edges first
  same_edges = same_word 2 (omega arith)

  same_end : header_end (first ++ second) ≡ length first
  unfolding q2
  same_end = rw (same_nodes, same_edges) (sym (eqb-true (length first) _ two))

  same-one : q1 (first ++ second) ≡ true
  unfolding q1
  same-one =
      let long = three in
      let both : machine_header ≤ length (first ++ second) = simp length-append (omega arith) in
      rw (le-leb machine_header (length (first ++ second)) both, same_nodes, same-signals, same_edges) (rw (le-leb machine_header (length first) long) at one)

  first-end : first_end (first ++ second) ≡ length first
  first-end = end-by-header (first ++ second) same-one (rw (same_end, length-append) (omega arith)) ∙ same_end

  first-sheet : first_sheet (first ++ second) ≡ first
  unfolding first_sheet
  first-sheet = rw first-end (take-append_seam first second)

  second-sheet : second_sheet (first ++ second) ≡ second
  unfolding second_sheet
  second-sheet = rw first-end (drop-append_seam first second)

module _ (M : List ℕ) (accepted : machine_refusal M ≡ 0) where
  yes-one : q1 M ≡ true
  yes-one = passed (q1 M) (machine-answers M accepted).one

  yes-two : q2 plain M ≡ true
  yes-two = passed (q2 plain M) (machine-answers M accepted).two

  sizes : T (leb machine_header (length M) && within 1 nodes_most (nodes M) && within 1 signals_most (signals M) && within 1 edges_most (edges M))
  unfolding q1
  sizes = (machine-answers M accepted).one

  longest : length M ≤ machine_longest
  unfolding q2
  longest =
      let few = within-at 1 nodes_most (nodes M) (let t = sizes in search (and_left, and_right, t)) in
      let most = within-at 1 edges_most (edges M) (let t = sizes in search (and_left, and_right, t)) in
      omega (arith, eqb-true (length M) _ yes-two, few.1, most.1)

-- two files of bytes, each of them an accepted machine sheet: joined they are readable, and cut into the two again
module _ (first second : List ℕ) (even₁ : length first % 2 ≡ 0) (even₂ : length second % 2 ≡ 0)
    (ok₁ : machine_refusal (words_of first) ≡ 0) (ok₂ : machine_refusal (words_of second) ≡ 0) where
  pub joined-readable : readable machines_bytes (length (first ++ second)) ≡ true
  joined-readable =
      let size = length-append first second in
      let few : length (first ++ second) ≤ machines_bytes =
      omega (arith, words-length first, words-length second, longest (words_of first) ok₁, longest (words_of second) ok₂) in
      let even : length (first ++ second) % 2 ≡ 0 = omega arith in
      rw (le-leb (length (first ++ second)) machines_bytes few, eq-eqb (length (first ++ second) % 2) 0 even)

  pub joined-first : first_sheet (words_of (first ++ second)) ≡ words_of first
  joined-first =
      rw (words-joined first second even₁) (first-sheet (words_of first) (words_of second) (yes-one (words_of first) ok₁) (yes-two (words_of first) ok₁))

  pub joined-second : second_sheet (words_of (first ++ second)) ≡ words_of second
  joined-second =
      rw (words-joined first second even₁) (second-sheet (words_of first) (words_of second) (yes-one (words_of first) ok₁) (yes-two (words_of first) ok₁))
