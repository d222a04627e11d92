-- Where the first sheet ends, by cases, the two sheets of bytes in lent words, and what a program answers to bytes from what it answers to
-- sheets.
use Rattle.std.specs.Prelude.{Result, Ok, Err}
use mathlib.Core.Path.{◌≡◌, refl, sym, ap, ◌∙◌, subst}
use Prim.Native.Nat.{ℕ, ◌+◌, ◌-◌, ◌*◌, ◌/◌, ◌≤◌, ◌<◌, min}
use native.Mathlib.Omega.{arith}
use mathlib.Core.List.{List, ◌++◌}
use mathlib.Core.Bool.{Bool, true, false, true≢false}
use lib.ListN.{length, take, drop}
use lib.Seq.{take-take, take-add, length-take-le, drop_at}
use borrow.Author.Tests.{le-leb, lt-leb}
use Rattle.sheets.specs.Machine.{q1}
use Rattle.input.specs.Bytes.{readable, words_of}
use Rattle.input.specs.Cut.{header_end, first_end, first_sheet, second_sheet, first_in, second_in, whole_in, IsCut, TwoSheets}
use Rattle.input.specs.Replies.{Reply}
use Rattle.input.specs.declared.cut.Cut.{Cut}
use Rattle.input.specs.declared.cut.Unreadable.{Unreadable}
use Rattle.input.proofs.WordLists.{words-length, words-whole}

module _ (words : List ℕ) where
  pub end-without-header : q1 words ≡ false → first_end words ≡ length words
  unfolding first_end
  end-without-header h = simp h

  pub end-by-header : q1 words ≡ true → header_end words ≤ length words → first_end words ≡ header_end words
  unfolding first_end
  end-by-header h reached = simp (h, le-leb (header_end words) (length words) reached)

  pub end-not-reached : q1 words ≡ true → length words < header_end words → first_end words ≡ length words
  unfolding first_end
  end-not-reached h short = simp (h, lt-leb (header_end words) (length words) short)

-- ---- the two sheets of bytes in lent words

module _ (bytes before : List ℕ) where
  pub no-sheets : readable (2 * length before) (length bytes) ≡ false → (e : Unreadable) → TwoSheets bytes before before (Err e)
  no-sheets other e = record {
    refused = λ e' is. (other, refl);
    taken = λ cut is. absurd (let z : ◌≡◌ {A = ℕ} 0 1 = cc in omega arith);
  }

  pub two-sheets : readable (2 * length before) (length bytes) ≡ true → (after : List ℕ) (count end : ℕ)
      → count ≡ min (length bytes / 2) (length before) → after ≡ take count (words_of bytes) ++ drop count before → length after ≡ length before
      → end ≡ first_end (take count after) → end ≤ length (take count after)
      → TwoSheets bytes before after (Ok (record { end = end; count = count }))
  two-sheets ok after count end counted is size cut reached =
      let whole : take count after ≡ words_of bytes = words-whole (2 * length before) bytes before after count ok (omega arith) counted is in
      let within : count ≤ length after = omega arith in
      let head : length (take count (words_of bytes)) ≡ count = length-take-le count (words_of bytes) (omega (arith, words-length bytes)) in
      let cut : IsCut bytes before after (record { end = end; count = count }) = record {
        inside = record { ordered = omega (arith, length-take-le count after within); within = within };
        behind = ap (drop count) is ∙ drop_at (take count (words_of bytes)) (drop count before) count head;
        whole = whole;
        end = rw whole at cut;
      } in
      record {
        refused = λ e is. absurd (let z : ◌≡◌ {A = ℕ} 0 1 = cc in omega arith);
        taken = λ cut' is. (ok, let same : record { end = end; count = count } ≡ cut' = cc in subst (IsCut bytes before after) same cut);
      }

-- the parts of the words that the cut says are the two sheets
module _ {bytes before after : List ℕ} {cut : Cut} (h : IsCut bytes before after cut) where
  first_part : first_in after cut ≡ first_sheet (words_of bytes)
  unfolding first_sheet
  first_part = rw (← h.end, ← h.whole) (sym (take-take cut.end cut.count after h.inside.ordered))

  second-part : second_in after cut ≡ second_sheet (words_of bytes)
  unfolding second_sheet
  second-part =
      let size : cut.end + (cut.count - cut.end) ≡ cut.count = omega (arith, h.inside.ordered) in
      let head : length (first_in after cut) ≡ cut.end = length-take-le cut.end after (omega (arith, h.inside.ordered, h.inside.within)) in
      let split : whole_in after cut ≡ first_in after cut ++ second_in after cut = rw size at (take-add cut.end (cut.count - cut.end) after) in
      rw (← h.end, ← h.whole, split) (sym (drop_at (first_in after cut) (second_in after cut) cut.end head))

-- ---- the answer to bytes, from that to the two sheets in lent words, with space for so many

module _ {bytes before after : List ℕ} {result : Result Cut Unreadable} (h : TwoSheets bytes before after result) (room : ℕ)
    (size : length before ≡ room) {Refused : Type 0} {Answered : List ℕ → List ℕ → Type 0} where
  pub reply-refused : {e : Unreadable} → result ≡ Err e → Refused → Reply (2 * room) bytes Refused Answered
  reply-refused {e} is r =
      let other = rw size at (h.refused e is).0 in
      record { refused = λ z. r; answered = λ ok. absurd (true≢false (sym ok ∙ other)) }

  pub reply-answered : {cut : Cut} → result ≡ Ok cut → {first second : List ℕ} → first ≡ first_in after cut → second ≡ second_in after cut
      → Answered first second → Reply (2 * room) bytes Refused Answered
  reply-answered {cut} is is₁ is₂ a =
      let ok = rw size at (h.taken cut is).0 in
      let cut = (h.taken cut is).1 in
      record {
        refused = λ other. absurd (true≢false (sym ok ∙ other));
        answered = λ z. rw (is₁ ∙ first_part cut, is₂ ∙ second-part cut) at a;
      }

-- a fact that either answer gives
pub by-reply : {most : ℕ} {bytes : List ℕ} {Refused : Type 0} {Answered : List ℕ → List ℕ → Type 0} {A : Type 0}
    → Reply most bytes Refused Answered → (readable most (length bytes) ≡ false → Refused → A)
    → (readable most (length bytes) ≡ true → Answered (first_sheet (words_of bytes)) (second_sheet (words_of bytes)) → A) → A
by-reply {most} {bytes} {A = A} reply f g = by (readable most (length bytes)) refl
  where
    by : (taken : Bool) → readable most (length bytes) ≡ taken → A
    by true ok = g ok (reply.answered ok)
    by false other = f other (reply.refused other)

-- a reply that says so of the two sheets, from one that says more
pub reply-by : {most : ℕ} {bytes : List ℕ} {Refused : Type 0} {More Answered : List ℕ → List ℕ → Type 0}
    → Reply most bytes Refused More → ((M R : List ℕ) → More M R → Answered M R) → Reply most bytes Refused Answered
reply-by h f = record { refused = h.refused; answered = λ ok. f _ _ (h.answered ok) }
