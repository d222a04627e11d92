-- A byte read: its sort, and the state after it for each state before it and each sort.
use mathlib.Core.Path.{◌≡◌, refl, ap}
use Prim.Native.Nat.{ℕ, suc, ◌+◌, ◌-◌, ◌*◌, ◌≤◌, ◌<◌}
use native.Mathlib.Omega.{arith}
use borrow.Author.Tests.{le-leb, lt-leb}
use Rattle.text.specs.Texts.{number, reading, sort_of, with_word, next}
use Rattle.text.specs.inner.Readers.{from, held, ended, with_words, stopped_at, Moves}
use Rattle.text.specs.declared.read.Place.{Place}
use Rattle.text.specs.declared.reader.State.{State}
use Rattle.text.specs.declared.reader.Reader.{Reader}
use Rattle.text.specs.declared.read.Kind.TheVariants.{NotDecimal, Above, NoRoom}
use Rattle.text.specs.declared.reader.Sort.TheVariants.{Blank, Digit, Other}
use Rattle.text.specs.declared.reader.State.TheVariants.{Gap, Number}

-- a reader with another state, and room for so many words
abbrev pub moved_to : Reader → State → ℕ → Reader
moved_to r state room = record { comment = r.comment; at = r.at; room = room; state = state }

module _ (r : Reader) (b : ℕ) where
  module _ (gap : r.state ≡ Gap) where
    pub gap-blank : sort_of b ≡ Blank → Moves r b r
    unfolding from held ended with_words reading
    gap-blank e = record { reads = λ text. rw (gap, e, reading); counts = rw gap refl }

    pub gap_other : sort_of b ≡ Other → Moves r b (stopped_at r NotDecimal r.at)
    unfolding from held ended with_words reading
    gap_other e = record { reads = λ text. rw (gap, e, reading); counts = rw gap refl }

    pub gap-full : (d : ℕ) → sort_of b ≡ Digit d → r.room ≡ 0 → Moves r b (stopped_at r NoRoom r.at)
    unfolding from held ended with_words reading
    gap-full d e none = record { reads = λ text. rw (gap, e, none, reading); counts = rw gap refl }

    pub gap-digit : (d : ℕ) → sort_of b ≡ Digit d → (r.room ≡ 0 → ⊥) → Moves r b (moved_to r (Number r.at d) (r.room - 1))
    unfolding from held ended with_words reading
    gap-digit d e some =
        let left : r.room ≡ suc (r.room - 1) = omega arith in
        record { reads = λ text. rw (gap, e, left, reading) (ap (λ (k : ℕ). reading text (number r.at d) k (next r.at b)) (omega arith)); counts = rw gap (omega arith) }

  module _ (first : Place) (n : ℕ) (digits : r.state ≡ Number first n) where
    pub number-blank : sort_of b ≡ Blank → Moves r b (moved_to r Gap r.room)
    unfolding from held ended with_words reading
    number-blank e = record { reads = λ text. rw (digits, e, reading); counts = rw digits refl }

    pub number-other : sort_of b ≡ Other → Moves r b (stopped_at r NotDecimal r.at)
    unfolding from held ended with_words reading with_word
    number-other e = record { reads = λ text. rw (digits, e, reading); counts = rw digits refl }

    pub number-digit : (d : ℕ) → sort_of b ≡ Digit d → 10 * n + d ≤ 65535 → Moves r b (moved_to r (Number first (10 * n + d)) r.room)
    unfolding from held ended with_words reading
    number-digit d e most = record { reads = λ text. rw (digits, e, le-leb _ _ most, reading); counts = rw digits refl }

    pub number-above : (d : ℕ) → sort_of b ≡ Digit d → 65535 < 10 * n + d → Moves r b (stopped_at r Above first)
    unfolding from held ended with_words reading with_word
    number-above d e more = record { reads = λ text. rw (digits, e, lt-leb _ _ more, reading); counts = rw digits refl }
