-- A sheet turned from one form into the other, by cases.
use Rattle.std.specs.Prelude.{Option, Ok, Err, ok_or}
use mathlib.Core.Path.{◌≡◌}
use Prim.Native.Nat.{ℕ, ◌*◌, ◌/◌, ◌%◌, ◌≤◌, ◌<◌, min}
use native.Mathlib.Omega.{arith}
use mathlib.Core.List.{List, ◌++◌}
use lib.ListN.{length, take, drop}
use lib.Seq.{take-length}
use borrow.Author.Tests.{lt-ltb, le-ltb, eq-eqb, ne_eqb}
use Rattle.text.specs.Texts.{fault, reading_of}
use Rattle.text.specs.Layout.{written_of, text_left}
use Rattle.text.proofs.Answers.{Got}
use Rattle.input.specs.Limits.{sheets_words, sheets_bytes, text_bytes}
use Rattle.input.specs.Bytes.{words_of, bytes_of}
use Rattle.input.specs.Turns.{refused, done, of_read, to_bytes, to_text}
use Rattle.text.specs.declared.read.Fault as Faults
use Rattle.input.specs.declared.turn.TurnError.TheVariants.{Fault, LongText, LongSheet, Odd, NoRoom}
use Rattle.input.proofs.ByteLists.{bytes-length}

-- ---- text to bytes

module _ (text lent : List ℕ) where
  pub text-long : text_bytes < length text → (Err LongText ≡ (to_bytes text lent).answer) × (lent ≡ (to_bytes text lent).left)
  unfolding to_bytes refused
  text-long long = let is = lt-ltb text_bytes (length text) long in (rw is, rw is)

  module _ (short : length text ≤ text_bytes) where
    pub sheet-tight : length lent < sheets_bytes → (Err NoRoom ≡ (to_bytes text lent).answer) × (lent ≡ (to_bytes text lent).left)
    unfolding to_bytes refused
    sheet-tight tight =
        let is = le-ltb text_bytes (length text) short in
        let space = lt-ltb (length lent) sheets_bytes tight in
        (rw (is, space), rw (is, space))

    module _ (roomy : sheets_bytes ≤ length lent) where
      pub text-faulty : (found : Faults.Fault) → reading_of sheets_words text ≡ fault found.kind found.at
          → (Err (Fault found) ≡ (to_bytes text lent).answer) × (lent ≡ (to_bytes text lent).left)
      unfolding to_bytes of_read refused
      text-faulty found e =
          let is = le-ltb text_bytes (length text) short in
          let space = le-ltb (length lent) sheets_bytes roomy in
          (rw (is, space, e), rw (is, space, e))

      pub bytes-done : (n count : ℕ) (list left : List ℕ) → Got (reading_of sheets_words text) n list → length list ≡ sheets_words
          → count ≡ 2 * min (length (take n list)) (length lent / 2) → left ≡ take count (bytes_of (take n list)) ++ drop count lent
          → (Ok count ≡ (to_bytes text lent).answer) × (left ≡ (to_bytes text lent).left)
      unfolding to_bytes of_read done
      bytes-done n count list left got size counted is-left =
          let is = le-ltb text_bytes (length text) short in
          let space = le-ltb (length lent) sheets_bytes roomy in
          let ws = got.ws in
          let number : count ≡ 2 * min (length ws) (length lent / 2) = rw got.head at counted in
          let all : count ≡ length (bytes_of ws) = omega (arith, bytes-length ws, got.counted, got.fits) in
          (rw (is, space, got.is, all), rw (is, space, got.is, is-left, got.head, all, take-length))

-- ---- bytes to text

module _ (sheet lent : List ℕ) where
  pub sheet-long : sheets_bytes < length sheet → (Err LongSheet ≡ (to_text sheet lent).answer) × (lent ≡ (to_text sheet lent).left)
  unfolding to_text refused
  sheet-long long = let is = lt-ltb sheets_bytes (length sheet) long in (rw is, rw is)

  module _ (short : length sheet ≤ sheets_bytes) where
    pub sheet-odd : length sheet % 2 ≡ 1 → (Err Odd ≡ (to_text sheet lent).answer) × (lent ≡ (to_text sheet lent).left)
    unfolding to_text refused
    sheet-odd odd =
        let is = le-ltb sheets_bytes (length sheet) short in
        let odd = eq-eqb (length sheet % 2) 1 odd in
        (rw (is, odd), rw (is, odd))

    pub text-done : (length sheet % 2 ≡ 1 → ⊥) → (written : Option ℕ) (ws left : List ℕ) → ws ≡ words_of sheet → written ≡ written_of ws lent
        → left ≡ text_left ws lent → (ok_or written NoRoom ≡ (to_text sheet lent).answer) × (left ≡ (to_text sheet lent).left)
    unfolding to_text
    text-done even written ws left all is-written is-left =
        let is = le-ltb sheets_bytes (length sheet) short in
        let even = ne_eqb (length sheet % 2) 1 even in
        (rw (is, even, ← all, is-written), rw (is, even, ← all, is-left))
