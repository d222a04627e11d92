-- A text passed byte by byte: the reading of the whole text from the words that are whole and the reader's state.
use Rattle.std.specs.Prelude.{Ok, Err}
use mathlib.Core.Path.{◌≡◌, refl, sym, ap, ◌∙◌}
use Prim.Native.Nat.{ℕ, ◌+◌, ◌-◌, ◌≤◌, ◌<◌}
use native.Mathlib.Numerals.{add-one}
use native.Mathlib.Omega.{arith}
use mathlib.Core.List.{List, [], ◌∷◌, ◌++◌}
use mathlib.Core.Bool.{Bool, true, false, cond}
use lib.ListN.{length, get_or, drop, length-append}
use lib.Seq.{drop-cons, drop-length}
use lib.Dec.{eqb}
use Rattle.text.specs.Texts.{Read, words, fault, with_word, next, commented, uncommented, reading_of, reading, answer_of}
use Rattle.text.specs.inner.Readers.{from, held, ended, with_words, start_of, Steps}
use Rattle.text.specs.declared.read.Place.{Place}
use Rattle.text.specs.declared.read.Kind.{Kind}
use Rattle.text.specs.declared.read.Kind.{Kind}
use Rattle.text.specs.declared.reader.State.TheVariants.{Gap, Number, Stopped}
use Rattle.text.specs.declared.reader.Reader.{Reader}

with_append : (xs ys : List ℕ) (r : Read) → with_words (xs ++ ys) r ≡ with_words xs (with_words ys r)
unfolding with_words
with_append [] ys r = refl
with_append (x ∷ xs) ys r = ap (with_word x) (with_append xs ys r)

pub with-words : (ws vs : List ℕ) → with_words ws (words vs) ≡ words (ws ++ vs)
unfolding with_words with_word
with-words [] vs = refl
with-words (w ∷ ws) vs = ap (with_word w) (with-words ws vs)

pub with-fault : (ws : List ℕ) (kind : Kind) (at : Place) → with_words ws (fault kind at) ≡ fault kind at
unfolding with_words with_word
with-fault [] kind at = refl
with-fault (w ∷ ws) kind at = ap (with_word w) (with-fault ws kind at)

-- a line and a column grow by at most 1 with each byte
abbrev Most : ℕ → Place → Type 0
Most k at = (at.line ≤ k) × (at.column ≤ k)

next-most : (at : Place) (b k : ℕ) → Most k at → Most (k + 1) (next at b)
next-most at b k h = by (eqb b 10)
  where
    by : (newline : Bool) → Most (k + 1) (cond newline (record { line = at.line + 1; column = 1 }) (record { line = at.line; column = at.column + 1 }))
    by true = omega arith
    by false = omega arith

-- i bytes are passed: `ws` are whole, and the reader reads on
pub record Passed (room : ℕ) (text : List ℕ) (i : ℕ) (r : Reader) (ws : List ℕ) : Type 0 where
  pub whole : reading_of room text ≡ with_words ws (from r.state (uncommented r.comment (drop i text)) r.room r.at)
  pub counts : length ws + length (held r.state) + r.room ≡ room
  pub line : r.at.line ≤ i + 1
  pub column : r.at.column ≤ i + 1

pub passed_none : (room : ℕ) (text : List ℕ) → Passed room text 0 (start_of room) []
unfolding reading_of with_words from held
passed_none room text = record { whole = refl; counts = omega arith; line = omega arith; column = omega arith }

-- one byte more, in terms of the reading
step-reads : (r r' : Reader) (byte : ℕ) (rest : List ℕ) → Steps r byte r'
    → from r.state (uncommented r.comment (byte ∷ rest)) r.room r.at
    ≡ with_words (ended r.state r'.state) (from r'.state (uncommented r'.comment rest) r'.room r'.at)
unfolding uncommented
step-reads r r' byte rest s = rw (s.comment, s.at) (s.moves.reads (uncommented (commented r.comment byte) rest))

pub passed-more : (room : ℕ) (text : List ℕ) (i : ℕ) (r r' : Reader) (ws : List ℕ) → i < length text → Passed room text i r ws
    → Steps r (get_or text i 0) r' → Passed room text (i + 1) r' (ws ++ ended r.state r'.state)
passed-more room text i r r' ws h p s =
    let most = next-most r.at (cond (commented r.comment (get_or text i 0)) 32 (get_or text i 0)) (i + 1) (p.line, p.column) in
    record {
      whole = p.whole ∙ rw (add-one, drop-cons text i 0) (ap (with_words ws) (step-reads r r' _ _ s) ∙ sym (with_append ws _ _));
      counts = simp length-append (omega (arith, p.counts, s.moves.counts));
      line = rw s.at most.0;
      column = rw s.at most.1;
    }

-- at the end of the text
module _ (room : ℕ) (text : List ℕ) (i : ℕ) (r : Reader) (ws : List ℕ) (end : i ≡ length text) (p : Passed room text i r ws) where
  pub whole-at-end : reading_of room text ≡ with_words ws (from r.state [] r.room r.at)
  unfolding uncommented
  whole-at-end = rw (end, drop-length) at p.whole

  pub counted-at-gap : r.state ≡ Gap → Ok (room - r.room) ≡ answer_of (reading_of room text)
  unfolding answer_of from reading held
  counted-at-gap e = rw (whole-at-end, e, with-words) (ap Ok (simp length-append (omega (arith, rw e at p.counts))))

  pub counted-at-number : (first : Place) (n : ℕ) → r.state ≡ Number first n → Ok (room - r.room) ≡ answer_of (reading_of room text)
  unfolding answer_of from reading held
  counted-at-number first n e = rw (whole-at-end, e, with-words) (ap Ok (simp length-append (omega (arith, rw e at p.counts))))

  pub faulty-at-end : (kind : Kind) (there : Place) → r.state ≡ Stopped kind there → Err (record { kind = kind; at = there }) ≡ answer_of (reading_of room text)
  unfolding answer_of from
  faulty-at-end kind there e = rw (whole-at-end, e, with-fault)
