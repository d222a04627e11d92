-- The lent words while a text without fault is passed: its whole words, the word that the reader holds, and behind them the words that
-- were lent.
use Rattle.std.specs.Prelude.{Ok, Err}
use mathlib.Core.Path.{◌≡◌, refl, sym, ◌∙◌}
use Prim.Native.Nat.{ℕ, suc, ◌+◌, ◌-◌, ◌≤◌, ◌<◌}
use native.Mathlib.Numerals.{add-one}
use native.Mathlib.Omega.{arith}
use mathlib.Core.List.{List, [], ◌∷◌, ◌++◌, append-nil}
use lib.ListN.{length, get_or, set, drop, length-append, length-drop}
use lib.Seq.{sets, drop-cons, set-append_seam, append_snoc}
use Rattle.text.specs.Texts.{Read, words, fault, reading_of, reading, answer_of, left_of}
use Rattle.text.specs.inner.Readers.{from, held, ended, with_words, start_of, Steps}
use Rattle.text.specs.declared.read.Place.{Place}
use Rattle.text.specs.declared.read.Fault.{Fault}
use Rattle.text.specs.declared.reader.State.{State}
use Rattle.text.specs.declared.reader.State.TheVariants.{Gap, Number, Stopped}
use Rattle.text.specs.declared.reader.Reader.{Reader}
use Rattle.text.proofs.Passing.{with-words, with-fault, Passed, passed_none, passed-more, whole-at-end}

-- words at the head of a lent list
abbrev pub over : List ℕ → List ℕ → List ℕ
over ws lent = ws ++ drop (length ws) lent

pub over-length : (ws lent : List ℕ) → length ws ≤ length lent → length (over ws lent) ≡ length lent
over-length ws lent h = simp (length-append, length-drop) (omega arith)

over-snoc : (ws lent : List ℕ) (n : ℕ) → over (ws ++ (n ∷ [])) lent ≡ ws ++ (n ∷ drop (suc (length ws)) lent)
over-snoc ws lent n = rw (length-append, add-one) (append_snoc ws n (drop (suc (length ws)) lent))

-- a word stored behind others: on the word that was held there, or on the first of the lent ones
stored : (ws had lent : List ℕ) (n : ℕ) → length had ≤ 1 → length ws < length lent
    → set (over (ws ++ had) lent) (length ws) n ≡ over (ws ++ (n ∷ [])) lent
stored ws [] lent n short room =
    rw (append-nil, drop-cons lent (length ws) 0, over-snoc ws lent n) (set-append_seam ws (get_or lent (length ws) 0) _ n)
stored ws (v ∷ []) lent n short room = rw (over-snoc ws lent v, over-snoc ws lent n) (set-append_seam ws v _ n)
stored ws (v ∷ u ∷ had) lent n short room = absurd (omega arith)

pub held-most : (state : State) → length (held state) ≤ 1
unfolding held
held-most Gap = omega arith
held-most (Number first n) = omega arith
held-most (Stopped kind there) = omega arith

-- the lent words after i bytes
pub record Filled (lent text : List ℕ) (i : ℕ) (r : Reader) (list : List ℕ) : Type 0 where
  pub ws : List ℕ
  pub passed : Passed (length lent) text i r ws
  pub is : list ≡ over (ws ++ held r.state) lent

pub filled_none : (lent text : List ℕ) → Filled lent text 0 (start_of (length lent)) lent
unfolding held
filled_none lent text = record { ws = []; passed = passed_none (length lent) text; is = refl }

-- the list after one state more
refilled : (state state' : State) (ws lent list : List ℕ) (room room' : ℕ) → length ws + length (held state) + room ≡ length lent
    → length (ended state state') + length (held state') + room' ≡ length (held state) + room → list ≡ over (ws ++ held state) lent
    → sets list (length list - room' - 1) (held state') ≡ over ((ws ++ ended state state') ++ held state') lent
unfolding held ended
refilled state Gap ws lent list room room' counts moved e = rw append-nil e
refilled state (Number first n) ws lent list room room' counts moved e =
    let short = held-most state in
    let size : length list ≡ length lent = rw e (over-length (ws ++ held state) lent (simp length-append (omega arith))) in
    let place : length list - room' - 1 ≡ length ws = omega arith in
    rw (place, append-nil, e) (stored ws (held state) lent n short (omega arith))
refilled state (Stopped kind there) ws lent list room room' counts moved e = rw append-nil e

pub filled_more : (lent text list : List ℕ) (i : ℕ) (r r' : Reader) → i < length text → Filled lent text i r list
    → Steps r (get_or text i 0) r' → Filled lent text (i + 1) r' (sets list (length list - r'.room - 1) (held r'.state))
filled_more lent text list i r r' h f s = record {
  ws = f.ws ++ ended r.state r'.state;
  passed = passed-more (length lent) text i r r' f.ws h f.passed s;
  is = refilled r.state r'.state f.ws lent list r.room r'.room f.passed.counts s.moves.counts f.is;
}

pub filled-length : (lent text list : List ℕ) (i : ℕ) (r : Reader) → Filled lent text i r list → length list ≡ length lent
filled-length lent text list i r f =
    let counts = f.passed.counts in
    rw f.is (over-length (f.ws ++ held r.state) lent (simp length-append (omega arith)))

-- at the end of a text without fault
all_words : (state : State) (ws vs : List ℕ) (left : ℕ) (at : Place) → words vs ≡ with_words ws (from state [] left at) → vs ≡ ws ++ held state
unfolding from reading held
all_words Gap ws vs left at e = let same = e ∙ with-words ws [] in cc
all_words (Number first n) ws vs left at e = let same = e ∙ with-words ws (n ∷ []) in cc
all_words (Stopped kind there) ws vs left at e = let same = e ∙ with-fault ws kind there in absurd (let z : ◌≡◌ {A = ℕ} 0 1 = cc in omega arith)

pub filled-all : (lent text list : List ℕ) (i : ℕ) (r : Reader) → i ≡ length text → Filled lent text i r list
    → (vs : List ℕ) → reading_of (length lent) text ≡ words vs → list ≡ over vs lent
filled-all lent text list i r end f vs e =
    let all = all_words r.state f.ws vs r.room r.at (sym e ∙ whole-at-end (length lent) text i r f.ws end f.passed) in
    rw all f.is

-- what a call leaves of the lent words, by its answer
pub left-filled : (read : Read) (count : ℕ) (lent list : List ℕ) → Ok count ≡ answer_of read
    → ((vs : List ℕ) → read ≡ words vs → list ≡ over vs lent) → list ≡ left_of read lent
unfolding answer_of left_of
left-filled (words ws) count lent list e filled = filled ws refl
left-filled (fault kind at) count lent list e filled = absurd (let z : ◌≡◌ {A = ℕ} 0 1 = cc in omega arith)

pub left_alone : (read : Read) (found : Fault) (lent : List ℕ) → Err found ≡ answer_of read → lent ≡ left_of read lent
unfolding answer_of left_of
left_alone (words ws) found lent e = absurd (let z : ◌≡◌ {A = ℕ} 0 1 = cc in omega arith)
left_alone (fault k there) found lent e = refl

-- the room for the word that a reader holds
pub held_fits : (lent text list : List ℕ) (i : ℕ) (r r' : Reader) → Filled lent text i r list → Steps r (get_or text i 0) r'
    → length (held r'.state) + r'.room ≤ length list
held_fits lent text list i r r' f s =
    let size = filled-length lent text list i r f in
    omega (arith, f.passed.counts, s.moves.counts)
