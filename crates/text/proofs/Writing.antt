-- The text of words, put into a lent list word by word.
use mathlib.Core.Path.{◌≡◌, refl, sym, ap, ◌∙◌}
use Prim.Native.Nat.{ℕ, suc, ◌+◌, ◌-◌, ◌*◌, ◌≤◌, ◌<◌}
use native.Mathlib.Numerals.{add-one}
use native.Mathlib.Omega.{arith}
use mathlib.Core.List.{List, [], ◌∷◌, ◌++◌, append-nil, append_assoc}
use lib.ListN.{length, get_or, set, take, drop, length-append, length-drop, take-append-drop}
use lib.Seq.{paste, paste-suc, get_or_at, drop-cons, drop-length, take-append_seam, take-paste, drop-paste, length-paste, take-length, drop-drop, length-take-le}
use borrow.Author.Tests.{le-leb, lt-leb}
use borrow.Rule.Slice.PartMut.{put_mid}
use Rattle.std.specs.Prelude.{Some, None}
use Rattle.std.specs.Fmt.{decimal}
use Rattle.std.proofs.lemmas.Fmt.{length-decimal-le}
use Rattle.std.proofs.lemmas.Slice.{put_mid-paste}
use Rattle.text.specs.Layout.{ender_of, word_text, word_bytes, text_from, text_of, written_of, text_left}

-- a word and a blank are at most six bytes
pub word-most : (word blank : ℕ) → word < 65536 → length (word_text word blank) ≤ word_bytes
word-most word blank small = simp length-append (omega (arith, length-decimal-le 5 word (omega arith) (omega arith) (omega arith)))

-- a word's digits put into a list, and behind them the blank
pub word-placed : (list digits : List ℕ) (at k end word blank : ℕ) → digits ≡ decimal word → k ≡ length digits → end ≡ at + length digits → end < length list
    → set (put_mid at k list digits) end blank ≡ paste list at (word_text word blank) (length (word_text word blank))
word-placed list digits at k end word blank is gap place room =
    let text = digits ++ (blank ∷ []) in
    let put : put_mid at k list digits ≡ paste list at text (length digits) =
    put_mid-paste at k list digits digits (length digits) refl (sym gap) refl
    ∙ ap (λ xs. take at list ++ xs ++ drop (at + length digits) list) (take-length digits ∙ sym (take-append_seam digits (blank ∷ []))) in
    let last : get_or text (length digits) 0 ≡ blank = get_or_at digits blank [] 0 (length digits) refl in
    let size : length text ≡ suc (length digits) = length-append digits (blank ∷ []) ∙ omega arith in
    rw (put, place, ← is, size) (ap (set (paste list at text (length digits)) (at + length digits)) (sym last) ∙ paste-suc list at text (length digits) 0 (omega arith) (omega arith))

-- i words are put into the lent list, up to a place
pub record Wrote (ws lent : List ℕ) (i at : ℕ) (list : List ℕ) : Type 0 where
  pub whole : text_of ws ≡ take at list ++ text_from (suc i) (drop i ws)
  pub behind : drop at list ≡ drop at lent
  pub size : length list ≡ length lent
  pub room : at + word_bytes * (length ws - i) ≤ length lent

pub wrote_none : (ws lent : List ℕ) → word_bytes * length ws ≤ length lent → Wrote ws lent 0 0 lent
unfolding text_of
wrote_none ws lent h = record { whole = refl; behind = refl; size = refl; room = omega arith }

-- the text from a word on begins with the word and its blank
text-on : (ws : List ℕ) (i : ℕ) → i < length ws
    → text_from (suc i) (drop i ws) ≡ word_text (get_or ws i 0) (ender_of (i + 1) (length ws - (i + 1))) ++ text_from (suc (i + 1)) (drop (i + 1) ws)
unfolding text_from
text-on ws i h = rw (add-one, drop-cons ws i 0, length-drop)

module _ (ws lent list t : List ℕ) (i at : ℕ) (h : i < length ws) (w : Wrote ws lent i at list)
    (is : t ≡ word_text (get_or ws i 0) (ender_of (i + 1) (length ws - (i + 1)))) (most : length t ≤ word_bytes) where
  pub text-fits : at + length t ≤ length list
  text-fits = omega (arith, w.size, w.room)

  pub wrote-more : Wrote ws lent (i + 1) (at + length t) (paste list at t (length t))
  wrote-more =
      let fits = text-fits in
      record {
        whole = w.whole ∙ rw (take-paste list at t (length t) (omega arith) (omega arith), take-length, text-on ws i h, is) (simp append_assoc);
        behind =
            drop-paste list at t (length t) (omega arith) (omega arith) ∙ sym (drop-drop (length t) at list)
            ∙ ap (drop (length t)) w.behind ∙ drop-drop (length t) at lent;
        size = length-paste list at t (length t) fits (omega arith) ∙ w.size;
        room = omega (arith, w.room);
      }

-- when all words are put
pub wrote-all : (ws lent list : List ℕ) (i at : ℕ) → i ≡ length ws → Wrote ws lent i at list
    → (at ≡ length (text_of ws)) × (list ≡ text_of ws ++ drop (length (text_of ws)) lent)
unfolding text_from
wrote-all ws lent list i at end w =
    let all : text_of ws ≡ take at list = w.whole ∙ rw (end, drop-length, append-nil) in
    let size : length (take at list) ≡ at = length-take-le at list (omega (arith, w.size, w.room)) in
    (sym (ap length all ∙ size), rw (all, size, ← w.behind) (sym (take-append-drop at list)))

-- the answer and what it leaves, with and without room
pub text-written : (ws lent list : List ℕ) (at : ℕ) → word_bytes * length ws ≤ length lent
    → (at ≡ length (text_of ws)) × (list ≡ text_of ws ++ drop (length (text_of ws)) lent)
    → (Some at ≡ written_of ws lent) × (list ≡ text_left ws lent)
unfolding written_of text_left
text-written ws lent list at room all = let roomy = le-leb (word_bytes * length ws) (length lent) room in (rw (roomy, all.0), rw roomy all.1)

pub text-refused : (ws lent : List ℕ) → length lent < word_bytes * length ws → (None ≡ written_of ws lent) × (lent ≡ text_left ws lent)
unfolding written_of text_left
text-refused ws lent short = let tight = lt-leb (word_bytes * length ws) (length lent) short in (rw tight, rw tight)
