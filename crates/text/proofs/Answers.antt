-- What the answer to a text says of its reading and of the lent words, for whoever calls `words_of_text`.
use Rattle.std.specs.Prelude.{Ok, Err}
use mathlib.Core.Path.{◌≡◌, refl, ap}
use Prim.Native.Nat.{ℕ, ◌≤◌}
use native.Mathlib.Omega.{arith}
use mathlib.Core.List.{List}
use lib.ListN.{length, take, drop, length-append, length-drop}
use lib.Seq.{take-append_seam}
use Rattle.text.specs.Texts.{Read, words, fault, answer_of, left_of}
use Rattle.text.specs.declared.read.Fault.{Fault}

-- an answer of so many words: they are the text's, and stand at the head of the lent ones
pub record Got (read : Read) (count : ℕ) (left : List ℕ) : Type 0 where
  pub ws : List ℕ
  pub is : read ≡ words ws
  pub counted : count ≡ length ws
  pub fits : count ≤ length left
  pub head : take count left ≡ ws

pub got-words : (read : Read) (count : ℕ) (lent left : List ℕ) → Ok count ≡ answer_of read → left ≡ left_of read lent
    → length left ≡ length lent → Got read count left
unfolding answer_of left_of
got-words (words ws) count lent left e is size =
    let counted : count ≡ length ws = cc in
    record {
      ws = ws;
      is = refl;
      counted = counted;
      fits = omega (arith, simp (length-append, length-drop) at (ap length is));
      head = rw (is, counted) (take-append_seam ws (drop (length ws) lent));
    }
got-words (fault kind at) count lent left e is size = absurd (let z : ◌≡◌ {A = ℕ} 0 1 = cc in omega arith)

pub got_fault : (read : Read) (found : Fault) → Err found ≡ answer_of read → read ≡ fault found.kind found.at
unfolding answer_of
got_fault (words ws) found e = absurd (let z : ◌≡◌ {A = ℕ} 0 1 = cc in omega arith)
got_fault (fault kind at) found e = cc
