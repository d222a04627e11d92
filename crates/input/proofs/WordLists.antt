-- The words of a list of bytes: how many there are, each by its place, and a list whose head they take one after the other.
use mathlib.Core.Path.{◌≡◌, refl, ap, subst⁻¹, ◌∙◌}
use Prim.Native.Nat.{ℕ, zero, suc, ◌+◌, ◌*◌, ◌/◌, ◌%◌, ◌<◌, ◌≤◌, min}
use native.Mathlib.Nat.{zero-add}
use native.Mathlib.Numerals.{add-one}
use native.Mathlib.Omega.{arith}
use mathlib.Core.List.{List, [], ◌∷◌, ◌++◌}
use lib.ListN.{length, get_or, take, drop, set}
use lib.Seq.{paste-suc, take_all, take_at}
use mathlib.Core.Bool.{true}
use lib.Dec.{T, leb, eqb, leb→le}
use Rattle.sheets.proofs.Tests.{and_left}
use Rattle.input.specs.Bytes.{readable, word_of, words_of}

pub words-length : (bytes : List ℕ) → length (words_of bytes) ≡ length bytes / 2
unfolding words_of
words-length [] = refl
words-length (low ∷ []) = refl
words-length (low ∷ high ∷ bytes) = ap suc (words-length bytes) ∙ omega arith

-- word i is made of the bytes 2i and 2i + 1
words-at : (bytes : List ℕ) (i : ℕ) → i < length bytes / 2
    → get_or (words_of bytes) i 0 ≡ word_of (get_or bytes (2 * i) 0) (get_or bytes (2 * i + 1) 0)
unfolding words_of
words-at [] i h = absurd (omega arith)
words-at (low ∷ []) i h = absurd (omega arith)
words-at (low ∷ high ∷ bytes) zero h = refl
words-at (low ∷ high ∷ bytes) (suc i) h =
    let low-place : suc (suc (2 * i)) ≡ 2 * suc i = omega arith in
    let high-place : suc (suc (2 * i + 1)) ≡ 2 * suc i + 1 = omega arith in
    let at : ℕ → ℕ = λ k. get_or (low ∷ high ∷ bytes) k 0 in
    let here : get_or (words_of bytes) i 0 ≡ word_of (at (suc (suc (2 * i)))) (at (suc (suc (2 * i + 1)))) = words-at bytes i (omega arith) in
    here ∙ ap (λ (k : ℕ). word_of (at k) (at (suc (suc (2 * i + 1))))) low-place ∙ ap (λ (k : ℕ). word_of (at (2 * suc i)) (at k)) high-place

-- a list whose head the words have taken up to i takes word i
pub words-next : (bytes before : List ℕ) (i w : ℕ) → i < length bytes / 2 → i < length before
    → w ≡ word_of (get_or bytes (2 * i) 0) (get_or bytes (2 * i + 1) 0)
    → set (take i (words_of bytes) ++ drop i before) i w ≡ take (i + 1) (words_of bytes) ++ drop (i + 1) before
words-next bytes before i w h room e =
    let l = words-length bytes in
    rw (add-one, e, ← words-at bytes i) (simp zero-add at (paste-suc before 0 (words_of bytes) i 0 (omega arith) (omega arith)))

-- where there is space for all the words, the head of the list is all of them
pub words-all : (bytes before after : List ℕ) (n : ℕ) → length bytes / 2 ≤ length before → n ≡ min (length bytes / 2) (length before)
    → after ≡ take n (words_of bytes) ++ drop n before → take n after ≡ words_of bytes
words-all bytes before after n room counted e =
    let count = words-length bytes in
    let all : length (words_of bytes) ≡ n = omega arith in
    rw (e, take_all n (words_of bytes) (omega arith)) (take_at (words_of bytes) (drop n before) n all)

readable-most : (most count : ℕ) → readable most count ≡ true → count ≤ most
readable-most most count ok = leb→le count most (and_left (leb count most) (eqb (count % 2) 0) (subst⁻¹ T ok tt))

-- a readable count of bytes makes no more words than there is space for
pub words-whole : (most : ℕ) (bytes before after : List ℕ) (n : ℕ) → readable most (length bytes) ≡ true → most ≤ 2 * length before
    → n ≡ min (length bytes / 2) (length before) → after ≡ take n (words_of bytes) ++ drop n before → take n after ≡ words_of bytes
words-whole most bytes before after n ok room counted e =
    let few = readable-most most (length bytes) ok in
    words-all bytes before after n (omega arith) counted e
