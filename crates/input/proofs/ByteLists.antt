-- The bytes of a list of words: how many there are, each by its place, and a list whose head they take word by word.
use mathlib.Core.Path.{◌≡◌, refl, sym}
use Prim.Native.Nat.{ℕ, zero, suc, ◌+◌, ◌*◌, ◌/◌, ◌%◌, ◌<◌}
use native.Mathlib.Nat.{zero-add}
use native.Mathlib.Numerals.{add-one}
use native.Mathlib.Omega.{arith}
use mathlib.Core.List.{List, [], ◌∷◌, ◌++◌}
use lib.ListN.{length, get_or, take, drop, set}
use lib.Seq.{paste-suc}
use Rattle.input.specs.Bytes.{bytes_of}

pub bytes-length : (ws : List ℕ) → length (bytes_of ws) ≡ 2 * length ws
unfolding bytes_of
bytes-length [] = refl
bytes-length (w ∷ ws) = let rest = bytes-length ws in omega arith

-- the bytes of word i
byte_low : (ws : List ℕ) (i : ℕ) → get_or (bytes_of ws) (2 * i) 0 ≡ get_or ws i 0 % 256
unfolding bytes_of
byte_low [] i = refl
byte_low (w ∷ ws) zero = refl
byte_low (w ∷ ws) (suc i) =
    let place : 2 * suc i ≡ suc (suc (2 * i)) = omega arith in
    rw place (byte_low ws i)

byte_high : (ws : List ℕ) (i : ℕ) → get_or (bytes_of ws) (2 * i + 1) 0 ≡ get_or ws i 0 / 256
unfolding bytes_of
byte_high [] i = refl
byte_high (w ∷ ws) zero = refl
byte_high (w ∷ ws) (suc i) =
    let place : 2 * suc i + 1 ≡ suc (suc (2 * i + 1)) = omega arith in
    rw place (byte_high ws i)

-- a list whose head the bytes have taken up to a place takes the byte there
byte_next : (ws before : List ℕ) (k b : ℕ) → k < 2 * length ws → k < length before → b ≡ get_or (bytes_of ws) k 0
    → set (take k (bytes_of ws) ++ drop k before) k b ≡ take (k + 1) (bytes_of ws) ++ drop (k + 1) before
byte_next ws before k b h room e =
    let l = bytes-length ws in
    rw (add-one, e) (simp zero-add at (paste-suc before 0 (bytes_of ws) k 0 (omega arith) (omega arith)))

-- and both bytes of a word
pub bytes_next : (ws before : List ℕ) (i : ℕ) → i < length ws → 2 * i + 1 < length before
    → set (set (take (2 * i) (bytes_of ws) ++ drop (2 * i) before) (2 * i) (get_or ws i 0 % 256)) (2 * i + 1) (get_or ws i 0 / 256)
    ≡ take (2 * (i + 1)) (bytes_of ws) ++ drop (2 * (i + 1)) before
bytes_next ws before i h room =
    let past : 2 * (i + 1) ≡ 2 * i + 1 + 1 = omega arith in
    rw (byte_next ws before (2 * i) _ (omega arith) (omega arith) (sym (byte_low ws i)), past)
    (byte_next ws before (2 * i + 1) _ (omega arith) room (sym (byte_high ws i)))
