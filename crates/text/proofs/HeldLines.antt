-- A line with bytes more: what its array then is, what it then shows, and what a line that holds a text then holds.
use mathlib.Core.Path.{◌≡◌, refl, sym, ap, ◌∙◌}
use Prim.Native.Nat.{ℕ, suc, ◌+◌, ◌-◌, ◌≤◌, ◌<◌, min}
use native.Mathlib.Omega.{arith}
use native.Mathlib.Decide.{dec_lt}
use mathlib.Core.Logic.{by_cases}
use mathlib.Core.List.{List, [], ◌∷◌, ◌++◌, append_assoc, append-nil}
use lib.ListN.{length, replicate, set, take, drop, length-append, length-set, length-take, take-append-drop}
use lib.Seq.{take_all, take_at, drop-drop, drop-set-lt, set-append_seam}
use borrow.Author.Tests.{lt-ltb, le-ltb}
use borrow.Rule.Slice.PartMut.{put_mid}
use Rattle.std.proofs.lemmas.List.{take_more_set, take_min}
use Rattle.text.specs.declared.line.Line.{Line}
use Rattle.text.specs.Lines.{line_room, shown, Holds, with_byte, with_bytes, Adds}

module _ (line : Line) (byte : ℕ) where
  abbrev longer : Line
  longer = record { bytes = set line.bytes line.len byte; len = line.len + 1 }

  -- a line with room takes a byte, and a full one stays as it is
  byte-taken : line.len < line_room → with_byte line byte ≡ longer
  unfolding with_byte
  byte-taken room = rw (lt-ltb line.len line_room room) refl

  byte-refused : line_room ≤ line.len → with_byte line byte ≡ line
  unfolding with_byte
  byte-refused full = rw (le-ltb line.len line_room full) refl

pub adds_then : (a b c : Line) (xs ys : List ℕ) → Adds a xs b → Adds b ys c → Adds a (xs ++ ys) c
unfolding with_bytes
adds_then a b c [] ys f g = g ∙ ap (λ (l : Line). with_bytes l ys) f
adds_then a b c (x ∷ xs) ys f g = adds_then (with_byte a x) b c xs ys f g

-- ---- the array

same_line : (a b : Line) → a.bytes ≡ b.bytes → a.len ≡ b.len → a ≡ b
same_line a b p q i = record { bytes = p i; len = q i }

-- one byte stored, and those after it behind it
put_first : (xs more : List ℕ) (at byte n : ℕ) → at < length xs
    → put_mid (at + 1) n (set xs at byte) (take n more) ≡ put_mid at (suc n) xs (take (suc n) (byte ∷ more))
put_first xs more at byte n h =
    let past : at + 1 + n ≡ at + suc n = omega arith in
    ap (λ ys. ys ++ (take n more ++ drop n (drop (at + 1) (set xs at byte)))) (take_more_set xs at byte h)
    ∙ append_assoc (take at xs) (byte ∷ []) (take n more ++ drop n (drop (at + 1) (set xs at byte)))
    ∙ ap (λ ys. take at xs ++ (byte ∷ (take n more ++ ys)))
    (drop-drop n (at + 1) (set xs at byte) ∙ drop-set-lt (at + 1 + n) xs at byte (omega arith) ∙ ap (λ k. drop k xs) past ∙ sym (drop-drop (suc n) at xs))

-- as many of the bytes as there is a place for stand in the array from the line's end on
array : (line : Line) (more : List ℕ) (start count : ℕ) → length line.bytes ≡ line_room → start ≡ min line.len line_room
    → count ≡ min (length more) (line_room - start)
    → with_bytes line more ≡ record { bytes = put_mid start count line.bytes (take count more); len = line.len + count }
unfolding with_bytes
array line [] start count size from counted =
    let none : count ≡ 0 = omega arith in
    same_line _ _ (sym (ap (λ n. put_mid start n line.bytes (take n [])) none ∙ take-append-drop start line.bytes)) (omega arith)
array line (byte ∷ more) start count size from counted =
    by_cases (dec_lt line.len line_room)
    (λ room.
    let here : line.len ≡ start = omega arith in
    let one : suc (count - 1) ≡ count = omega arith in
    ap (λ (l : Line). with_bytes l more) (byte-taken line byte room)
    ∙ array (longer line byte) more (line.len + 1) (count - 1) (length-set line.bytes line.len byte ∙ size) (omega arith) (omega arith)
    ∙ same_line _ _
    (put_first line.bytes more line.len byte (count - 1) (omega arith)
    ∙ ap (λ n. put_mid line.len n line.bytes (take n (byte ∷ more))) one ∙ ap (λ k. put_mid k count line.bytes (take count (byte ∷ more))) here)
    (omega arith))
    (λ full.
    let none : 0 ≡ count = omega arith in
    ap (λ (l : Line). with_bytes l more) (byte-refused line byte (omega arith))
    ∙ array line more start 0 size from (omega arith)
    ∙ same_line _ _ (ap (λ n. put_mid start n line.bytes (take n (byte ∷ more))) none) (omega arith))

pub adds-array : (line : Line) (more part : List ℕ) (start count k len : ℕ) → length line.bytes ≡ line_room → start ≡ min line.len line_room
    → count ≡ min (length more) (line_room - start) → k ≡ count → part ≡ take count more → len ≡ line.len + count
    → Adds line more (record { bytes = put_mid start k line.bytes part; len = len })
adds-array line more part start count k len size from counted gap is longer =
    rw (gap, is, longer) (sym (array line more start count size from counted))

-- ---- what a line shows

pub shows-added : (line : Line) (more : List ℕ) → length line.bytes ≡ line_room → shown (with_bytes line more) ≡ take line_room (shown line ++ more)
unfolding with_bytes
shows-added line [] size = rw append-nil (sym (take_all line_room (shown line) (omega (arith, length-take line.len line.bytes))))
shows-added line (byte ∷ more) size =
    by_cases (dec_lt line.len line_room)
    (λ room.
    ap (λ (l : Line). shown (with_bytes l more)) (byte-taken line byte room)
    ∙ shows-added (longer line byte) more (length-set line.bytes line.len byte ∙ size)
    ∙ ap (λ xs. take line_room (xs ++ more)) (take_more_set line.bytes line.len byte (omega arith))
    ∙ ap (take line_room) (append_assoc (shown line) (byte ∷ []) more))
    (λ full.
    let whole : length (shown line) ≡ line_room = omega (arith, length-take line.len line.bytes) in
    ap (λ (l : Line). shown (with_bytes l more)) (byte-refused line byte (omega arith))
    ∙ shows-added line more size ∙ take_at (shown line) more line_room whole ∙ sym (take_at (shown line) (byte ∷ more) line_room whole))

-- it is no more than the array
pub shows_array : (line : Line) (end : ℕ) → length line.bytes ≡ line_room → end ≡ min line.len line_room → take end line.bytes ≡ shown line
shows_array line end size is = ap (λ n. take n line.bytes) (is ∙ ap (min line.len) (sym size)) ∙ take_min line.len line.bytes

-- ---- a line that holds a text

holding : (line : Line) (text : List ℕ) → line.len ≡ length text → length text ≤ line_room
    → line.bytes ≡ text ++ replicate (line_room - length text) 0 → Holds line text
holding line text len fits bytes = record {
  len = len;
  fits = fits;
  bytes = bytes;
  shows = rw (len, bytes) (take_at text (replicate (line_room - length text) 0) (length text) refl);
}

-- a byte stored past the text makes the text one longer
stored : (text : List ℕ) (byte left : ℕ) → set (text ++ replicate (suc left) 0) (length text) byte ≡ (text ++ (byte ∷ [])) ++ replicate left 0
stored text byte left = set-append_seam text 0 (replicate left 0) byte ∙ simp append_assoc

holds_more : (line : Line) (text : List ℕ) (byte : ℕ) → Holds line text → length text < line_room → Holds (with_byte line byte) (text ++ (byte ∷ []))
holds_more line text byte h room =
    let left : line_room - length text ≡ suc (line_room - (length text + 1)) = omega arith in
    rw (byte-taken line byte (omega (arith, h.len)))
    (holding _ (text ++ (byte ∷ [])) (simp length-append (omega (arith, h.len))) (simp length-append (omega arith))
    (rw (h.bytes, h.len, left, length-append) (stored text byte (line_room - (length text + 1)))))

-- the second line holds the first one's text and what is added, as far as there is a place for it
pub holds_cut : (before after : Line) (text more : List ℕ) → Holds before text → Adds before more after → Holds after (take line_room (text ++ more))
unfolding with_bytes
holds_cut before after text [] h is = rw (is, append-nil, take_all line_room text h.fits) h
holds_cut before after text (byte ∷ more) h is =
    by_cases (dec_lt (length text) line_room)
    (λ room.
    rw (← append_assoc text (byte ∷ []) more)
    (holds_cut (with_byte before byte) after (text ++ (byte ∷ [])) more (holds_more before text byte h room) is))
    (λ full.
    let whole : length text ≡ line_room = omega (arith, h.fits) in
    let same = byte-refused before byte (omega (arith, h.len)) in
    rw (take_at text (byte ∷ more) line_room whole)
    (rw (take_at text more line_room whole) at (holds_cut before after text more h (is ∙ ap (λ (l : Line). with_bytes l more) same))))

-- all of it, where there is a place for all
pub holds-added : (before after : Line) (text more : List ℕ) → Holds before text → Adds before more after → length text + length more ≤ line_room
    → Holds after (text ++ more)
holds-added before after text more h is room =
    rw (take_all line_room (text ++ more) (omega (arith, length-append text more))) at (holds_cut before after text more h is)
