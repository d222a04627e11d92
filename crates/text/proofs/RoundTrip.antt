-- The text written for a list of words is read back as that list.
use mathlib.Core.Path.{◌≡◌, refl, ap, ◌∙◌}
use Prim.Native.Nat.{ℕ, zero, suc, ◌+◌, ◌-◌, ◌*◌, ◌%◌, ◌^◌, ◌≤◌, ◌<◌}
use native.Mathlib.Omega.{arith}
use mathlib.Core.List.{List, [], ◌∷◌, ◌++◌, append_assoc}
use mathlib.Core.Bool.{Bool, true, false, cond, ◌||◌}
use lib.ListN.{length, get_or}
use lib.Dec.{eqb}
use borrow.Author.Tests.{le-leb, ne_eqb}
use Rattle.text.specs.Texts.{Read, words, with_word, number, gap, sort_of, next, uncommented, reading, reading_of}
use Rattle.std.specs.Fmt.{decimal}
use Rattle.std.proofs.lemmas.Fmt.{decimal_by_steps, decimal_nonempty}
use Rattle.text.specs.Layout.{ender_of, text_from, text_of}
use Rattle.text.specs.declared.read.Place.{Place}
use Rattle.text.specs.declared.reader.Sort.TheVariants.{Blank, Digit}

-- ---- digits

-- bytes that are digits
abbrev Digits : List ℕ → Type 0
Digits [] = Unit {0}
Digits (b ∷ bs) = (48 ≤ b) × (b ≤ 57) × Digits bs

-- the number that digits make behind a number
value : ℕ → List ℕ → ℕ
value n [] = n
value n (b ∷ bs) = value (10 * n + (b - 48)) bs

digits-snoc : (bs : List ℕ) (d : ℕ) → Digits bs → d < 10 → Digits (bs ++ ((48 + d) ∷ []))
digits-snoc [] d h small = (omega arith, omega arith, tt)
digits-snoc (b ∷ bs) d h small = (h.0, h.1, digits-snoc bs d h.2 small)

value-snoc : (bs : List ℕ) (n d : ℕ) → value n (bs ++ ((48 + d) ∷ [])) ≡ 10 * value n bs + d
unfolding value
value-snoc [] n d = omega arith
value-snoc (b ∷ bs) n d = value-snoc bs (10 * n + (b - 48)) d

value_grows : (bs : List ℕ) (n : ℕ) → n ≤ value n bs
unfolding value
value_grows [] n = omega arith
value_grows (b ∷ bs) n = omega (arith, value_grows bs (10 * n + (b - 48)))

-- a number's decimal digits are digits and make the number
abbrev Spelled : ℕ → List ℕ → Type 0
Spelled n bs = Digits bs × (value 0 bs ≡ n)

spelled : (n : ℕ) → n < 2 ^ 64 → Spelled n (decimal n)
unfolding value
spelled n small =
    decimal_by_steps Spelled (λ n h. ((omega arith, omega arith, tt), omega arith))
    (λ n bs h head. (digits-snoc bs (n % 10) head.0 (omega arith), value-snoc bs 0 (n % 10) ∙ rw head.1 (omega arith)))
    n small

-- ---- reading

digit-sort : (b : ℕ) → 48 ≤ b → b ≤ 57 → sort_of b ≡ Digit (b - 48)
unfolding sort_of
digit-sort b low high =
    let apart : (k : ℕ) → (b ≡ k → ⊥) → eqb b k ≡ false = ne_eqb b in
    simp (apart 32 (λ e. omega arith), apart 9 (λ e. omega arith), apart 13 (λ e. omega arith), apart 10 (λ e. omega arith), le-leb 48 b low, le-leb b 57 high)

ender-sort : (i left : ℕ) → sort_of (ender_of i left) ≡ Blank
unfolding sort_of
ender-sort i left = by (eqb (i % 10) 0 || eqb left 0)
  where
    by : (newline : Bool) → sort_of (cond newline 10 32) ≡ Blank
    by true = refl
    by false = refl

-- digits behind a number, and then what is read of the rest
reads-digits : (bs rest : List ℕ) (from : Place) (n room : ℕ) (read : Read) → Digits bs → value n bs ≤ 65535
    → ((at : Place) → reading rest (number from (value n bs)) room at ≡ read)
    → (at : Place) → reading (bs ++ rest) (number from n) room at ≡ read
unfolding value reading
reads-digits [] rest from n room read h most on at = on at
reads-digits (b ∷ bs) rest from n room read h most on at =
    let below : 10 * n + (b - 48) ≤ 65535 = omega (arith, value_grows bs (10 * n + (b - 48))) in
    rw (digit-sort b h.0 h.1, le-leb _ _ below, reading) (reads-digits bs rest from (10 * n + (b - 48)) room read h.2 most on (next at b))

-- digits behind a gap
reads-number : (bs rest : List ℕ) (room : ℕ) (read : Read) → 0 < length bs → Digits bs → value 0 bs ≤ 65535
    → ((from at : Place) → reading rest (number from (value 0 bs)) room at ≡ read)
    → (at : Place) → reading (bs ++ rest) gap (suc room) at ≡ read
unfolding value reading
reads-number [] rest room read some h most on at = absurd (omega arith)
reads-number (b ∷ bs) rest room read some h most on at =
    let first : 10 * 0 + (b - 48) ≡ b - 48 = omega arith in
    rw (digit-sort b h.0 h.1, reading)
    (reads-digits bs rest at (b - 48) room read h.2 (rw first at most) (λ there. rw first at (on at there)) (next at b))

-- ---- no byte of a written text belongs to a comment

plain-digits : (bs rest : List ℕ) → Digits bs → uncommented false (bs ++ rest) ≡ bs ++ uncommented false rest
unfolding uncommented
plain-digits [] rest h = refl
plain-digits (b ∷ bs) rest h = rw (ne_eqb b 10 (λ e. omega arith), ne_eqb b 35 (λ e. omega arith)) (ap (◌∷◌ b) (plain-digits bs rest h.2))

plain-ender : (i left : ℕ) (rest : List ℕ) → uncommented false (ender_of i left ∷ rest) ≡ ender_of i left ∷ uncommented false rest
unfolding uncommented
plain-ender i left rest = by (eqb (i % 10) 0 || eqb left 0)
  where
    by : (newline : Bool) → uncommented false (cond newline 10 32 ∷ rest) ≡ cond newline 10 32 ∷ uncommented false rest
    by true = refl
    by false = refl

-- ---- the theorem

word_read : (w i left room : ℕ) (rest ws : List ℕ) → w < 65536 → ((at : Place) → reading rest gap room at ≡ words ws)
    → (at : Place) → reading (decimal w ++ (ender_of i left ∷ rest)) gap (suc room) at ≡ words (w ∷ ws)
unfolding reading with_word
word_read w i left room rest ws small on at =
    let (digits, same) = spelled w (omega arith) in
    reads-number (decimal w) (ender_of i left ∷ rest) room (words (w ∷ ws)) (decimal_nonempty w (omega arith)) digits (omega arith)
    (λ from there. rw (ender-sort i left, on, same, reading)) at

written_read : (ws : List ℕ) (k room : ℕ) → length ws ≤ room → ((i : ℕ) → get_or ws i 0 < 65536)
    → (at : Place) → reading (uncommented false (text_from k ws)) gap room at ≡ words ws
unfolding text_from uncommented reading
written_read [] k room fits small at = refl
written_read (w ∷ ws) k zero fits small at = absurd (omega arith)
written_read (w ∷ ws) k (suc room) fits small at =
    let (digits, same) = spelled w (let few = small 0 in omega arith) in
    rw (append_assoc, plain-digits (decimal w) _ digits, plain-ender k (length ws))
    (word_read w k (length ws) room _ ws (small 0) (written_read ws (suc k) room (omega arith) (λ i. small (suc i))) at)

-- the text written for words of 16 bits is read back as those words, where there is room for them
pub read_back : (ws : List ℕ) (room : ℕ) → length ws ≤ room → ((i : ℕ) → get_or ws i 0 < 65536) → reading_of room (text_of ws) ≡ words ws
unfolding reading_of text_of
read_back ws room fits small = written_read ws 1 room fits small (record { line = 1; column = 1 })
