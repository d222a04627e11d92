-- Pages: what is put behind a cursor leaves what stands before it, and lines stay narrow and few.
use Rattle.std.proofs.Common.{◌≡◌, ℕ, zero, suc, ◌+◌, ◌-◌, ◌<◌, ◌≤◌, cond, eqb, List, ◌++◌, append_assoc, length, length-take-le, take, get_or, get_or-take, set, sym, refl, ◌∙◌, ap, ap₂, add-one, arith, length-set, get_or-set_other, get_or-set_same, eq-eqb, ne_eqb}
use Rattle.std.proofs.lemmas.Fmt.{contents_after_writes}
use Rattle.std.specs.Fmt.{WritesText, AppendsText}
use Rattle.std.specs.Option.{SomeIff, IfSome}
use Rattle.std.specs.declared.option.Option.{Option}
use Rattle.std.specs.declared.option.Option.TheVariants.{None, Some}
use native.Mathlib.Decide.{dec_le}
use mathlib.Core.Logic.{by_cases}
use Rattle.sentences.specs.Pages.{page_size, page_width, page_height, column, ended, Narrow, Laid, Kept}

-- ---- the same bytes

module _ (page other : List ℕ) (n : ℕ) (same : (i : ℕ) → i < n → get_or other i 0 ≡ get_or page i 0) where
  column-same : (i : ℕ) → i ≤ n → column other i ≡ column page i
  unfolding column
  column-same zero h = refl
  column-same (suc i) h =
      let below : i ≤ n = omega arith in
      ap₂ (λ (b k : ℕ). cond (eqb b 10) 0 (suc k)) (same i h) (column-same i below)

  ended_same : (i : ℕ) → i ≤ n → ended other i ≡ ended page i
  unfolding ended
  ended_same zero h = refl
  ended_same (suc i) h =
      let below : i ≤ n = omega arith in
      ap₂ (λ (b k : ℕ). cond (eqb b 10) (suc k) k) (same i h) (ended_same i below)

  narrow-same : Narrow page n → Narrow other n
  narrow-same x = record {
    inside = x.inside;
    narrow = λ i h. rw (column-same i h) (x.narrow i h);
    few = rw (ended_same n (omega arith)) x.few;
  }

-- ---- one byte more

module _ (page : List ℕ) (at width height byte : ℕ) (x : Laid page at width height) (room : at < page_size) where
  abbrev more : List ℕ
  more = set page at byte

  kept-below : (i : ℕ) → i < at → get_or more i 0 ≡ get_or page i 0
  kept-below i h = get_or-set_other page at i byte 0 (λ e. omega arith)

  byte-there : get_or more at 0 ≡ byte
  byte-there = let z = x.size in get_or-set_same page at byte 0 (omega arith)

  column-there : column more at ≡ width
  column-there = column-same page more at kept-below at (omega arith) ∙ x.column

  ended-there : ended more at ≡ height
  ended-there = ended_same page more at kept-below at (omega arith) ∙ x.ended

  column-next : column more (at + 1) ≡ cond (eqb byte 10) 0 (suc width)
  unfolding column
  column-next = rw (add-one, byte-there, column-there)

  ended-next : ended more (at + 1) ≡ cond (eqb byte 10) (suc height) height
  unfolding ended
  ended-next = rw (add-one, byte-there, ended-there)

  module _ (w h : ℕ) (col : cond (eqb byte 10) 0 (suc width) ≡ w) (lines : cond (eqb byte 10) (suc height) height ≡ h) where
    laid_more : w ≤ page_width → h ≤ page_height → Laid more (at + 1) w h
    laid_more narrow few =
        let z = x.size in
        let cn = column-next ∙ col in
        let en = ended-next ∙ lines in
        let still = narrow-same page more at kept-below x.above in
        record {
          size = length-set page at byte ∙ z;
          above = record {
            inside = omega arith;
            narrow = λ i u.
                by_cases (dec_le i at) (λ l. still.narrow i l)
                (λ l. let e : i ≡ at + 1 = omega arith in rw (e, cn) narrow);
            few = rw en few;
          };
          column = cn;
          ended = en;
        }

  -- a byte that ends no line
  pub laid_byte : (byte ≡ 10 → ⊥) → width < page_width → Laid more (at + 1) (width + 1) height
  laid_byte other narrow =
      let e = ne_eqb byte 10 other in
      let few = x.above.few in
      let en = x.ended in
      laid_more _ _ (rw e (sym (add-one width))) (rw e refl) (omega arith) (omega arith)

  -- a line end
  pub laid_end : byte ≡ 10 → height < page_height → Laid more (at + 1) 0 (height + 1)
  laid_end ends few =
      let e = eq-eqb byte 10 ends in
      laid_more _ _ (rw e refl) (rw e (sym (add-one height))) (omega arith) (omega arith)

-- ---- the text

-- no byte of a page
pub narrow-none : (page : List ℕ) → Narrow page 0
unfolding column ended
narrow-none page = record {
  inside = omega arith;
  narrow = λ i h. let e : i ≡ 0 = omega arith in rw e (omega arith);
  few = omega arith;
}

pub laid_none : (page : List ℕ) → length page ≡ page_size → Laid page 0 0 0
unfolding column ended
laid_none page size = record { size = size; above = narrow-none page; column = refl; ended = refl }

-- the bytes alone, without those behind them
pub narrow_text : (page : List ℕ) (n : ℕ) → Narrow page n → n ≤ length page → Narrow (take n page) (length (take n page))
narrow_text page n x inside =
    rw (length-take-le n page inside)
    (narrow-same page (take n page) n (λ i h. get_or-take n page i 0 h) x)

pub ended_text : (page : List ℕ) (n : ℕ) → n ≤ length page → ended (take n page) (length (take n page)) ≡ ended page n
ended_text page n inside =
    rw (length-take-le n page inside)
    (ended_same page (take n page) n (λ i h. get_or-take n page i 0 h) n (omega arith))

-- ---- what is put

-- one step after another
pub kept_then : {before between after : List ℕ} → Kept before between → Kept between after → Kept before after
kept_then x y = record {
  more = x.more ++ y.more;
  behind = y.behind ∙ ap (λ bytes. bytes ++ y.more) x.behind ∙ append_assoc _ x.more y.more;
}

-- what was written call by call stands behind what was there
pub appends_written : (o : Option (List ℕ)) (before after : List ℕ) → WritesText (λ x bytes y. y ≡ x ++ bytes) before o after → AppendsText before after o
appends_written None before after w = tt
appends_written (Some bytes) before after w = contents_after_writes _ (λ x. x) (λ _ _ _ t. t) before bytes after w

-- ---- the room of a line

-- the last line of the text alone
pub column-text : (page : List ℕ) (n : ℕ) → n ≤ length page → column (take n page) (length (take n page)) ≡ column page n
column-text page n inside =
    rw (length-take-le n page inside)
    (column-same page (take n page) n (λ i h. get_or-take n page i 0 h) n (omega arith))

-- what is left of it behind words that it has room for
pub room-left : (o : Option ℕ) (width taken : ℕ) → width ≤ page_width → SomeIff o (taken ≤ page_width - width) (page_width - width - taken) → IfSome o (λ room. width + room ≤ page_width)
room-left None width taken narrow left = tt
room-left (Some room) width taken narrow left = omega (arith, left.0, left.1)
