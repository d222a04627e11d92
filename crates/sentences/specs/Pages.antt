-- A page of text: how long its lines are, how many are ended, and what stays as text is put behind it; and words that are formed before they
-- are put.
use Rattle.std.specs.Prelude.{◌≡◌, ℕ, zero, suc, ◌*◌, ◌≤◌, cond, List, ◌++◌, length, replicate, ◌==◌, slice_index}

-- how many bytes a page has, how many a line before its end, and how many lines a page
abbrev pub page_size : ℕ
page_size = 4096

abbrev pub page_width : ℕ
page_width = 100

abbrev pub page_height : ℕ
page_height = 40

-- how many bytes stand between the last line end before place i and place i; a line ends with byte 10
unfoldable pub column : List ℕ → ℕ → ℕ
column page zero = 0
column page (suc i) = cond (slice_index page i == 10) 0 (suc (column page i))

-- how many lines end before place i
unfoldable pub ended : List ℕ → ℕ → ℕ
ended page zero = 0
ended page (suc i) = cond (slice_index page i == 10) (suc (ended page i)) (ended page i)

-- the first n bytes: no line is too long, and not too many are ended
pub record Narrow (page : List ℕ) (n : ℕ) : Type 0 where
  pub inside : n ≤ page_size
  pub narrow : (i : ℕ) → i ≤ n → column page i ≤ page_width
  pub few : ended page n ≤ page_height

-- such bytes, of which the last line is so long and so many are ended
pub record Laid (page : List ℕ) (n width height : ℕ) : Type 0 where
  pub size : length page ≡ page_size
  pub above : Narrow page n
  pub column : column page n ≡ width
  pub ended : ended page n ≡ height

-- what stands before stays, and more may stand behind it
pub record Kept (before after : List ℕ) : Type 0 where
  pub more : List ℕ
  pub behind : after ≡ before ++ more

-- two blanks for each level
abbrev pub blanks : ℕ → List ℕ
blanks level = replicate (2 * level) 32

-- words of n bytes, which a line has room for
pub record Formed (bytes : List ℕ) (n : ℕ) : Type 0 where
  pub size : length bytes ≡ page_width
  pub fits : n ≤ page_width
