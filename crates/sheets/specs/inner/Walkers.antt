-- What a walker hands out, the records of its chain, and how it goes along them.
use Rattle.std.specs.Prelude.{◌≡◌, ◌⊎◌, ℕ, ◌-◌, List, Option, MatchOption, map}
use Rattle.sheets.specs.Words.{chain}
use Rattle.sheets.specs.Records.{record_word, record_at}
use Rattle.sheets.specs.declared.walker.Record.{Record}
use Rattle.sheets.specs.declared.walker.Walker.{Walker}

-- the chain from record x on, of which `left` records are read, where `read x k` is word k of record x
abbrev pub records : (ℕ → ℕ → ℕ) → ℕ → ℕ → ℕ → List Record
records read width left x = map (record_at read width) (chain left (λ y. read y (width - 1)) x)

-- the records that a walker has still to hand out
abbrev pub ahead : Walker → List Record
ahead w = records (record_word w.words.now w.base w.width) w.width w.left w.at

-- a walker has handed out its last record: it may read no more, or its chain has no more
abbrev pub IsOver : Walker → Type 0
IsOver w = (w.left ≡ 0) ⊎ (w.at ≡ 0)

-- the record that a walker is at
abbrev pub present : Walker → Record
present w = record_at (record_word w.words.now w.base w.width) w.width w.at

-- a walker moved to another record of its chain, and so with one record less to read
abbrev pub moved_to : Walker → ℕ → Walker
moved_to w at = record { words = w.words; base = w.base; width = w.width; at = at; left = w.left - 1 }

-- One step: a walker that is over hands out nothing and stays as it is; else it hands out its present record, and moves to the one that this
-- record links to.
abbrev pub Steps : Walker → Option Record → Walker → Type 0
Steps w r v = MatchOption r (IsOver w × (v ≡ w)) (λ s. (IsOver w → ⊥) × (s ≡ present w) × (v ≡ moved_to w s.next))
