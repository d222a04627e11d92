-- Condition 1 of document 002 in the reader's terms: no cycle of edges with nonzero masks, among all states on the automaton's
-- chain, meets an accepting and a non-accepting state. Question 14's computed test is `unmixed`; that it says yes exactly here is
-- the theorem `unmixed-exactly` of proofs/Walks, and of the whole sheet `fourteen-exactly` of proofs/ConditionOne.
use Rattle.std.specs.Prelude.{ℕ, List, not, T}
use Rattle.sheets.specs.Words.{member}
use Rattle.sheets.specs.Rules.{leads, accepting}

-- a nonempty walk along a relation
pub data Walk (may : ℕ → ℕ → Type 0) : ℕ → ℕ → Type 0 where
  step : {p q : ℕ} → may p q → Walk may p q
  more : {p q r : ℕ} → Walk may p q → may q r → Walk may p r

-- an edge with a nonzero mask between two of the states `all`
pub record May (R all : List ℕ) (p q : ℕ) : Type 0 where
  pub from : T (member p all)
  pub to : T (member q all)
  pub leading : T (leads R p q)

-- an accepting and a non-accepting state on one cycle: walks there and back
pub record Mixed (R all : List ℕ) : Type 0 where
  pub accepting-state : ℕ
  pub rejecting-state : ℕ
  pub accepts : T (accepting R accepting-state)
  pub rejects : T (not (accepting R rejecting-state))
  pub there : Walk (May R all) accepting-state rejecting-state
  pub back : Walk (May R all) rejecting-state accepting-state
