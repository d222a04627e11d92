-- `all` meets its contract: each place has `none`.
use native.Mathlib.Omega.{arith}
use mathlib.Core.List.{[]}
use Rattle.comparison.specs.inner.Sizes.{line_places}
use Rattle.comparison.proofs.Lines.{padded}
use Rattle.comparison.proofs.needed.Table.all.Goals as goal

pub returns : goal.returns
returns g c k = padded [] line_places k (omega arith)
