-- What the program's arguments ask for: a line and a node, each a number in decimal digits, and nothing else beside them.
use Rattle.std.specs.Prelude.{ℕ, ◌+◌, ◌-◌, ◌*◌, List, [], ◌∷◌, cond, ◌&&◌, leb, eqb, Option, Some, None}
use Rattle.path.specs.declared.arguments.Asked.{Asked}

-- digits behind a number: each byte is one of the ten, 48 to 57 in ASCII, and the number stays below 65,536
unfoldable pub digits_behind : ℕ → List ℕ → Option ℕ
digits_behind n [] = Some n
digits_behind n (b ∷ bytes) = cond (leb 48 b && leb b 57 && leb (10 * n + (b - 48)) 65535) (digits_behind (10 * n + (b - 48)) bytes) None

-- an argument: at least one digit
unfoldable pub argument_of : List ℕ → Option ℕ
argument_of [] = None
argument_of (b ∷ bytes) = digits_behind 0 (b ∷ bytes)

unfoldable pub both : Option ℕ → Option ℕ → Option Asked
both (Some j) (Some s) = Some (record { line = j; node = s })
both (Some j) None = None
both None _ = None

-- the number of the program's words, its own name among them, and the two after that
unfoldable pub asked_of : ℕ → List ℕ → List ℕ → Option Asked
asked_of count first second = cond (eqb count 3) (both (argument_of first) (argument_of second)) None
