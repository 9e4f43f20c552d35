-- The offsets of subtables that lie one after the other, by their lengths.
use Rattle.std.specs.Prelude.{ℕ, ◌+◌, List, [], ◌∷◌, ◌++◌}
use Rattle.cells.specs.Be.{be_bytes}

unfoldable pub offsets_by : ℕ → List ℕ → List ℕ
offsets_by at [] = []
offsets_by at (n ∷ ns) = be_bytes 4 at ++ offsets_by (at + n) ns
