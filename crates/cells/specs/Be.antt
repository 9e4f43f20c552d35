-- Big-endian numbers of w bytes, and what writing bytes does to a list.
use Rattle.std.specs.Prelude.{◌≡◌, List, [], ◌∷◌, ◌++◌, ℕ, zero, suc, ◌+◌, ◌*◌, ◌/◌, ◌%◌, ◌^◌, ◌<◌, get_or}
use Rattle.std.proofs.lemmas.List.Edits.{sets}

-- the w bytes of s at the place at, as a number; a byte past the end counts as 0
unfoldable pub be : ℕ → List ℕ → ℕ → ℕ
be zero s at = 0
be (suc w) s at = be w s at * 256 + get_or s (at + w) 0

-- the low w bytes of v
unfoldable pub be_bytes : ℕ → ℕ → List ℕ
be_bytes zero v = []
be_bytes (suc w) v = be_bytes w (v / 256) ++ v % 256 ∷ []

-- r is the number of w bytes of s at the place at, and is small
pub record Cell (w : ℕ) (s : List ℕ) (at r : ℕ) : Type 0 where
  pub is : r ≡ be w s at
  pub small : r < 256 ^ w

-- n is l with xs stored from the place at
pub record Wrote (l : List ℕ) (at : ℕ) (xs n : List ℕ) : Type 0 where
  pub is : n ≡ sets l at xs
