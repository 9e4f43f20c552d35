-- The pairs of glyphs in a map of a table: a map's place of 0 means absent.
use Rattle.std.specs.Prelude.{ℕ, ◌+◌, ◌*◌, ◌<◌, ◌≡◌, List, map, Option, Some, None, MatchOption}
use Rattle.lists.specs.Pick.{pick, differ}
use Rattle.opentype.specs.Map.{outer_of, inner_of}
use Rattle.opentype.specs.Table.{map_at}
use Rattle.rules.specs.Lists.{old_id}
use Rattle.rules.specs.declared.Pair.{Pair}
use Rattle.readers.specs.declared.map.Map.{Map}
use Rattle.sources.specs.declared.named.Source.{Source}

-- the pair of a glyph in the map at a place; an absent map's is the glyph's own number in outer 0
unfoldable pub pair_at : List ℕ → ℕ → ℕ → ℕ
pair_at t at g = pick (differ at 0) (outer_of t at g * 65536 + inner_of t at g) g

-- the pairs of the listed glyphs
unfoldable pub pairs_at : List ℕ → ℕ → List ℕ → List ℕ
pairs_at t at es = map (λ e. pair_at t at (old_id e)) es

-- the same of a map that was found
abbrev pub pair_through : Option Map → ℕ → ℕ
pair_through None g = g
pair_through (Some m) g = outer_of m.bytes.now m.shape.at g * 65536 + inner_of m.bytes.now m.shape.at g

unfoldable pub pair_in : Source → ℕ → ℕ
pair_in src g = pair_through src.map g

unfoldable pub pairs_in : Source → List ℕ → List ℕ
pairs_in src es = map (λ e. pair_in src (old_id e)) es

-- the source is the map m of the table t
abbrev pub IsSource : List ℕ → ℕ → Source → Type 0
IsSource t m src = MatchOption src.map (map_at t m ≡ 0) (λ x. (map_at t m ≡ 0 → ⊥) × (x.bytes.now ≡ t) × (x.shape.at ≡ map_at t m))

-- a pair by its parts: nothing is cut off
pub record Paired (pair : ℕ) (p : Pair) : Type 0 where
  pub is : p.outer * 65536 + p.inner ≡ pair
  pub small : p.inner < 65536
