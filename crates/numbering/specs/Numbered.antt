-- The kept pairs and the numbers of their runs, as they stand in the work area.
use Rattle.std.specs.Prelude.{ℕ, ◌+◌, ◌*◌, ◌<◌, ◌≤◌, ◌≡◌, Bool, true, false, List, [], ◌∷◌, map, ltb, length, get_or, take}
use Rattle.std.specs.Coded.{×_prop, Unit-prop, le_prop}
use Rattle.std.proofs.Props.{props}
use Rattle.lists.specs.Gather.{keep, rank}
use Rattle.lists.specs.Search.{member}
use Rattle.rules.specs.Lists.{outer, twice, runs, most_glyphs}
use Rattle.rules.specs.Open.{most_subtables}
use Rattle.rules.specs.Numbering.{named_pairs, bad_outer, new_outer, new_inner}
use Rattle.laws.specs.Outers.{Climbs}
use Rattle.rules.specs.declared.Pair.{Pair}

-- how many of the pairs have a lower outer: where the outer's run starts
unfoldable pub start_of : List ℕ → ℕ → ℕ
start_of ps o = length (keep (λ p. ltb (outer p) o) ps)

-- the outer has a run
unfoldable pub used : List ℕ → ℕ → Bool
used ps o = member o (map (λ p. outer p) ps)

-- the first n numbers are pairs whose outers don't fall, none twice; the start and the new number of each outer's run stand behind
pub record Numbered (w : List ℕ) (n : ℕ) : Type 0 where
  pub long : length w ≡ 16384
  pub few : n ≤ 8192
  pub climbs : Climbs 0 (take n w)
  pub once : twice (take n w) ≡ false
  pub low : (o : ℕ) → used (take n w) o ≡ true → o < 256
  pub starts : (o : ℕ) → used (take n w) o ≡ true → get_or w (8192 + o) 0 ≡ start_of (take n w) o
  pub numbers : (o : ℕ) → used (take n w) o ≡ true → get_or w (8448 + o) 0 ≡ rank (used (take n w)) o

-- A ghost field holds that they are numbered, so it has at most one proof.
Climbs-prop : (b : ℕ) (ps : List ℕ) → IsProp (Climbs b ps)
Climbs-prop b [] = Unit-prop
Climbs-prop b (p ∷ ps) = ×_prop le_prop (Climbs-prop (outer p) ps)

pub Numbered-prop : (w : List ℕ) (n : ℕ) → IsProp (Numbered w n)
Numbered-prop w n = Prim.hlevel (props, Climbs-prop)

-- a pair, by its parts, is one of the pairs
pub record Among (ps : List ℕ) (p : Pair) : Type 0 where
  pub small : p.inner < 65536
  pub kept : member (p.outer * 65536 + p.inner) ps ≡ true

-- the new numbers of one of the pairs
pub record Renumbered (ps : List ℕ) (pair : ℕ) (r : Pair) : Type 0 where
  pub outer : r.outer ≡ new_outer (runs ps) pair
  pub inner : r.inner ≡ new_inner (runs ps) pair
  pub few : r.outer < 256
  pub short : r.inner < 8192

-- what the checks up to 13 have let through: a table with so many maps over a store with so many subtables, and a list of glyphs.
-- That the maps lie inside and can be used is what their `Sources` say
pub record Checked (maps count : ℕ) (t es : List ℕ) : Type 0 where
  pub some : 0 < maps
  pub most : maps ≤ 4
  pub short : length es ≤ most_glyphs
  pub few : count ≤ most_subtables
  pub named : bad_outer count (named_pairs maps t es) ≡ false
