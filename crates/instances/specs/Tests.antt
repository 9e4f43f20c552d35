-- The demands as tests of a source, the caller's list and the bytes that were written, computed by `opentype` and arithmetic. A demand that holds makes its
-- test true (proofs/Sound), so a test that fails shows that the demand doesn't hold.
use Rattle.std.specs.Prelude.{ℕ, suc, ◌^◌, Bool, true, false, not, List, length, take, ltb, leb, eqb, ℤ, pos, negsuc}
use Rattle.lists.specs.Pick.{pick, both, differ}
use Rattle.lists.specs.Search.{some}
use Rattle.cells.specs.Be.{be}
use Rattle.cells.specs.Sign.{nil}
use Rattle.opentype.specs.Store.{subtable_at, subtable_count, region_count, axis_count}
use Rattle.opentype.specs.Subtable.{item_count, region_index, row_length}
use Rattle.opentype.specs.Map.{inner_bits}
use Rattle.opentype.specs.Table.{map_at, store_of, gives_pairs, glyph_outer, glyph_inner}
use Rattle.demands.specs.Reading.{weighted, delta_in, columns_in}
use Rattle.demands.specs.KeepsStore.{outers_before, pairs_of, outer_at, inner_at}
use Rattle.demands.specs.KeepsGlyphs.{old_at, new_at}
use Rattle.demands.specs.ShortestRows.{Form, form_length, tells}

-- the test holds at every number below n
unfoldable pub every : (ℕ → Bool) → ℕ → Bool
every f n = not (some (λ k. not (f k)) n)

-- one number is the other
abbrev pub same : ℤ → ℤ → Bool
same (pos m) (pos n) = eqb m n
same (negsuc m) (negsuc n) = eqb m n
same (pos m) (negsuc n) = false
same (negsuc m) (pos n) = false

-- a weight for each region record: its bytes as a number, and one more, so that none has weight 0
unfoldable pub weigh : List ℕ → ℤ
weigh r = pos (suc (be (length r) r 0))

-- `KeptStore`, by its axes and `KeptSums`: as many axes, and each listed row has the same weighted sum
unfoldable pub keeps : List ℕ → List ℕ → List ℕ → Bool
keeps s pairs w =
    both (eqb (axis_count w) (axis_count s))
    (every (λ k.
    same (weighted weigh w (outers_before pairs (outer_at pairs k)) (pairs_of (take k pairs) (outer_at pairs k))) (weighted weigh s (outer_at pairs k) (inner_at pairs k)))
    (length pairs))

-- `KeptTable`, by its axes and `KeptGlyphSums`
unfoldable pub keeps_glyphs : ℕ → List ℕ → List ℕ → List ℕ → Bool
keeps_glyphs maps t es u =
    both (eqb (axis_count (store_of u)) (axis_count (store_of t)))
    (every (λ m. pick (gives_pairs t m)
    (every (λ n.
    same (weighted weigh (store_of u) (glyph_outer u m (new_at es n)) (glyph_inner u m (new_at es n)))
    (weighted weigh (store_of t) (glyph_outer t m (old_at es n)) (glyph_inner t m (old_at es n))))
    (length es)) true)
    maps)

-- `ShortestRows`, at a place and for a form: if it tells the deltas of all listed rows of that outer, it isn't shorter
unfoldable pub not_longer : List ℕ → List ℕ → List ℕ → ℕ → Form → Bool
not_longer s pairs w k f =
    pick
    (every (λ j. pick (eqb (outer_at pairs j) (outer_at pairs k))
    (every (λ c. tells f c (delta_in s (outer_at pairs k) (inner_at pairs j) c)) (columns_in s (outer_at pairs k))) true)
    (length pairs))
    (leb (row_length w (subtable_at w (outers_before pairs (outer_at pairs k)))) (form_length f))
    true

-- `FewestInnerBits`: 1 to 16 bits, where they hold the inner numbers of the listed glyphs, are no fewer
unfoldable pub few_bits : ℕ → List ℕ → List ℕ → List ℕ → Bool
few_bits maps t es u =
    every (λ m. pick (both (gives_pairs t m) (differ (length es) 0))
    (every (λ b. pick (every (λ n. ltb (glyph_inner u m (new_at es n)) (2 ^ suc b)) (length es)) (leb (inner_bits u (map_at u m)) (suc b)) true) 16) true)
    maps

-- `Lean`: every subtable has a row, every column one that isn't 0 there, every region a column that names it
unfoldable pub is_lean : List ℕ → Bool
is_lean w =
    both (every (λ o. both (differ (item_count w (subtable_at w o)) 0)
    (every (λ c. some (λ i. not (nil (delta_in w o i c))) (item_count w (subtable_at w o))) (columns_in w o))) (subtable_count w))
    (every (λ r. some (λ o. some (λ c. eqb (region_index w (subtable_at w o) c) r) (columns_in w o)) (subtable_count w)) (region_count w))

-- `NoTrace`: and every row is a listed pair's
unfoldable pub traceless : List ℕ → List ℕ → List ℕ → Bool
traceless s pairs w =
    both (is_lean w)
    (every (λ o. every (λ i. some (λ k. both (eqb (outers_before pairs (outer_at pairs k)) o) (eqb (pairs_of (take k pairs) (outer_at pairs k)) i)) (length pairs))
    (item_count w (subtable_at w o))) (subtable_count w))

-- `NoTraceInTable`: and every row is some listed glyph's in some map
unfoldable pub traceless_table : ℕ → List ℕ → List ℕ → List ℕ → Bool
traceless_table maps t es u =
    both (is_lean (store_of u))
    (every (λ o. every (λ i. some (λ m. both (gives_pairs t m)
    (some (λ n. both (eqb (glyph_outer u m (new_at es n)) o) (eqb (glyph_inner u m (new_at es n)) i)) (length es))) maps)
    (item_count (store_of u) (subtable_at (store_of u) o))) (subtable_count (store_of u)))
