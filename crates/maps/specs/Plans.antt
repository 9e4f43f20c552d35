-- The plan of a map as the code holds it, and what has to stand when a map is planned or written.
-- n is how many kept pairs stand in the work area w; t is the table's bytes, es the glyph entries, m a map, pair the pairs that it gives the glyphs.
use Rattle.std.specs.Prelude.{ℕ, ◌+◌, ◌*◌, ◌-◌, ◌^◌, ◌<◌, ◌≤◌, ◌≡◌, true, false, List, ◌++◌, map, length, get_or, take, Option, Some, None}
use Rattle.lists.specs.Gather.{gather}
use Rattle.lists.specs.Search.{member, largest}
use Rattle.lists.proofs.Ascending.{Rises}
use Rattle.cells.specs.Be.{be_bytes}
use Rattle.rules.specs.Lists.{Run, runs, new_id, old_id}
use Rattle.rules.specs.Numbering.{counts, pair_of, new_inner}
use Rattle.rules.specs.Maps.{is_written, map_plan, entry_size, new_entry, entry_at}
use Rattle.laws.specs.Glyphs.{Glyphs}
use Rattle.maps.specs.declared.plan.MapPlan.{MapPlan}

-- the kept items of the used subtables
abbrev pub kept_in : ℕ → List ℕ → List Run
kept_in n w = runs (take n w)

-- the largest new inner of the listed glyphs
abbrev pub largest_of : List Run → (ℕ → ℕ) → List ℕ → ℕ
largest_of rs pair es = largest (map (λ e. new_inner rs (pair (old_id e))) es)

-- format 0, entry format, count
abbrev pub head_of : MapPlan → List ℕ
head_of p = be_bytes 1 0 ++ be_bytes 1 ((p.size - 1) * 16 + (p.bits - 1)) ++ be_bytes 2 p.count

-- the bytes of the entry of new id j
abbrev pub entry_piece : List Run → (ℕ → ℕ) → List ℕ → MapPlan → ℕ → List ℕ
entry_piece rs pair es p j = be_bytes p.size (entry_at (λ g. new_entry p.bits rs (pair g)) es j)

abbrev pub entries_of : List Run → (ℕ → ℕ) → List ℕ → MapPlan → List ℕ
entries_of rs pair es p = gather (entry_piece rs pair es p) p.count

-- the pairs of the listed glyphs are kept
pub record Kept (n : ℕ) (w : List ℕ) (pair : ℕ → ℕ) (es : List ℕ) : Type 0 where
  pub each : (k : ℕ) → k < length es → member (pair (old_id (get_or es k 0))) (take n w) ≡ true

-- entries with so many inner bits can be written: those of the listed glyphs fit 32 bits
pub record EntriesFit (n : ℕ) (w : List ℕ) (pair : ℕ → ℕ) (es : List ℕ) (bits : ℕ) : Type 0 where
  pub kept : Kept n w pair es
  pub rise : Rises 0 (map (λ e. new_id e) es)
  pub each : (k : ℕ) → k < length es → new_entry bits (kept_in n w) (pair (old_id (get_or es k 0))) < 2 ^ 32

-- What stands when map m is planned or written: the glyph list was accepted, and the pairs of its glyphs are among the kept ones.
pub record Ready (n : ℕ) (w t es : List ℕ) (m : ℕ) : Type 0 where
  pub glyphs : Glyphs es
  pub kept : counts t m ≡ true → (k : ℕ) → k < length es → member (pair_of t m (old_id (get_or es k 0))) (take n w) ≡ true

-- no new inner of the kept pairs is above the limit
pub record Bounds (n : ℕ) (w : List ℕ) (limit : ℕ) : Type 0 where
  pub each : (pair : ℕ) → member pair (take n w) ≡ true → new_inner (kept_in n w) pair ≤ limit

-- map m is written, and p is its plan
pub record Planned (t : List ℕ) (rs : List Run) (es : List ℕ) (m : ℕ) (p : MapPlan) : Type 0 where
  pub written : is_written t es m ≡ true
  pub count : p.count ≡ (map_plan t rs es m).count
  pub bits : p.bits ≡ (map_plan t rs es m).inner_bits
  pub size : p.size ≡ entry_size (map_plan t rs es m)

-- a map that is not written has no plan
abbrev pub MapPlanned : List ℕ → List Run → List ℕ → ℕ → Option MapPlan → Type 0
MapPlanned t rs es m None = is_written t es m ≡ false
MapPlanned t rs es m (Some p) = Planned t rs es m p

-- the bytes of an entry; none for a map that is not written
abbrev pub size_of : Option MapPlan → ℕ
size_of None = 0
size_of (Some p) = p.size

-- the bytes of a map with the plan
abbrev pub length_of : Option MapPlan → ℕ
length_of None = 0
length_of (Some p) = 4 + p.count * p.size
