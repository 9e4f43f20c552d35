-- A whole subtable: the header, the region indexes, the rows.
use Prim.Native.Nat.{ℕ, ◌+◌}
use mathlib.Core.Path.{◌≡◌, refl, sym, ◌∙◌}
use mathlib.Core.List.{List, ◌++◌, append_assoc}
use lib.ListN.{length}
use Rattle.lists.specs.Pick.{pick}
use Rattle.lists.specs.Gather.{flat}
use Rattle.lists.proofs.Members.{length-map}
use Rattle.lists.proofs.Pieces.{length-tab}
use Rattle.cells.specs.Be.{be_bytes}
use Rattle.rules.specs.Columns.{plan_of}
use Rattle.rules.specs.Rewrite.{row_bytes, new_word_field, planned_bytes}
use Rattle.rows.specs.declared.Counts.{Counts}
use Rattle.rows.specs.Area.{items, columns_in, used_of}
use Rattle.rows.specs.Planned.{Planned}
use Rattle.subtables.specs.Written.{columns_from, plan_in, indexes_of}
use Rattle.subtables.proofs.Plans.{columns_order, plan_in_lem}

-- the header of so many items
abbrev pub header_of : Counts → ℕ → List ℕ
header_of p n = be_bytes 2 n ++ be_bytes 2 (pick p.long 0x8000 0 + p.wide) ++ be_bytes 2 (p.wide + p.narrow)

length_columns : (w : List ℕ) (wide narrow : ℕ) → length (columns_in w wide narrow) ≡ wide + narrow
unfolding columns_in
length_columns w wide narrow = length-tab _ (wide + narrow)

length_wides : (w : List ℕ) (p : Counts) → length (plan_in w p).wide ≡ p.wide
unfolding plan_in columns_from
length_wides w p = length-tab _ p.wide

long_in : (w : List ℕ) (p : Counts) → (plan_in w p).is_long ≡ p.long
unfolding plan_in
long_in w p = refl

-- the written bytes in the writers' words
planned_is : (s : List ℕ) (at : ℕ) (used is w : List ℕ) (p : Counts) → planned_bytes s at used is (plan_in w p)
    ≡ header_of p (length is) ++ indexes_of s at used (columns_in w p.wide p.narrow) ++ flat (λ i. row_bytes s at (plan_in w p) i) is
unfolding planned_bytes new_word_field
planned_is s at used is w p = rw (← columns_order w p, length_columns w p.wide p.narrow, length_wides w p, long_in w p)

-- the three parts, one behind the other
pub subtable_laid : {s : List ℕ} {at : ℕ} {w : List ℕ} {p : Counts} {a b d : List ℕ} (ps : List ℕ) → Planned s at (items ps) w p
    → a ≡ header_of p (length ps) → b ≡ indexes_of s at (used_of s w) (columns_in w p.wide p.narrow) → d ≡ flat (λ i. row_bytes s at (plan_in w p) i) (items ps)
    → a ++ (b ++ d) ≡ planned_bytes s at (used_of s w) (items ps) (plan_of s at (items ps))
subtable_laid {s} {at} {w} {p} {a} {b} {d} ps h q₁ q₂ q₃ = sym (append_assoc a b d) ∙ rw (q₁, q₂, q₃, ← plan_in_lem h, planned_is s at (used_of s w) (items ps) w p, length-map)
