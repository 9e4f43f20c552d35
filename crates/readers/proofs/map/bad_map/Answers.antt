use Prim.Native.Nat.{◌+◌, ◌*◌, ◌/◌, ◌%◌}
use mathlib.Core.Path.{◌≡◌, sym, ◌∙◌}
use mathlib.Core.Bool.{true}
use native.Mathlib.Omega.{arith}
use lib.Dec.{eqb, ltb}
use lib.ListN.{length}
use borrow.Author.Tests.{le-ltb, eq-eqb, ne_eqb}
use Rattle.lists.specs.Pick.{pick, chain}
use Rattle.opentype.specs.Map.{map_format, entry_format, inner_bits, entry_bytes, map_head, map_count}
use Rattle.rules.specs.Open.{bad_map}
use Rattle.readers.proofs.Fits.{entries_fit}
use Rattle.readers.proofs.map.bad_map.Goals as goal
use Rattle.readers.proofs.map.bad_map.Goals.{After-entry_count-count}

-- past the first four tests
past : (c : After-entry_count-count) → bad_map c.args.s.now c.args.at
    ≡ pick (eqb c.entry_count-count.result 0) true (ltb (length c.args.s.now) (c.args.at + c.head_length.result + c.entry_count-count.result * (c.number_at-packed.result / 16 % 4 + 1)))
unfolding bad_map map_format entry_format inner_bits entry_bytes map_head map_count
past c =
    rw (
      ← c.number_at-format.ensures.is,
      ← c.number_at-packed.ensures.is,
      ← c.head_length.ensures.value,
      ← c.entry_count-count.ensures,
      le-ltb _ _ c.if-s-at.false,
      le-ltb _ _ c.if-format-gt1.false,
      le-ltb _ _ c.if-size-packed.false,
      le-ltb _ _ c.if-s-entries.false,
    )

pub returns-then-s-at : goal.returns-then-s-at
unfolding bad_map
returns-then-s-at c = search chain

pub returns-then-format-gt1 : goal.returns-then-format-gt1
unfolding bad_map map_format
returns-then-format-gt1 c = search chain

pub returns-then-size-packed : goal.returns-then-size-packed
unfolding bad_map map_format entry_format inner_bits entry_bytes
returns-then-size-packed c = rw (← c.number_at-format.ensures.is, ← c.number_at-packed.ensures.is) (search chain)

pub returns-then-s-entries : goal.returns-then-s-entries
unfolding bad_map map_format entry_format inner_bits entry_bytes map_head
returns-then-s-entries c = rw (← c.number_at-format.ensures.is, ← c.number_at-packed.ensures.is, ← c.head_length.ensures.value) (search chain)

pub returns-then-count-eq0 : goal.returns-then-count-eq0
returns-then-count-eq0 c = sym (past (goal.at.returns-then-count-eq0 c).After-entry_count-count ∙ rw (eq-eqb _ _ c.if-count-eq0.true))

pub overflow_mul-result : goal.overflow_mul-result
overflow_mul-result c = omega (arith, entries_fit _ c.number_at-packed.result c.entry_count-count.type_inv)

pub overflow_add-result : goal.overflow_add-result
overflow_add-result c = omega (arith, entries_fit _ c.number_at-packed.result c.entry_count-count.type_inv)

pub returns : goal.returns
returns c = sym (past (goal.at.returns c).After-entry_count-count ∙ rw (ne_eqb _ _ c.if-count-eq0.false))
