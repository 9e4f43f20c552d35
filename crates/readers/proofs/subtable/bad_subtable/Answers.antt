use native.Mathlib.Omega.{arith}
use borrow.Author.Tests.{le-ltb}
use Rattle.lists.specs.Pick.{chain}
use Rattle.opentype.specs.Subtable.{item_count, word_field, word_count, column_count, long, row_length, rows_at}
use Rattle.rules.specs.Open.{bad_subtable}
use Rattle.readers.proofs.Fits.{rows_fit}
use Rattle.readers.proofs.subtable.bad_subtable.Goals as goal

pub returns-then-s-at : goal.returns-then-s-at
unfolding bad_subtable
returns-then-s-at c = search chain

pub returns-then-columns-words : goal.returns-then-columns-words
unfolding bad_subtable word_field word_count column_count
returns-then-columns-words c = rw (← c.number_at-field.ensures.is, ← c.number_at-columns.ensures.is) (search chain)

pub returns-then-columns-gt4096 : goal.returns-then-columns-gt4096
unfolding bad_subtable word_field word_count column_count
returns-then-columns-gt4096 c = rw (← c.number_at-field.ensures.is, ← c.number_at-columns.ensures.is) (search chain)

pub overflow_mul-result-2 : goal.overflow_mul-result-2
overflow_mul-result-2 c = omega (arith, rows_fit _ _ _ c.number_at-items.result _ c.if-columns-words.false c.if-columns-gt4096.false c.number_at-items.ensures.small c.row_length-row.ensures)

pub overflow_add-result-3 : goal.overflow_add-result-3
overflow_add-result-3 c = omega (arith, rows_fit _ _ _ c.number_at-items.result _ c.if-columns-words.false c.if-columns-gt4096.false c.number_at-items.ensures.small c.row_length-row.ensures)

pub returns : goal.returns
unfolding bad_subtable item_count word_field word_count column_count long row_length rows_at
returns c = rw (
  ← c.number_at-field.ensures.is,
  ← c.number_at-columns.ensures.is,
  ← c.number_at-items.ensures.is,
  ← c.row_length-row.ensures,
  le-ltb _ _ c.if-s-at.false,
  le-ltb _ _ c.if-columns-words.false,
  le-ltb _ _ c.if-columns-gt4096.false,
)
