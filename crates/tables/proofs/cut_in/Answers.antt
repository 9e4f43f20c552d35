use mathlib.Core.Path.{sym, ◌∙◌}
use native.Mathlib.Omega.{arith}
use Rattle.lists.specs.Pick.{ne_via}
use Rattle.opentype.specs.Table.{store_at}
use Rattle.laws.specs.Inside.{header_inside}
use Rattle.laws.specs.Fitted.{fit_refused, fit_as}
use Rattle.tables.proofs.Chain.{bad_list, short_header, null_store_lem}
use Rattle.tables.proofs.cut_in.Goals as goal

pub returns-then-bad_glyphs : goal.returns-then-bad_glyphs
returns-then-bad_glyphs c = fit_refused (bad_list _ _ _ (sym c.bad_glyphs.ensures ∙ c.if-bad_glyphs.true))

pub returns-then-bad_header : goal.returns-then-bad_header
returns-then-bad_header c = fit_refused (short_header _ _ _ (sym c.bad_glyphs.ensures ∙ c.if-bad_glyphs.false) (sym c.bad_header.ensures ∙ c.if-bad_header.true))

pub number_at-at-requires-clause-in_bounds : goal.number_at-at-requires-clause-in_bounds
number_at-at-requires-clause-in_bounds c = omega (arith, (header_inside _ _ (sym c.bad_header.ensures ∙ c.if-bad_header.false)).head)

pub cut_null-requires : goal.cut_null-requires
cut_null-requires c = (c.requires.1, omega (arith, (header_inside _ _ (sym c.bad_header.ensures ∙ c.if-bad_header.false)).head))

pub returns-then-at-eq0 : goal.returns-then-at-eq0
unfolding store_at
returns-then-at-eq0 c =
    let list = sym c.bad_glyphs.ensures ∙ c.if-bad_glyphs.false in
    let header = sym c.bad_header.ensures ∙ c.if-bad_header.false in
    fit_as (null_store_lem _ _ _ list header (sym c.number_at-at.ensures.is ∙ c.if-at-eq0.true)) c.cut_null.ensures

pub cut_at-requires : goal.cut_at-requires
unfolding store_at
cut_at-requires c =
    let at = c.number_at-at.ensures.is in (
      record {
        one = c.requires.0;
        four = c.requires.1;
        glyphs = sym c.bad_glyphs.ensures ∙ c.if-bad_glyphs.false;
        header = sym c.bad_header.ensures ∙ c.if-bad_header.false;
        there = ne_via _ _ _ at c.if-at-eq0.false;
      },
      at,
    )
