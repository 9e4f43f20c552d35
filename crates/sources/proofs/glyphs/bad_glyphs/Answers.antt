use mathlib.Core.Path.{◌≡◌, sym, ◌∙◌}
use Rattle.std.proofs.Common.{rules, tests, arith}
use Rattle.std.proofs.lemmas.Iterator.{YieldsList-from_slice}
use Rattle.std.proofs.lemmas.Iterator.Search.{any_from_yields_List}
use Rattle.lists.specs.Pick.{chain}
use Rattle.lists.specs.Search.{any}
use Rattle.lists.proofs.Chains.{any-list_any}
use Rattle.rules.specs.Lists.{bad_id, bad_glyphs}
use Rattle.sources.proofs.glyphs.bad_glyphs.Goals as goal
use Rattle.sources.proofs.glyphs.bad_glyphs.Goals.{then-glyphs-gt2048, else-glyphs-gt2048}

pub returns-then-ids_stay : goal.returns-then-ids_stay
unfolding bad_glyphs
returns-then-ids_stay c =
    elim c.if-glyphs-gt2048.branch [
      | then-glyphs-gt2048 w ↦ search chain
      | else-glyphs-gt2048 w ↦ rw (← w.ids_stay.ensures) (search (chain, sym w.value-is ∙ c.if-ids_stay.true))
    ]

pub returns-else-ids_stay : goal.returns-else-ids_stay
unfolding bad_glyphs
returns-else-ids_stay c =
    let e : c.any.result ≡ any bad_id c.args.glyphs.now
    = any_from_yields_List bad_id _ _ _ c.any.ensures.ran (YieldsList-from_slice c.args.glyphs.now cc) (λ x b q k. search (rules, tests))
    ∙ sym (any-list_any bad_id c.args.glyphs.now) in
    elim c.if-glyphs-gt2048.branch [
      | then-glyphs-gt2048 w ↦ grind arith
      | else-glyphs-gt2048 w ↦ rw (← w.ids_stay.ensures) (search (chain, sym w.value-is ∙ c.if-ids_stay.false))
    ]
