use native.Mathlib.Omega.{arith}
use mathlib.Core.Path.{◌≡◌, ◌∙◌, refl}
use mathlib.Core.Bool.{true, false}
use Rattle.lists.proofs.Tests.{some_none, some_more, some_at}
use Rattle.columns.proofs.Searches.{unfound_more, found_here, found_nowhere, not-long, by_words}
use Rattle.columns.proofs.long.keeps_long.Goals as goal

pub returns-then-not-t : goal.returns-then-not-t
returns-then-not-t c = not-long c.args.t.now.opened c.args.pairs.now c.if-not-t.true

pub search-init : goal.search-init
search-init c = (refl, some_none _)

pub loop-pair-preserved : goal.loop-pair-preserved
loop-pair-preserved c = let l = c.loop-pair in
    (l.invariant.0, unfound_more l.invariant.1 c.loop-pair-test.true c.is_far.ensures c.if-is_far.false)

pub search-preserved : goal.search-preserved
search-preserved c = let l = c.loop-pair in
    (l.invariant.0, some_more _ _ c.search.invariant.1 (found_nowhere l.invariant.1 c.loop-pair-test.false))

pub returns-after-search : goal.returns-after-search
returns-after-search c = let v = c.search.invariant in
    let n : c.search.column ≡ c.args.t.now.shape.words = omega arith in
    v.0 ∙ by_words c.args.t.now.opened c.args.pairs.now c.if-not-t.false false (rw n at v.1)

pub returns-then-is_far : goal.returns-then-is_far
returns-then-is_far c = by_words c.args.t.now.opened c.args.pairs.now c.if-not-t.false true
    (some_at _ _ _ c.search-test.true (found_here c.loop-pair.invariant.1 c.loop-pair-test.true c.is_far.ensures c.if-is_far.true))
