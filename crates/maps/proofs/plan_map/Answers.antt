use mathlib.Core.Path.{◌≡◌, sym, ◌∙◌}
use mathlib.Core.Bool.{true}
use native.Mathlib.Omega.{arith}
use Rattle.rules.specs.Maps.{is_written}
use Rattle.sources.proofs.Pairs.{map_good, counts_is}
use Rattle.maps.proofs.Plans.{pairs_same, outers_same, none_listed, not_counted, counted, packs, kept_at, count_is, bits_is, size_is}
use Rattle.maps.proofs.plan_map.Goals as goal
use Rattle.maps.proofs.plan_map.Goals.{then-is_empty-via-then-is_empty, then-is_empty-via-else-is_empty+then-not-counts, Else-not-counts}

pub returns-then-is_empty : goal.returns-then-is_empty
returns-then-is_empty c =
    elim c.then-is_empty.branch [
      | then-is_empty-via-then-is_empty w ↦ none_listed _ _ _ (sym c.is_empty.ensures ∙ w.if-is_empty.true)
      | then-is_empty-via-else-is_empty+then-not-counts w ↦ not_counted _ _ _ (sym (counts_is _ _ _ c.source-source.ensures) ∙ (sym w.counts.ensures ∙ w.if-not-counts.true))
    ]

-- the map is written
written : (c : Else-not-counts) → let a = c.args in is_written a.sources.now.table.now a.glyphs.now a.m ≡ true
written c = counted _ _ _ (sym (counts_is _ _ _ c.source-source.ensures) ∙ (sym c.counts.ensures ∙ c.if-not-counts.false)) (sym c.is_empty.ensures ∙ c.if-is_empty.false)

pub new_inner_bits-bits-requires-clause-kept : goal.new_inner_bits-bits-requires-clause-kept
new_inner_bits-bits-requires-clause-kept c = kept_at c.requires.ready (written (goal.at.new_inner_bits-bits-requires-clause-kept c).Else-not-counts) _ (pairs_same _ _ _ c.source-source.ensures)

pub invariant_of-result : goal.invariant_of-result
invariant_of-result c =
    let on = written (goal.at.invariant_of-result c).Else-not-counts in
    let same = pairs_same _ _ _ c.source-source.ensures in
    let q = packs c.requires.ready on c.args.kept.now.numbered c.args.sources.now.octets (map_good _ _ _ c.args.sources.now.sound c.requires.m_bound) in
    let count = count_is c.requires.ready on _ same c.count_of-count.ensures in
    let bits = bits_is c.requires.ready on _ same c.new_inner_bits-bits.ensures in
    record { entries = rw count q.few_entries; inner = rw bits (q.some_bits, q.few_bits); bytes = omega arith }

pub returns : goal.returns
returns c =
    let on = written (goal.at.returns c).Else-not-counts in
    let same = pairs_same _ _ _ c.source-source.ensures in
    let outers = outers_same _ _ _ c.source-source.ensures c.outer_bits.ensures.value in
    record {
      written = on;
      count = count_is c.requires.ready on _ same c.count_of-count.ensures;
      bits = bits_is c.requires.ready on _ same c.new_inner_bits-bits.ensures;
      size = size_is c.requires.ready on _ same outers c.new_inner_bits-bits.ensures c.div_ceil-size.ensures;
    }
