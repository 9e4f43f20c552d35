use Prim.Native.Nat.{◌≤◌, ◌<◌}
use mathlib.Core.Path.{◌≡◌, ◌∙◌, ap}
use native.Mathlib.Omega.{arith}
use lib.Signed.{mag}
use mir.Facts.{to_z-of_z}
use Rattle.lists.specs.Pick.{chain}
use Rattle.laws.specs.Sizes.{size}
use Rattle.columns.proofs.Tallies.{nil_yes, nil_no}
use Rattle.columns.proofs.tally.size_of.Goals as goal
use Rattle.columns.proofs.tally.size_of.Goals.{After-mag-mag}

-- what is tested is the delta's magnitude
tested : (c : After-mag-mag) → c.mag-mag.result ≡ mag c.args.delta
tested c = c.mag-mag.ensures ∙ ap mag (to_z-of_z c.ranges.delta)

pub returns-then-delta-eq0 : goal.returns-then-delta-eq0
unfolding size
returns-then-delta-eq0 c =
    let m = mag c.args.delta in
    let a : (m ≤ 65535) × (m ≤ 32767) × (m ≤ 127) = omega (arith, tested (goal.at.returns-then-delta-eq0 c).After-mag-mag) in
    let z = nil_yes c.ranges.delta c.if-delta-eq0.true in
    search chain

pub returns-else-delta-eq0 : goal.returns-else-delta-eq0
unfolding size
returns-else-delta-eq0 c =
    let m = mag c.args.delta in
    let a : (m ≤ 65535) × (m ≤ 32767) × (m ≤ 127) = omega (arith, tested (goal.at.returns-else-delta-eq0 c).After-mag-mag) in
    let z = nil_no c.ranges.delta c.if-delta-eq0.false in
    search chain

pub returns-then-mag-le32767 : goal.returns-then-mag-le32767
unfolding size
returns-then-mag-le32767 c = let m = mag c.args.delta in
    let a : (m ≤ 65535) × (m ≤ 32767) × (127 < m) = omega (arith, tested (goal.at.returns-then-mag-le32767 c).After-mag-mag) in
    search chain

pub returns-then-mag-le65535 : goal.returns-then-mag-le65535
unfolding size
returns-then-mag-le65535 c = let m = mag c.args.delta in
    let a : (m ≤ 65535) × (32767 < m) = omega (arith, tested (goal.at.returns-then-mag-le65535 c).After-mag-mag) in
    search chain

pub returns-else-mag-le65535 : goal.returns-else-mag-le65535
unfolding size
returns-else-mag-le65535 c = let m = mag c.args.delta in
    let a : 65535 < m = omega (arith, tested (goal.at.returns-else-mag-le65535 c).After-mag-mag) in
    search chain
