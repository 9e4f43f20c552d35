use Prim.Native.Nat.{◌+◌, ◌*◌}
use mathlib.Core.Path.{◌≡◌}
use native.Mathlib.Omega.{arith}
use Rattle.pairs.proofs.Laws.{one_leap, eight_of}
use Rattle.pairs.proofs.Climbing.leap.Goals as goal

pub loop-k-preserved : goal.loop-k-preserved
loop-k-preserved c =
    let a = c.args in
    let l = c.loop-k in
    let e = eight_of a.self.now.pairs.now (a.from + 1) l.k c.as_chunks.ensures.front (omega (arith, c.as_chunks.ensures.front_len)) in
    let h : a.from + 1 + 8 * (l.k + 1) ≡ a.from + 1 + 8 * l.k + 7 + 1 = omega arith in
    rw h (one_leap (a.from + 1 + 8 * l.k + 7) a.self.now.climb l.invariant (omega arith) (omega (arith, c.as_chunks.ensures.front_len)) (rw e at c.if-eight-outer.false))
