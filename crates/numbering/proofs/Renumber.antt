-- The new numbers of a kept pair, by the tables of the runs.
use Prim.Native.Nat.{ℕ, ◌+◌, ◌-◌, ◌*◌, ◌/◌, ◌<◌, ◌≤◌}
use mathlib.Core.Path.{◌≡◌, sym, ◌∙◌}
use mathlib.Core.Bool.{true}
use mathlib.Core.List.{List}
use native.Mathlib.Omega.{arith}
use lib.ListN.{length, get_or, take, drop, length-drop}
use lib.Seq.{length-take-le, take_all}
use Rattle.lists.specs.Search.{place}
use Rattle.lists.proofs.Selects.{rank_le}
use Rattle.lists.proofs.Places.{at_place}
use Rattle.rules.specs.Lists.{runs}
use Rattle.rules.specs.Numbering.{new_inner}
use Rattle.rules.specs.declared.Pair.{Pair}
use Rattle.numbering.specs.Numbered.{used, Numbered, Among, Renumbered}
use Rattle.numbering.proofs.Starts.{start_inside, start_place, inner-place, inner_short, used-member, outer-rank}

module _ {w : List ℕ} {n : ℕ} {p : Pair} (k : Numbered w n) (a : Among (take n w) p) where
  its_outer : (p.outer * 65536 + p.inner) / 65536 ≡ p.outer
  its_outer = omega (arith, a.small)

  its_used : used (take n w) p.outer ≡ true
  its_used = rw its_outer at (used-member (p.outer * 65536 + p.inner) (take n w) a.kept)

  pub outer_low : p.outer < 256
  outer_low = k.low p.outer its_used

  pub size : length (take n w) ≡ n
  size = length-take-le n w (omega (arith, k.long, k.few))

  pub start_low : get_or w (8192 + p.outer) 0 ≤ n
  start_low = rw (k.starts p.outer its_used) (omega (arith, start_inside (take n w) p.outer, size))

  -- the pair's place: in the list, and behind the start of its run
  pub place_low : place (p.outer * 65536 + p.inner) (take n w) < n
  place_low = omega (arith, (at_place (p.outer * 65536 + p.inner) 0 (take n w) a.kept).0, size)

  pub place_behind : place (p.outer * 65536 + p.inner) (take n w) ≡ get_or w (8192 + p.outer) 0 + place (p.outer * 65536 + p.inner) (drop (get_or w (8192 + p.outer) 0) (take n w))
  place_behind = rw (k.starts p.outer its_used) (rw its_outer at (start_place 0 (p.outer * 65536 + p.inner) (take n w) k.climbs))

  -- as a walk from the start of its run finds it
  pub place_walked : {at : ℕ} → at ≡ place (p.outer * 65536 + p.inner) (take (length (take n w) - get_or w (8192 + p.outer) 0) (drop (get_or w (8192 + p.outer) 0) (take n w)))
      → get_or w (8192 + p.outer) 0 + at ≡ place (p.outer * 65536 + p.inner) (take n w)
  place_walked e =
      let start = get_or w (8192 + p.outer) 0 in
      let all = take_all (length (take n w) - start) (drop start (take n w)) (omega (arith, length-drop start (take n w))) in
      omega (arith, rw all at e, place_behind)

  pub renumber : {r : Pair} → r.outer ≡ get_or w (8448 + p.outer) 0 → r.inner ≡ place (p.outer * 65536 + p.inner) (take n w) - get_or w (8192 + p.outer) 0
      → Renumbered (take n w) (p.outer * 65536 + p.inner) r
  renumber {r} e f =
      let pair = p.outer * 65536 + p.inner in
      let start = get_or w (8192 + p.outer) 0 in
      let g = inner-place pair (take n w) k.climbs a.kept in
      let d : r.inner ≡ place pair (drop start (take n w)) = omega (arith, f, place_behind) in
      let i : r.inner ≡ new_inner (runs (take n w)) pair = d ∙ rw (k.starts p.outer its_used) (sym (rw its_outer at g)) in
      let h = e ∙ k.numbers p.outer its_used in
      record {
        outer = h ∙ sym (rw its_outer at (outer-rank 256 pair (take n w) k.climbs k.low a.kept));
        inner = i;
        few = omega (arith, h, rank_le (used (take n w)) p.outer, outer_low);
        short = omega (arith, i, inner_short pair (take n w) k.climbs a.kept, size, k.few);
      }
