-- The loop over the runs that writes the subtables.
use Prim.Native.Nat.{ℕ, ◌+◌, ◌-◌, ◌<◌, ◌≤◌}
use mathlib.Core.Path.{◌≡◌, refl, sym, ap, ◌∙◌}
use mathlib.Core.Bool.{false}
use mathlib.Core.List.{List, [], ◌∷◌}
use native.Mathlib.Omega.{arith}
use lib.ListN.{length, get_or, take, drop, length-take, length-map}
use lib.Seq.{drop-length, length-take-le}
use borrow.Rule.Slice.PartMut.{put_mid}
use Rattle.lists.specs.Gather.{flat}
use Rattle.lists.proofs.Cuts.{part_same, front_same, place_same}
use Rattle.opentype.specs.Store.{subtable_at}
use Rattle.rules.specs.Lists.{runs, outer, outers_fall}
use Rattle.rules.specs.Regions.{used_regions}
use Rattle.rules.specs.Rewrite.{subtable_bytes}
use Rattle.laws.specs.Inside.{regions_inside}
use Rattle.laws.specs.Lengths.{sum, sizes, size_at}
use Rattle.pairs.specs.Pairs.{RunEnd}
use Rattle.pairs.proofs.Laws.{run_left}
use Rattle.rows.specs.Area.{part, items, used_of}
use Rattle.plan.specs.Layout.{Passed}
use Rattle.objects.specs.Runs.{run_in, RunReady}
use Rattle.objects.proofs.Lists.{noted_at}
use Rattle.objects.proofs.Runs.{Written, written_none, written_ready, written_size, written_there, written_room, written_more, written_all, used_are, length_run}

-- the runs of the pairs before a place are written: k subtables, up to the place next of the output
pub record Going (s w₀ : List ℕ) (n : ℕ) (w out : List ℕ) (at k next : ℕ) : Type 0 where
  pub area : length w ≡ 16384
  pub few : n ≤ 8192
  pub same : take 12288 w ≡ take 12288 w₀
  pub inside : at ≤ n
  pub left : Written s (runs (take n w₀)) (runs (drop at (take n w₀))) (used_regions s (runs (take n w₀))) w out k next

pub going_first : {s : List ℕ} (w₀ : List ℕ) (n : ℕ) {out : List ℕ} → length w₀ ≡ 16384 → Passed s (take n w₀) w₀ → length out ≡ sum (sizes s (runs (take n w₀))) → Going s w₀ n w₀ out 0 0 0
going_first w₀ n a p l = record {
  area = a;
  few = omega (arith, p.pairs_fit, length-take n w₀);
  same = refl;
  inside = omega arith;
  left = written_none p.usable p.named p.used l;
}

going_same : {s w₀ : List ℕ} {n : ℕ} {w out : List ℕ} {at k next : ℕ} → Going s w₀ n w out at k next → take n w ≡ take n w₀
going_same {w₀ = w₀} {n} {w} g = front_same w w₀ 12288 g.same n (omega (arith, g.few))

pub going_climb : {s w₀ : List ℕ} {n : ℕ} {w out : List ℕ} {at k next : ℕ} → Passed s (take n w₀) w₀ → Going s w₀ n w out at k next → outers_fall (take n w) ≡ false
going_climb p g = rw (going_same g) p.climb

-- the next run, and the part of the output that its subtable goes to
pub record RunPart (s w out : List ℕ) (at end k next : ℕ) : Type 0 where
  pub few : k < 256
  pub after : at < end
  pub inside : end ≤ 8192
  pub ready : RunReady s (run_in w at end) w
  pub size : get_or w (8832 + k) 0 ≡ size_at s (subtable_at s (outer (get_or w at 0))) (items (part w at end))
  pub room : next + get_or w (8832 + k) 0 ≤ length out

module _ {s : List ℕ} (w₀ : List ℕ) {n : ℕ} {w out : List ℕ} {at k next end : ℕ} (p : Passed s (take n w₀) w₀) (few : length (runs (take n w₀)) ≤ 256)
    (noted : take (length (runs (take n w₀))) (drop 8832 w₀) ≡ sizes s (runs (take n w₀))) (g : Going s w₀ n w out at k next) (r : RunEnd w n at end) where
  first : Written s (runs (take n w₀)) (run_in w at end ∷ runs (drop end (take n w₀))) (used_regions s (runs (take n w₀))) w out k next
  first = rw (← going_same g, ← run_left w n at end (omega (arith, g.few, g.area)) r, going_same g) g.left

  there : k < length (runs (take n w₀))
  unfolding sizes
  there = omega (arith, written_there first, length-map (runs (take n w₀)) (λ run. size_at s (subtable_at s run.outer) run.inners))

  size : get_or w (8832 + k) 0 ≡ size_at s (subtable_at s (outer (get_or w at 0))) (items (part w at end))
  size =
      place_same w w₀ 12288 g.same (8832 + k) (omega (arith, few, there))
      ∙ sym (noted_at w₀ (length (runs (take n w₀))) k there)
      ∙ ap (λ (ns : List ℕ). get_or ns k 0) noted
      ∙ written_size first

  bytes_long : length (subtable_bytes s (used_regions s (runs (take n w₀))) (run_in w at end)) ≡ get_or w (8832 + k) 0
  bytes_long = length_run s (used_regions s (runs (take n w₀))) (run_in w at end) ∙ sym size

  pub going_run : RunPart s w out at end k next
  going_run = record {
    few = omega (arith, few, there);
    after = r.one.after;
    inside = omega (arith, r.inside, g.few);
    ready = written_ready first (regions_inside s p.list).few;
    size = size;
    room = rw bytes_long at (written_room first);
  }

  pub going_more : {w' bytes : List ℕ} (stop : ℕ) → length w' ≡ 16384 → stop ≡ next + get_or w (8832 + k) 0 → take 12288 w' ≡ take 12288 w → bytes ≡ subtable_bytes s (used_of s w) (run_in w at end)
      → Going s w₀ n w' (put_mid next (stop - next) out bytes) end (k + 1) stop
  going_more stop a q e b =
      let used : used_of s w ≡ used_regions s (runs (take n w₀)) = rw (part_same w w₀ 12288 g.same 8704 128 (omega arith)) (used_are s (runs (take n w₀)) w₀ p.used) in
      record {
        area = a;
        few = g.few;
        same = e ∙ g.same;
        inside = r.inside;
        left = written_more first stop e (b ∙ rw used) (rw bytes_long q);
      }

pub going_all : {s w₀ : List ℕ} {n : ℕ} {w out : List ℕ} {at k next : ℕ} → Passed s (take n w₀) w₀ → Going s w₀ n w out at k next → n ≤ at
    → out ≡ flat (λ run. subtable_bytes s (used_regions s (runs (take n w₀))) run) (runs (take n w₀))
unfolding runs
going_all {s} {w₀} {n} {w} {out} {at} {k} {next} p g h =
    let l : length (take n w₀) ≡ n = rw (← going_same g) (length-take-le n w (omega (arith, g.few, g.area))) in
    let e : at ≡ length (take n w₀) = omega (arith, g.inside) in
    let t : Written s (runs (take n w₀)) [] (used_regions s (runs (take n w₀))) w out k next = rw (e, drop-length) at g.left in
    written_all t
