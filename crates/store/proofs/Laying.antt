-- The objects of a planned store, laid one after the other.
use Prim.Native.Nat.{ℕ, ◌+◌, ◌-◌, ◌*◌, ◌^◌, ◌<◌}
use mathlib.Core.Path.{◌≡◌, refl, sym, ◌∙◌}
use mathlib.Core.List.{List, [], ◌∷◌, ◌++◌, map}
use native.Mathlib.Omega.{arith}
use lib.ListN.{length, take, drop, length-append, length-map}
use borrow.Rule.Slice.PartMut.{put_mid}
use Rattle.lists.specs.Gather.{flat, rank}
use Rattle.lists.proofs.Selects.{rank_ext}
use Rattle.lists.proofs.Parts.{put_next, all_laid}
use Rattle.bits.specs.Bits.{has}
use Rattle.cells.specs.Be.{be_bytes}
use Rattle.cells.proofs.Cells.{length-be_bytes}
use Rattle.opentype.specs.Store.{axis_count, region_count, record_length}
use Rattle.rules.specs.Lists.{Run, runs}
use Rattle.rules.specs.Regions.{is_used, used_regions, region_list_bytes}
use Rattle.rules.specs.Rewrite.{subtable_bytes}
use Rattle.rules.specs.StoreCut.{lay_store, store_bytes}
use Rattle.laws.specs.Inside.{regions_inside}
use Rattle.laws.specs.Lengths.{sum, sizes, length_list, length_bytes, subtable_sizes}
use Rattle.rows.specs.Area.{used_in, used_of}
use Rattle.plan.specs.declared.Layout.{Layout}
use Rattle.plan.specs.Layout.{Ready}
use Rattle.objects.specs.Offsets.{offsets_by}
use Rattle.objects.proofs.Lists.{offsets_by_lem, length_offsets_by, noted_length}
use Rattle.objects.proofs.Runs.{used_are}

flat_map : (f : Run → List ℕ) (rs : List Run) → flat (λ part. part) (map f rs) ≡ flat f rs
unfolding flat
flat_map f [] = refl
flat_map f (run ∷ rs) = rw (flat_map f rs)

module _ {s pairs w : List ℕ} {l : Layout} (r : Ready s pairs w l) where
  pub ready_marked : l.used ≡ rank (has (used_in w)) (region_count s)
  ready_marked = r.number ∙ sym (rank_ext (has (used_in w)) (λ q. is_used s (runs pairs) q) (region_count s) (λ q h. r.passed.used q h))

  same-used : used_of s w ≡ used_regions s (runs pairs)
  same-used = used_are s (runs pairs) w r.passed.used

module _ {s pairs w : List ℕ} {l : Layout} (r : Ready s pairs w l) (axes : l.regions.axes ≡ axis_count s) where
  -- the bytes of the store
  pub ready_total : l.length ≡ 8 + 4 * l.count + (4 + l.used * (6 * l.regions.axes)) + sum (sizes s (runs pairs))
  unfolding record_length
  ready_total = r.whole ∙ length_bytes s (regions_inside s r.passed.list).inside (runs pairs) ∙ rw (← r.count, ← r.number, ← axes)

  -- the offsets fit 32 bits
  pub ready_fits : {list : ℕ} → list ≡ 8 + 4 * l.count + (4 + l.used * (6 * l.regions.axes)) → list + sum (take l.count (drop 8832 w)) < 2 ^ 32
  ready_fits e = rw r.noted (omega (arith, ready_total, r.small))

  list_long : length (region_list_bytes s (used_regions s (runs pairs))) ≡ 4 + l.used * (6 * l.regions.axes)
  unfolding record_length
  list_long = length_list s (regions_inside s r.passed.list).inside (runs pairs) ∙ rw (← r.number, ← axes)

  -- the objects as document 01 lays them
  as_laid : (head list : ℕ) → head ≡ 8 + 4 * l.count → list ≡ head + (4 + l.used * (6 * l.regions.axes))
      → be_bytes 2 1 ++ be_bytes 4 head ++ be_bytes 2 l.count ++ offsets_by list (take l.count (drop 8832 w)) ++ region_list_bytes s (used_regions s (runs pairs))
      ++ flat (λ run. subtable_bytes s (used_regions s (runs pairs)) run) (runs pairs)
      ≡ store_bytes s (runs pairs)
  unfolding store_bytes lay_store
  as_laid head list eh el =
      let used = used_regions s (runs pairs) in
      let parts = map (λ run. subtable_bytes s used run) (runs pairs) in
      let n : length parts ≡ l.count = length-map (runs pairs) (λ run. subtable_bytes s used run) ∙ sym r.count in
      rw (el, eh, r.noted, ← subtable_sizes s used (runs pairs), ← offsets_by_lem (8 + 4 * l.count + (4 + l.used * (6 * l.regions.axes))) parts, ← flat_map (λ run. subtable_bytes s used run) (runs pairs), n, list_long)

  pub store_laid : length w ≡ 16384 → (out : List ℕ) {a b d f : List ℕ} (head list : ℕ) → head ≡ 8 + 4 * l.count → list ≡ head + (4 + l.used * (6 * l.regions.axes)) → length out ≡ l.length
      → a ≡ be_bytes 2 1 ++ be_bytes 4 head ++ be_bytes 2 l.count → b ≡ offsets_by list (take l.count (drop 8832 w)) → d ≡ region_list_bytes s (used_of s w)
      → f ≡ flat (λ run. subtable_bytes s (used_regions s (runs pairs)) run) (runs pairs)
      → put_mid list (l.length - list) (put_mid head (list - head) (put_mid 8 (head - 8) (put_mid 0 8 out a) b) d) f ≡ store_bytes s (runs pairs)
  store_laid area out {a} {b} {d} {f} head list eh el n pa pb pd pf =
      let A = be_bytes 2 1 ++ be_bytes 4 head ++ be_bytes 2 l.count in
      let B = A ++ offsets_by list (take l.count (drop 8832 w)) in
      let D = B ++ region_list_bytes s (used_regions s (runs pairs)) in
      let F = D ++ flat (λ run. subtable_bytes s (used_regions s (runs pairs)) run) (runs pairs) in
      let t = ready_total in
      let la : length A ≡ 8 = simp (length-append, length-be_bytes) in
      let nb = length_offsets_by list (take l.count (drop 8832 w)) in
      let nl = noted_length w l.count area r.few in
      let lb : length B ≡ head = rw (length-append, nb, nl) (omega arith) in
      let ld : length D ≡ list = rw (length-append, list_long) (omega arith) in
      let p₁ = put_next out [] A 0 8 refl refl (omega arith) pa refl in
      let p₂ = put_next out A B 8 head p₁ la (omega arith) pb refl in
      let p₃ = put_next out B D head list p₂ lb (omega arith) (pd ∙ rw (same-used r)) refl in
      put_next out D F list l.length p₃ ld (omega arith) pf refl ∙ all_laid F out l.length (omega arith) ∙ as_laid head list eh el
