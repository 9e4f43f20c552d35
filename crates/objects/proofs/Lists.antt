-- The offsets and the region list.
use Prim.Native.Nat.{ℕ, zero, suc, ◌+◌, ◌-◌, ◌*◌, ◌≤◌, ◌<◌}
use mathlib.Core.Path.{◌≡◌, refl, sym, ap, ◌∙◌}
use mathlib.Core.Bool.{Bool, true, false}
use mathlib.Core.List.{List, [], ◌∷◌, ◌++◌, map, append-nil}
use native.Mathlib.Omega.{arith}
use native.Mathlib.Numerals.{add-one}
use lib.ListN.{length, get_or, take, drop, length-append, length-drop, length-take}
use lib.Seq.{drop-cons, length-take-le, get_or-take, get_or-drop}
use Rattle.lists.specs.Pick.{pick}
use Rattle.lists.specs.Gather.{gather, flat, select, rank}
use Rattle.lists.proofs.Pieces.{flat_append}
use Rattle.lists.proofs.Places.{length-select}
use Rattle.lists.proofs.Parts.{put_next, all_laid}
use Rattle.lists.proofs.Laid.{Laid, laid_inside, laid_all}
use Rattle.bits.specs.Bits.{has}
use Rattle.cells.specs.Be.{be_bytes, Wrote}
use Rattle.cells.proofs.Cells.{length-be_bytes, wrote_all}
use Rattle.opentype.specs.Store.{axis_count, regions_at, region_count, record_length, region_record}
use Rattle.rules.specs.Regions.{region_list_bytes}
use Rattle.rules.specs.StoreCut.{offsets}
use Rattle.laws.specs.Lengths.{sum, record_ends, length_records}
use Rattle.rows.specs.Area.{used_in, used_of}
use Rattle.objects.specs.Offsets.{offsets_by}
use borrow.Rule.Slice.PartMut.{put_mid}
use Rattle.objects.proofs.Filled.{Filled, filled_none, filled_wrote}

-- ---- offsets

pub offsets_by_lem : (at : ℕ) (parts : List (List ℕ)) → offsets at parts ≡ offsets_by at (map (λ part. length part) parts)
unfolding offsets offsets_by
offsets_by_lem at [] = refl
offsets_by_lem at (part ∷ parts) = rw (offsets_by_lem (at + length part) parts)

pub length_offsets_by : (at : ℕ) (ns : List ℕ) → length (offsets_by at ns) ≡ 4 * length ns
unfolding offsets_by
length_offsets_by at [] = refl
length_offsets_by at (n ∷ ns) = rw (length-append, length-be_bytes, length_offsets_by (at + n) ns) (omega arith)

-- the offsets of the first k subtables are laid; next is the offset of the one behind them
pub record Offset (ns : List ℕ) (first : ℕ) (out : List ℕ) (k next : ℕ) : Type 0 where
  pub inside : k ≤ length ns
  pub left : next + sum (drop k ns) ≡ first + sum ns
  pub filled : Filled out (4 * k) (offsets_by next (drop k ns)) (offsets_by first ns)

pub offset_none : (ns : List ℕ) (first : ℕ) {out : List ℕ} → length out ≡ 4 * length ns → Offset ns first out 0 first
offset_none ns first e = record { inside = omega arith; left = refl; filled = filled_none (e ∙ sym (length_offsets_by first ns)) }

module _ {ns : List ℕ} {first : ℕ} {out : List ℕ} {k next : ℕ} (o : Offset ns first out k next) (h : k < length ns) where
  split : drop k ns ≡ get_or ns k 0 ∷ drop (k + 1) ns
  split = rw (add-one) (drop-cons ns k 0 h)

  sums : next + (get_or ns k 0 + sum (drop (k + 1) ns)) ≡ first + sum ns
  unfolding sum
  sums = rw split at o.left

  pub offset_more : {w : List ℕ} {n : ℕ} → Wrote out (4 * k) (be_bytes 4 next) w → n ≡ get_or ns k 0 → Offset ns first w (k + 1) (next + n)
  unfolding offsets_by
  offset_more {w} {n} p r =
      let f : Filled out (4 * k) (be_bytes 4 next ++ offsets_by (next + get_or ns k 0) (drop (k + 1) ns)) (offsets_by first ns) = rw split at o.filled in
      record {
        inside = omega arith;
        left = rw r (omega (arith, sums));
        filled = rw r (filled_wrote (be_bytes 4 next) (offsets_by (next + get_or ns k 0) (drop (k + 1) ns)) (4 * (k + 1)) f (rw (length-be_bytes 4 next) (omega arith)) p);
      }

-- the lengths in the work area
pub noted_at : (w : List ℕ) (count k : ℕ) → k < count → get_or (take count (drop 8832 w)) k 0 ≡ get_or w (8832 + k) 0
noted_at w count k h = get_or-take count (drop 8832 w) k 0 h ∙ get_or-drop 8832 w k 0

pub noted_length : (w : List ℕ) (count : ℕ) → length w ≡ 16384 → count ≤ 256 → length (take count (drop 8832 w)) ≡ count
noted_length w count n h = length-take-le count (drop 8832 w) (rw length-drop (omega arith))

-- ---- the records of the used regions

-- what region r adds
abbrev pub record_of : List ℕ → List ℕ → ℕ → List ℕ
record_of s w r = pick (has (used_in w) r) (region_record s r) []

pub gather-used : (f : ℕ → Bool) (g : ℕ → List ℕ) (n : ℕ) → gather (λ r. pick (f r) (g r) []) n ≡ flat g (select f n)
unfolding gather select flat
gather-used f g zero = refl
gather-used f g (suc n) = rw (gather-used f g n, flat_append) (ap (λ (xs : List ℕ). flat g (select f n) ++ xs) (one (f n)))
  where
    one : (b : Bool) → pick b (g n) [] ≡ flat g (pick b (n ∷ []) [])
    one true = sym (append-nil (g n))
    one false = refl

-- the first r regions are laid, up to a place; behind it the n bytes of region r go, which stand in the store from a place on
pub record Copying (s w old : List ℕ) (r next from n : ℕ) : Type 0 where
  pub room : next + n ≤ length old
  pub stop : from + n ≤ length s
  pub last : from + record_length s ≤ length s
  pub size : length (record_of s w r) ≡ n
  pub bytes : take n (drop from s) ≡ record_of s w r

module _ (s w : List ℕ) (inside : regions_at s + 4 + region_count s * record_length s ≤ length s) where
  pub length-used : length (gather (record_of s w) (region_count s)) ≡ rank (has (used_in w)) (region_count s) * record_length s
  length-used = ap length (gather-used (has (used_in w)) (λ r. region_record s r) (region_count s)) ∙ length_records s inside (has (used_in w)) (region_count s) (omega arith)

  pub copying : {old out : List ℕ} {r next from n : ℕ} (size : ℕ) → length old ≡ rank (has (used_in w)) (region_count s) * record_length s
      → Laid (record_of s w) old r next out → r < region_count s → from ≡ regions_at s + 4 + r * record_length s → size ≡ record_length s
      → n ≡ pick (has (used_in w) r) size 0 → Copying s w old r next from n
  unfolding region_record
  copying {old} {r = r} {next} {from} {n} size o l h f z e =
      let ends = record_ends s inside r h in
      let few : n ≤ record_length s = rw (e, z) (small (has (used_in w) r)) in
      let bytes : take n (drop from s) ≡ record_of s w r = rw (e, f, z) (one (has (used_in w) r)) in
      let fits : n ≤ length (drop from s) = rw length-drop (omega arith) in
      let m : length (record_of s w r) ≡ n = ap length (sym bytes) ∙ length-take-le n (drop from s) fits in
      record {
        room = rw m at (laid_inside (region_count s) l h (omega (arith, length-used)));
        stop = omega arith;
        last = omega arith;
        size = m;
        bytes = bytes;
      }
    where
      small : (b : Bool) → pick b (record_length s) 0 ≤ record_length s
      small true = omega arith
      small false = omega arith

      one : (b : Bool) → take (pick b (record_length s) 0) (drop (regions_at s + 4 + r * record_length s) s) ≡ pick b (take (record_length s) (drop (regions_at s + 4 + r * record_length s) s)) []
      one true = refl
      one false = refl

  pub records_all : {old out : List ℕ} {r next : ℕ} → length old ≡ rank (has (used_in w)) (region_count s) * record_length s → Laid (record_of s w) old r next out → r ≡ region_count s
      → out ≡ flat (λ r. region_record s r) (used_of s w)
  records_all o l e = laid_all (region_count s) l e (o ∙ sym length-used) ∙ gather-used (has (used_in w)) (λ r. region_record s r) (region_count s)

pub list_laid : (s w : List ℕ) {old m bytes : List ℕ} {axes used : ℕ} (end : ℕ) → axes ≡ axis_count s → used ≡ rank (has (used_in w)) (region_count s) → length old ≡ end → 4 ≤ end
    → Wrote old 0 (be_bytes 2 axes ++ be_bytes 2 used) m → bytes ≡ flat (λ r. region_record s r) (used_of s w) → put_mid 4 (end - 4) m bytes ≡ region_list_bytes s (used_of s w)
unfolding region_list_bytes
list_laid s w {old} {m} {bytes} {axes} {used} end a u l h p b =
    let head = be_bytes 2 axes ++ be_bytes 2 used in
    let n : length head ≡ 4 = simp (length-append, length-be_bytes) in
    let first : m ≡ head ++ drop 4 old = wrote_all p (omega arith) ∙ rw n in
    let list = head ++ flat (λ r. region_record s r) (used_of s w) in
    put_next old head list 4 end first n h b refl
    ∙ all_laid list old end (omega arith)
    ∙ rw (a, length-select (has (used_in w)) (region_count s), u)

-- the bytes behind the list's first four
pub records_length : (s w out : List ℕ) {axes used : ℕ} (end : ℕ) → axes ≡ axis_count s → used ≡ rank (has (used_in w)) (region_count s) → end ≡ 4 + used * (6 * axes) → length out ≡ end
    → length (take (end - 4) (drop 4 out)) ≡ rank (has (used_in w)) (region_count s) * record_length s
unfolding record_length
records_length s w out {axes} {used} end a u e l = rw (← u, ← a) (simp (length-take, length-drop) (omega arith))
