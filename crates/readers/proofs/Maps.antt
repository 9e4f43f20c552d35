-- Laws of an opened map.
use Prim.Native.Nat.{ℕ, ◌+◌, ◌*◌, ◌-◌, ◌/◌, ◌%◌, ◌^◌, ◌<◌, ◌≤◌, min}
use mathlib.Core.Path.{◌≡◌, refl}
use mathlib.Core.List.{List}
use native.Mathlib.Omega.{arith}
use native.Mathlib.Nat.{mod-eq_of_lt, one-mul}
use lib.Pow.{pow-lt}
use lib.ListN.{length}
use lib.Dec.{eqb}
use Rattle.lists.specs.Pick.{pick}
use Rattle.cells.specs.Be.{be, Cell}
use Rattle.opentype.specs.Map.{map_format, entry_format, inner_bits, entry_bytes, map_head, map_count, entry, outer_of, inner_of}
use Rattle.laws.specs.Inside.{MapInside}
use Rattle.laws.specs.Rows.{row_inside}
use Rattle.readers.specs.declared.map.MapShape.{MapShape}
use Rattle.readers.specs.Opened.{OpenedMap}

-- what was read of a map that row 12 lets through makes an opened map
pub opened_map : (s : List ℕ) (at : ℕ) {format packed head count : ℕ} → MapInside s at → Cell 1 s at format
    → Cell 1 s (at + 1) packed
    → head ≡ pick (eqb format 0) 4 6 → count ≡ pick (eqb format 0) (be 2 s (at + 2)) (be 4 s (at + 2))
    → OpenedMap s (record { at = at; entries = at + head; count = count; size = packed / 16 % 4 + 1; bits = packed % 16 + 1 })
unfolding map_format entry_format inner_bits entry_bytes map_head map_count
opened_map s at {format} {packed} {head} {count} i f p h n =
    let e : head ≡ pick (eqb (be 1 s at) 0) 4 6 = rw (← f.is) h in
    let k : count ≡ pick (eqb (be 1 s at) 0) (be 2 s (at + 2)) (be 4 s (at + 2)) = rw (← f.is) n in
    let z : packed / 16 % 4 + 1 ≡ be 1 s (at + 1) / 16 % 4 + 1 = rw (← p.is) in
    record {
      entries = rw e;
      count = k;
      size = z;
      bits = rw (← p.is);
      some = rw k i.some;
      one = omega arith;
      short = omega arith;
      few = omega arith;
      fits = rw p.is i.bits;
      inside = rw (e, k, z) i.inside;
    }

module _ {s : List ℕ} {m : MapShape} (o : OpenedMap s m) (g : ℕ) where
  pub entry_inside : {i : ℕ} → i ≡ min g (m.count - 1) → m.entries + i * m.size + m.size ≤ length s
  entry_inside {i} h = omega (arith, row_inside i m.count m.size (omega arith))

  pub pair_is : {i e : ℕ} → i ≡ min g (m.count - 1) → Cell m.size s (m.entries + i * m.size) e
      → (e / 2 ^ m.bits ≡ outer_of s m.at g) × (e % 2 ^ m.bits ≡ inner_of s m.at g)
  unfolding outer_of inner_of entry
  pair_is {i} {e} h c =
      let k : be m.size s (m.at + map_head s m.at + min g (m.count - 1) * m.size) ≡ e = rw (← o.entries, ← h, ← c.is) in
      rw (← o.bits, ← o.size, ← o.count, k) (refl, refl)

pub shifted_one : (k : ℕ) → k < 32 → (1 * 2 ^ k) % 4294967296 ≡ 2 ^ k
shifted_one k h = rw (one-mul (2 ^ k)) (mod-eq_of_lt (pow-lt {i = k} {j = 32} h))
