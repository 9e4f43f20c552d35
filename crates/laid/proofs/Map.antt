-- A written map, read again: its header, and for each listed glyph the numbers of the row that its pair went to.
use Prim.Native.Nat.{ℕ, ◌+◌, ◌*◌, ◌-◌, ◌/◌, ◌%◌, ◌^◌, ◌<◌, ◌≤◌, min}
use mathlib.Core.Path.{◌≡◌, ap, ◌∙◌}
use mathlib.Core.Bool.{false}
use mathlib.Core.List.{List, ◌++◌}
use native.Mathlib.Omega.{arith}
use native.Mathlib.Nat.{mod-eq_of_lt}
use lib.Arith.{digits_div, digits_mod}
use lib.ListN.{length, get_or, length-append}
use borrow.Author.Tests.{le-ltb, ne_eqb}
use Rattle.lists.specs.Gather.{gather}
use Rattle.lists.proofs.Stands.{Stands, stands_at, stands_left, stands_right}
use Rattle.lists.proofs.Gathered.{stands_gather}
use Rattle.cells.specs.Be.{be, be_bytes}
use Rattle.cells.proofs.Cells.{length-be_bytes}
use Rattle.opentype.specs.Map.{map_format, entry_format, inner_bits, entry_bytes, map_head, map_count, entry, outer_of, inner_of}
use Rattle.rules.specs.Lists.{Run, new_id, old_id}
use Rattle.rules.specs.Open.{bad_map}
use Rattle.rules.specs.Numbering.{pair_of, new_outer, new_inner}
use Rattle.rules.specs.Maps.{MapPlan, map_plan, entry_size, new_entry, entry_at, planned_map}
use Rattle.laid.proofs.Cells.{be_stands, be_back}
use Rattle.laws.specs.Glyphs.{Glyphs}
use Rattle.laws.specs.Entries.{entry_found}
use Rattle.laws.specs.Packed.{Packed, map-length}

-- the entry format comes apart
format_bits : (bits size : ℕ) → 1 ≤ bits → bits ≤ 16 → ((size - 1) * 16 + (bits - 1)) % 16 + 1 ≡ bits
format_bits bits size a b = rw (digits_mod (size - 1) {m = 16} {r = bits - 1} (omega arith)) (omega arith)

format_bytes : (bits size : ℕ) → 1 ≤ bits → bits ≤ 16 → 1 ≤ size → size ≤ 4 → ((size - 1) * 16 + (bits - 1)) / 16 % 4 + 1 ≡ size
format_bytes bits size a b c d = rw (digits_div (size - 1) {m = 16} {r = bits - 1} (omega arith), mod-eq_of_lt {n = size - 1} {m = 4} (omega arith)) (omega arith)

good_map : (u : List ℕ) (at : ℕ) → at + 2 ≤ length u → map_format u at ≤ 1 → inner_bits u at ≤ 8 * entry_bytes u at → at + map_head u at ≤ length u
    → 0 < map_count u at → at + map_head u at + map_count u at * entry_bytes u at ≤ length u → bad_map u at ≡ false
unfolding bad_map
good_map u at a f b h c l =
    rw (
      le-ltb (length u) (at + 2) a,
      le-ltb 1 (map_format u at) f,
      le-ltb (8 * entry_bytes u at) (inner_bits u at) b,
      le-ltb (length u) (at + map_head u at) h,
      ne_eqb (map_count u at) 0 (λ e. omega arith),
      le-ltb (length u) (at + map_head u at + map_count u at * entry_bytes u at) l,
    )

-- What is read of a map with the plan p that stands at a place.
pub record LaidMap (t : List ℕ) (rs : List Run) (es : List ℕ) (m : ℕ) (p : MapPlan) (u : List ℕ) (at : ℕ) : Type 0 where
  pub bits : inner_bits u at ≡ p.inner_bits
  pub bytes : entry_bytes u at ≡ entry_size p
  pub head : map_head u at ≡ 4
  pub count : map_count u at ≡ p.count
  pub sound : bad_map u at ≡ false
  pub entries : (j : ℕ) → j < p.count
      → be (entry_size p) u (at + 4 + j * entry_size p) ≡ entry_at (λ g. new_entry p.inner_bits rs (pair_of t m g)) es j % 256 ^ entry_size p

pub laid_map : {u : List ℕ} {at : ℕ} (t : List ℕ) (rs : List Run) (es : List ℕ) (m : ℕ) (p : MapPlan) → Packed t rs es m p → entry_size p ≤ 4
    → Stands u at (planned_map t rs es m p) → LaidMap t rs es m p u at
unfolding planned_map map_format entry_format inner_bits entry_bytes map_head map_count
laid_map {u} {at} t rs es m p fits most s =
    let size = entry_size p in
    let packs = (size - 1) * 16 + (p.inner_bits - 1) in
    let format = be_bytes 1 0 in
    let packed = be_bytes 1 packs in
    let count = be_bytes 2 p.count in
    let piece : ℕ → List ℕ = λ j. be_bytes size (entry_at (λ g. new_entry p.inner_bits rs (pair_of t m g)) es j) in
    let s1 = stands_left (format ++ packed ++ count) (gather piece p.count) s in
    let s2 = stands_left (format ++ packed) count s1 in
    let small : packs < 256 ^ 1 = omega (arith, fits.some_bits, fits.few_bits, fits.some_bytes) in
    let f : be 1 u at ≡ 0 = be_back 1 0 (omega arith) (stands_left format packed s2) in
    let e : be 1 u (at + 1) ≡ packs = be_back 1 packs small (stands_at (rw length-be_bytes) (stands_right format packed s2)) in
    let n : be 2 u (at + 2) ≡ p.count
    = be_back 2 p.count (omega (arith, fits.few_entries)) (stands_at (simp (length-append, length-be_bytes)) (stands_right (format ++ packed) count s1)) in
    let bits : inner_bits u at ≡ p.inner_bits = rw e (format_bits p.inner_bits size fits.some_bits fits.few_bits) in
    let bytes : entry_bytes u at ≡ size = rw e (format_bytes p.inner_bits size fits.some_bits fits.few_bits fits.some_bytes most) in
    let head : map_head u at ≡ 4 = rw f in
    let entries : map_count u at ≡ p.count = rw f n in
    let inside : at + (4 + p.count * size) ≤ length u = rw (map-length t rs es m p) at s.inside in
    record {
      bits = bits;
      bytes = bytes;
      head = head;
      count = entries;
      sound = good_map u at (omega arith) (rw f (omega arith)) (rw (bits, bytes) fits.inside) (rw head (omega arith)) (rw entries fits.some_entries) (rw (head, entries, bytes) (omega arith));
      entries = λ j l. be_stands size _ (stands_gather piece size (λ k. length-be_bytes size _) j p.count l
          (stands_at (simp (length-append, length-be_bytes)) (stands_right (format ++ packed ++ count) (gather piece p.count) s)));
    }

-- A listed glyph's entry: where its pair's row went.
pub map_glyph : {u : List ℕ} {at : ℕ} (t : List ℕ) (rs : List Run) (es : List ℕ) (m : ℕ) → Glyphs es → Packed t rs es m (map_plan t rs es m)
    → LaidMap t rs es m (map_plan t rs es m) u at → (n : ℕ) → n < length es
    → (outer_of u at (new_id (get_or es n 0)) ≡ new_outer rs (pair_of t m (old_id (get_or es n 0))))
    × (inner_of u at (new_id (get_or es n 0)) ≡ new_inner rs (pair_of t m (old_id (get_or es n 0))))
unfolding outer_of inner_of entry map_plan new_entry
map_glyph {u} {at} t rs es m good fits laid n h =
    let p = map_plan t rs es m in
    let bits = p.inner_bits in
    let pair = pair_of t m (old_id (get_or es n 0)) in
    let j = min (new_id (get_or es n 0)) (p.count - 1) in
    let l : j < p.count = omega (arith, fits.some_entries) in
    let found : entry u at (new_id (get_or es n 0)) ≡ new_entry bits rs pair
    = rw (laid.bytes, laid.head, laid.count)
    (laid.entries j l ∙ (ap (λ (v : ℕ). v % 256 ^ entry_size p) (entry_found (λ g. pair_of t m g) (λ q. new_entry bits rs q) 0 es good.rise n h)
    ∙ mod-eq_of_lt (fits.entry n h))) in
    (rw (laid.bits, found) (digits_div (new_outer rs pair) (fits.inner n h)), rw (laid.bits, found) (digits_mod (new_outer rs pair) (fits.inner n h)))
