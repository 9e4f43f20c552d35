-- The table as it is laid: header, maps, and the store between them.
use Prim.Native.Nat.{ℕ, ◌+◌, ◌-◌, ◌*◌, ◌≤◌}
use mathlib.Core.Path.{◌≡◌, refl, ap, ◌∙◌}
use mathlib.Core.Bool.{Bool, true, false}
use mathlib.Core.List.{List, [], ◌∷◌, ◌++◌}
use native.Mathlib.Omega.{arith}
use lib.ListN.{length, take, drop, length-append, length-drop}
use lib.Seq.{length-take-le}
use borrow.Rule.Slice.PartMut.{put_mid}
use Rattle.lists.specs.Gather.{gather, tab}
use Rattle.lists.specs.Search.{some}
use Rattle.lists.proofs.Pieces.{length-tab}
use Rattle.lists.proofs.Tabs.{gather-tab}
use Rattle.lists.proofs.Parts.{put_next, put_apart}
use Rattle.cells.specs.Be.{be_bytes}
use Rattle.cells.proofs.Cells.{length-be_bytes}
use Rattle.opentype.specs.Table.{header_length, store_of}
use Rattle.rules.specs.declared.Refusal.{Refusal}
use Rattle.rules.specs.declared.Refusal.TheVariants.{WideEntry}
use Rattle.rules.specs.Numbers.{Outcome, refused, written}
use Rattle.rules.specs.Lists.{Run}
use Rattle.rules.specs.StoreCut.{cut_opened}
use Rattle.rules.specs.Numbering.{kept_pairs}
use Rattle.rules.specs.Maps.{wide_entry, map_bytes}
use Rattle.rules.specs.TableCut.{map_offsets, lay_table, table_written, with_store, cut_kept}
use Rattle.std.specs.Prelude.{Option}
use Rattle.maps.specs.declared.plan.MapPlan.{MapPlan}
use Rattle.frame.specs.Plans.{kept_runs, part_at, offset_at, MapsPlanned}
use Rattle.frame.proofs.Offsets.{offsets_up_to}

-- ---- the lengths

length-offsets : (at : ℕ) (parts : List (List ℕ)) → length (map_offsets at parts) ≡ 4 * length parts
unfolding map_offsets
length-offsets at [] = refl
length-offsets at (part ∷ parts) = rw (length-append, length-be_bytes, length-offsets (at + length part) parts) (omega arith)

pub table_length : (maps : ℕ) (t store : List ℕ) (f : ℕ → List ℕ) → 4 ≤ length t
    → length (lay_table maps t store (tab f maps)) ≡ 8 + 4 * maps + length store + length (gather f maps)
unfolding lay_table
table_length maps t store f h =
    simp (length-append, length-take-le 4 t h, length-be_bytes, length-offsets, length-tab, ← gather-tab (λ part. part) f) (omega arith)

-- ---- the bytes

pub table_laid : {maps : ℕ} {t es : List ℕ} {plans : List (Option MapPlan)} {wide : Bool} {total : ℕ} (old store : List ℕ) (size : ℕ) {h s m : List ℕ}
    → MapsPlanned maps t es plans wide total maps → size ≡ length store → 4 ≤ length t
    → h ≡ take 4 t ++ be_bytes 4 (header_length maps) ++ gather (λ k. offset_at plans (8 + 4 * maps + size) k) maps → s ≡ store → m ≡ gather (λ k. part_at maps t es k) maps
    → 8 + 4 * maps + size + total ≤ length old
    → put_mid (8 + 4 * maps) (8 + 4 * maps + size - (8 + 4 * maps)) (put_mid (8 + 4 * maps + size) (8 + 4 * maps + size + total - (8 + 4 * maps + size)) (h ++ drop (8 + 4 * maps) old) m) s
    ≡ lay_table maps t store (tab (λ k. part_at maps t es k) maps) ++ drop (8 + 4 * maps + size + total) old
unfolding lay_table header_length
table_laid {maps} {t} {es} {plans} {total = total} old store size {h = bytes} {s = kept} {m = laid} p n four h s m fits =
    let head = 8 + 4 * maps in
    let part : ℕ → List ℕ = λ k. part_at maps t es k in
    let header = take 4 t ++ be_bytes 4 (header_length maps) ++ map_offsets (head + length store) (tab part maps) in
    let same = rw (offsets_up_to p (head + size) maps (omega arith), n) at h in
    let l : length header ≡ head = simp (length-append, length-take-le 4 t four, length-be_bytes, length-offsets, length-tab) in
    let k : length (header ++ store) ≡ head + size = rw (length-append, l) (omega arith) in
    let start = header ++ drop head old in
    let p₁ : bytes ++ drop head old ≡ start = rw same in
    let room : head + size ≤ length start = rw (length-append, l, length-drop) (omega arith) in
    let k₁ : length kept ≡ head + size - head = omega (arith, ap length s) in
    let p₂ = put_next old header (header ++ store) head (head + size) refl l (omega arith) s refl in
    let p₃ = put_next old (header ++ store) ((header ++ store) ++ gather part maps) (head + size) (head + size + total) p₂ k (omega arith) m refl in
    ap (λ (z : List ℕ). put_mid head (head + size - head) (put_mid (head + size) (head + size + total - (head + size)) z laid) kept) p₁
    ∙ (put_apart head (head + size) (head + size + total - (head + size)) start kept laid (omega arith) room k₁
    ∙ rw (← gather-tab (λ k. k) part) p₃)

-- ---- the outcome

pub wide_outcome : (maps : ℕ) (t : List ℕ) (rs : List Run) (es store : List ℕ) → some (λ m. wide_entry t rs es m) maps ≡ true
    → with_store maps t rs es (written store) ≡ refused WideEntry
unfolding with_store
wide_outcome maps t rs es store e = rw e

pub laid_outcome : (maps : ℕ) (t : List ℕ) (rs : List Run) (es store : List ℕ) → some (λ m. wide_entry t rs es m) maps ≡ false
    → with_store maps t rs es (written store) ≡ written (lay_table maps t store (tab (λ m. map_bytes t rs es m) maps))
unfolding with_store table_written
laid_outcome maps t rs es store e = rw e

pub kept_outcome : {o : Outcome} (maps : ℕ) (t es s : List ℕ) → s ≡ store_of t → cut_opened s (kept_pairs maps t es) true ≡ o
    → cut_kept maps t es (kept_pairs maps t es) ≡ with_store maps t (kept_runs maps t es) es o
unfolding cut_kept
kept_outcome maps t es s e h = rw (← e, h)

pub refused_outcome : {r : Refusal} (maps : ℕ) (t es s : List ℕ) → s ≡ store_of t → cut_opened s (kept_pairs maps t es) true ≡ refused r
    → cut_kept maps t es (kept_pairs maps t es) ≡ refused r
unfolding with_store
refused_outcome maps t es s e h = kept_outcome maps t es s e h
