-- The header as it is laid.
use Prim.Native.Nat.{ℕ, ◌+◌, ◌-◌, ◌*◌, ◌≤◌}
use mathlib.Core.Path.{◌≡◌, refl, ◌∙◌}
use mathlib.Core.List.{List, ◌++◌}
use native.Mathlib.Omega.{arith}
use lib.ListN.{length, take, drop, replicate, length-append, length-replicate}
use lib.Seq.{length-take-le}
use borrow.Rule.Slice.PartMut.{put_mid}
use Rattle.lists.proofs.Parts.{put_next, all_laid}
use Rattle.cells.specs.Be.{be_bytes, Wrote}
use Rattle.cells.proofs.Cells.{length-be_bytes, wrote_cat, wrote_all}
use Rattle.opentype.specs.Table.{header_length}
use Rattle.rules.specs.TableCut.{null_table}

module _ (maps : ℕ) (t old : List ℕ) {m : List ℕ} (whole : 4 ≤ length t) (room : 8 + 4 * maps ≤ length old) (version : Wrote old 0 (take 4 t) m) where
  four : length (take 4 t) ≡ 4
  four = length-take-le 4 t whole

  pub null_laid : {w : List ℕ} → w ≡ replicate (4 + 4 * maps) 0 → put_mid 4 (8 + 4 * maps - 4) m w ≡ null_table maps t ++ drop (8 + 4 * maps) old
  unfolding null_table
  null_laid e =
      let laid = wrote_all version (omega (arith, four)) in
      put_next old (take 4 t) (null_table maps t) 4 (8 + 4 * maps) (laid ∙ rw four) four (omega arith) e refl

  pub header_laid : {n w : List ℕ} (offsets : List ℕ) → length old ≡ 8 + 4 * maps → Wrote m 4 (be_bytes 4 (8 + 4 * maps)) n → w ≡ offsets
      → put_mid 8 (8 + 4 * maps - 8) n w ≡ take 4 t ++ be_bytes 4 (header_length maps) ++ offsets
  unfolding header_length
  header_laid offsets exact next e =
      let done = take 4 t ++ be_bytes 4 (8 + 4 * maps) in
      let l : length done ≡ 8 = rw (length-append, four, length-be_bytes) in
      let laid = wrote_all (wrote_cat version next (rw four)) (omega arith) in
      put_next old done (done ++ offsets) 8 (8 + 4 * maps) (laid ∙ rw l) l (omega arith) e refl
      ∙ all_laid (done ++ offsets) old (8 + 4 * maps) (omega arith)

pub null_length : (maps : ℕ) (t : List ℕ) → 4 ≤ length t → length (null_table maps t) ≡ 8 + 4 * maps
unfolding null_table
null_length maps t h = rw (length-append, length-take-le 4 t h, length-replicate) (omega arith)
