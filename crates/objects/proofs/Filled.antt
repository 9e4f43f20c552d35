-- A loop that lays pieces one after the other: the invariant by what is left to lay, and its steps.
use mathlib.Core.Path.{◌≡◌, refl, sym, ap, ◌∙◌}
use mathlib.Core.List.{List, [], ◌++◌, append_assoc, append-nil}
use Prim.Native.Nat.{ℕ, ◌+◌, ◌-◌, ◌≤◌}
use native.Mathlib.Omega.{arith}
use lib.ListN.{length, take, drop, length-append}
use lib.Seq.{sets-eq, take_at, take_all, drop-drop, length-take-le}
use borrow.Rule.Slice.PartMut.{mid_of, put_mid, mid_len, same_len_mid}
use Rattle.lists.proofs.Parts.{all_laid}
use Rattle.cells.specs.Be.{Wrote}
use Rattle.cells.proofs.Cells.{wrote_all}

-- the first `at` bytes of out, with what is left, are the whole
pub record Filled (out : List ℕ) (at : ℕ) (rest whole : List ℕ) : Type 0 where
  pub inside : at ≤ length out
  pub same : length out ≡ length whole
  pub is : take at out ++ rest ≡ whole

pub filled_none : {out whole : List ℕ} → length out ≡ length whole → Filled out 0 whole whole
filled_none e = record { inside = omega arith; same = e; is = refl }

-- the next piece ends inside
pub filled_room : {out : List ℕ} {at : ℕ} (piece rest : List ℕ) {whole : List ℕ} → Filled out at (piece ++ rest) whole → at + length piece ≤ length out
filled_room {out} {at} piece rest f =
    let l = length-take-le at out f.inside in
    omega (arith, f.same, ap length (sym f.is), length-append (take at out) (piece ++ rest), length-append piece rest)

pub filled_more : {out : List ℕ} {at : ℕ} (piece rest : List ℕ) {whole w : List ℕ} (e : ℕ) → Filled out at (piece ++ rest) whole → e ≡ at + length piece → w ≡ piece
    → Filled (put_mid at (e - at) out w) e rest whole
filled_more {out} {at} piece rest {whole} {w} e f h q =
    let room = filled_room piece rest f in
    let l = length-take-le at out f.inside in
    let n : length w ≡ length (mid_of at (e - at) out) = rw (q, mid_len at e out (omega arith)) (omega arith) in
    let m : length (put_mid at (e - at) out w) ≡ length out = same_len_mid at (e - at) out w n in
    let k : length (take at out ++ w) ≡ e = rw (length-append, q) (omega arith) in
    let t : take e (put_mid at (e - at) out w) ≡ take at out ++ w
    = ap (take e) (sym (append_assoc (take at out) w (drop (e - at) (drop at out)))) ∙ take_at (take at out ++ w) (drop (e - at) (drop at out)) e k in
    record {
      inside = omega arith;
      same = m ∙ f.same;
      is = rw (t, append_assoc, q) f.is;
    }

-- the same, of a piece stored number by number
pub filled_wrote : {out : List ℕ} {at : ℕ} (piece rest : List ℕ) {whole w : List ℕ} (e : ℕ) → Filled out at (piece ++ rest) whole → e ≡ at + length piece → Wrote out at piece w
    → Filled w e rest whole
filled_wrote {out} {at} piece rest {w = w} e f h p =
    let n : at + (e - at) ≡ at + length piece = omega arith in
    let m : w ≡ put_mid at (e - at) out piece = p.is ∙ sets-eq piece out at (filled_room piece rest f) ∙ rw (drop-drop, n, append_assoc) in
    rw m (filled_more piece rest e f h refl)

pub filled_all : {out : List ℕ} {at : ℕ} {whole : List ℕ} → Filled out at [] whole → out ≡ whole
filled_all {out} {at} {whole} f =
    let e : take at out ≡ whole = sym (append-nil (take at out)) ∙ f.is in
    let l = length-take-le at out f.inside in
    sym (take_all at out (omega (arith, f.same, ap length e))) ∙ e

-- a part that is written whole
pub wrote_whole : {l n xs : List ℕ} → Wrote l 0 xs n → length l ≡ length xs → n ≡ xs
wrote_whole {l} {n} {xs} w e = wrote_all w (omega arith) ∙ all_laid xs l (length xs) (omega arith)
