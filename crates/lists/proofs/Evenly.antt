-- A loop that lays pieces of one length: the steps of `Laid` where each turn stores its piece, number by number or cell by cell.
use Prim.Native.Nat.{ℕ, ◌+◌, ◌-◌, ◌*◌, ◌≤◌, ◌<◌}
use mathlib.Core.Path.{◌≡◌, refl, ◌∙◌}
use mathlib.Core.List.{List, append_assoc}
use native.Mathlib.Omega.{arith}
use lib.ListN.{length}
use lib.Seq.{sets, sets-eq, drop-drop}
use borrow.Rule.Slice.PartMut.{put_mid}
use Rattle.lists.specs.Gather.{tab, flat}
use Rattle.lists.proofs.Pieces.{gather-length}
use Rattle.lists.proofs.Tabs.{gather-tab}
use Rattle.lists.proofs.Laid.{Laid, laid_inside, laid_more, laid_all}

-- the next piece, stored number by number
pub laid_sets : {f : ℕ → List ℕ} {old : List ℕ} {k at : ℕ} {out w : List ℕ} {e : ℕ} → Laid f old k at out → e ≡ at + length (f k) → e ≤ length old
    → w ≡ sets out at (f k) → Laid f old (k + 1) e w
laid_sets {f} {old} {k} {at} {out} {w} {e} l p h q =
    let n : at + (e - at) ≡ at + length (f k) = omega arith in
    let m : w ≡ put_mid at (e - at) out (f k) = q ∙ sets-eq (f k) out at (omega arith) ∙ rw (drop-drop, n, append_assoc) in
    rw m (laid_more l p h refl)

-- Pieces of one length n, those of g 0, g 1, ..
module _ {A : Type 0} (f : A → List ℕ) (n : ℕ) (same : (x : A) → length (f x) ≡ n) (g : ℕ → A) {old : List ℕ} {k at : ℕ} {out : List ℕ} where
  -- the next one ends inside, where m of them are the whole
  pub even_room : (m : ℕ) → Laid (λ j. f (g j)) old k at out → k < m → length old ≡ m * n → at + n ≤ length old
  even_room m l h e =
      let t = gather-length (λ j. f (g j)) n (λ j. same (g j)) m in
      omega (arith, laid_inside m l h (omega arith), same (g k))

  pub even_more : {w : List ℕ} → Laid (λ j. f (g j)) old k at out → at + n ≤ length old → w ≡ sets out at (f (g k)) → Laid (λ j. f (g j)) old (k + 1) (at + n) w
  even_more l h q = laid_sets l (omega (arith, same (g k))) h q

  pub even_all : (m : ℕ) → Laid (λ j. f (g j)) old k at out → k ≡ m → length old ≡ m * n → out ≡ flat f (tab g m)
  even_all m l e h =
      let t = gather-length (λ j. f (g j)) n (λ j. same (g j)) m in
      laid_all m l e (omega arith) ∙ gather-tab f g m
