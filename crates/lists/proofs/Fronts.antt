-- A loop that lays f 0, f 1, .. one after the other, where a turn may spoil what lies behind its piece: the invariant, and its steps.
use mathlib.Core.Path.{◌≡◌, refl, sym, ap, ◌∙◌}
use mathlib.Core.List.{List, ◌++◌}
use Prim.Native.Nat.{ℕ, ◌+◌, ◌-◌, ◌≤◌, ◌<◌}
use native.Mathlib.Omega.{arith}
use lib.ListN.{length, take}
use lib.Seq.{take_all, take-add, take-take, take-append-add, take-append-le, length-take-le}
use borrow.Rule.Slice.PartMut.{mid_of, post_of, put_mid, mid_len, same_len_mid}
use Rattle.lists.specs.Gather.{gather}
use Rattle.lists.proofs.Pieces.{gather_none, gather_more, gather_length_more, gather_inside}

-- a part from a on is lent and comes back as w: the front up to n elements of it
pub put_front : (a k n : ℕ) (out w : List ℕ) → a ≤ length out → n ≤ length w → take (a + n) (put_mid a k out w) ≡ take a out ++ take n w
put_front a k n out w h g =
    (rw (length-take-le a out h) at (take-append-add (take a out) (w ++ post_of a k out) n)) ∙ rw (take-append-le n w (post_of a k out) g)

-- the front of out, up to `at`, is the first k pieces
pub record Fronted (f : ℕ → List ℕ) (old : List ℕ) (k at : ℕ) (out : List ℕ) : Type 0 where
  pub up_to : at ≡ length (gather f k)
  pub same : length out ≡ length old
  pub is : take at out ≡ gather f k

pub fronted_none : (f : ℕ → List ℕ) (old : List ℕ) → Fronted f old 0 0 old
fronted_none f old = record { up_to = rw gather_none; same = refl; is = rw gather_none }

-- the next piece ends inside, where all n do
pub fronted_inside : {f : ℕ → List ℕ} {old : List ℕ} {k at : ℕ} {out : List ℕ} (n : ℕ) → Fronted f old k at out → k < n → length (gather f n) ≤ length old → at + length (f k) ≤ length old
fronted_inside {f} {old} {k} n l h g = omega (arith, l.up_to, gather_inside f k n h)

-- all that lies behind the pieces is lent, and comes back with the next one at its front
pub fronted_more : {f : ℕ → List ℕ} {old : List ℕ} {k at : ℕ} {out : List ℕ} (w : List ℕ) {e n : ℕ} → Fronted f old k at out → e ≡ length (f k) → at + e ≤ length old → n ≡ length old
    → length w ≡ n - at → take e w ≡ f k → Fronted f old (k + 1) (at + e) (put_mid at (n - at) out w)
fronted_more {f} {old} {k} {at} {out} w {e} {n} l p h q m t = record {
  up_to = rw gather_length_more (omega (arith, l.up_to));
  same = same_len_mid at (n - at) out w (m ∙ sym (mid_len at n out (omega (arith, l.same)))) ∙ l.same;
  is = put_front at (n - at) e out w (omega (arith, l.same)) (omega arith) ∙ rw (l.is, t, gather_more);
}

-- the pieces are the whole
pub fronted_all : {f : ℕ → List ℕ} {old : List ℕ} {k at : ℕ} {out : List ℕ} (n : ℕ) → Fronted f old k at out → k ≡ n → length old ≡ length (gather f n) → out ≡ gather f n
fronted_all {f} {at = at} {out = out} n l e h = sym (take_all at out (omega (arith, l.same, l.up_to, ap (λ j. length (gather f j)) e))) ∙ l.is ∙ rw e

-- ---- the same for a copy in blocks

-- the front of out, up to `at`, is that of s
pub record Agreed (s old : List ℕ) (at : ℕ) (out : List ℕ) : Type 0 where
  pub same : length out ≡ length old
  pub is : take at out ≡ take at s

-- s's elements from `at` to e come over those of out
pub agreed_more : {s old : List ℕ} {at e : ℕ} {out : List ℕ} (w : List ℕ) → Agreed s old at out → at ≤ e → e ≤ length old → e ≤ length s → w ≡ mid_of at (e - at) s
    → Agreed s old e (put_mid at (e - at) out w)
agreed_more {s} {old} {at} {e} {out} w l h g k q =
    let n : length w ≡ e - at = ap length q ∙ mid_len at e s k in
    let m : at + (e - at) ≡ e = omega arith in
    record {
      same = same_len_mid at (e - at) out w (n ∙ sym (mid_len at e out (omega (arith, l.same)))) ∙ l.same;
      is = (rw m at (put_front at (e - at) (e - at) out w (omega (arith, l.same)) (omega arith))) ∙ rw (l.is, take_all (e - at) w (omega arith), q, ← take-add at (e - at) s, m);
    }

pub agreed_end : {s old : List ℕ} {at : ℕ} {out : List ℕ} (n : ℕ) → Agreed s old at out → n ≤ at → take n out ≡ take n s
agreed_end {s} {at = at} {out = out} n l h = sym (take-take n at out h) ∙ ap (take n) l.is ∙ take-take n at s h
