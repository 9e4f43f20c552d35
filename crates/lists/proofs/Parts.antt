-- Laws of parts: a part of a list written over, and what is laid so far.
use mathlib.Core.Path.{◌≡◌, sym, ap, ◌∙◌}
use mathlib.Core.List.{List, ◌++◌, append_assoc, append-nil}
use Prim.Native.Nat.{ℕ, ◌+◌, ◌-◌, ◌≤◌}
use native.Mathlib.Omega.{arith}
use lib.ListN.{length, take, drop, length-append, drop_of_length-le}
use lib.Seq.{sets, sets-eq, length-take-le, take_at, drop_at, drop-drop}
use borrow.Rule.Slice.PartMut.{put_mid, take_put, drop_put, Post-is}
use Rattle.lists.proofs.Cuts.{front_same}

-- Nothing of the old list is left.
pub all_laid : (done old : List ℕ) (n : ℕ) → length old ≤ n → done ++ drop n old ≡ done
all_laid done old n h = rw (drop_of_length-le old h) (append-nil done)

-- A whole list written over, store by store.
pub sets_all : (vs l : List ℕ) → length l ≡ length vs → sets l 0 vs ≡ vs
sets_all vs l e = sets-eq vs l 0 (omega arith) ∙ all_laid vs l (0 + length vs) (omega arith)

-- `done` is laid, up to a. A part from a to e is lent and comes back as w, so that more is laid.
pub put_next : (old done more : List ℕ) (a e : ℕ) {out w w' : List ℕ} → out ≡ done ++ drop a old → length done ≡ a → a ≤ e → w ≡ w' → done ++ w' ≡ more → put_mid a (e - a) out w ≡ more ++ drop e old
put_next old done more a e p l h q r =
    let k : a + (e - a) ≡ e = omega arith in
    simp (p, q, take_at done (drop a old) a l, drop_at done (drop a old) a l, drop-drop (e - a) a old, k, ← r, append_assoc)

-- Two parts of which one ends where the other starts are laid in any order.
pub put_apart : (a e k : ℕ) (xs u v : List ℕ) → a ≤ e → e ≤ length xs → length u ≡ e - a → put_mid a (e - a) (put_mid e k xs v) u ≡ put_mid e k (put_mid a (e - a) xs u) v
put_apart a e k xs u v h g l =
    let ys = put_mid e k xs v in
    let zs = put_mid a (e - a) xs u in
    let rest = v ++ drop k (drop e xs) in
    let front : take a ys ≡ take a xs = front_same ys xs e (take_put e k xs v g) a h in
    let behind : drop (e - a) (drop a ys) ≡ rest = Post-is a e ys h ∙ drop_at (take e xs) rest e (length-take-le e xs g) in
    let n : length (take a xs ++ u) ≡ e = rw (length-append, length-take-le a xs (omega arith)) (omega arith) in
    let both : take e zs ≡ take a xs ++ u
    = ap (λ (z : List ℕ). take e z) (sym (append_assoc (take a xs) u (drop (e - a) (drop a xs)))) ∙ take_at (take a xs ++ u) (drop (e - a) (drop a xs)) e n in
    ap (λ (z : List ℕ). z ++ (u ++ drop (e - a) (drop a ys))) front
    ∙ (ap (λ (z : List ℕ). take a xs ++ (u ++ z)) behind
    ∙ (sym (append_assoc (take a xs) u rest)
    ∙ sym (ap (λ (z : List ℕ). z ++ (v ++ drop k (drop e zs))) both ∙ ap (λ (z : List ℕ). (take a xs ++ u) ++ (v ++ drop k z)) (drop_put a e xs u h g l))))
