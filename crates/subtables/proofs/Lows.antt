-- The low bytes of a delta are the last ones of its cell.
use Prim.Native.Nat.{ℕ, zero, suc, ◌+◌, ◌*◌, ◌-◌, ◌/◌, ◌^◌, ◌≤◌, ◌<◌}
use mathlib.Core.Path.{◌≡◌, refl, sym, ap, ◌∙◌}
use mathlib.Core.Bool.{Bool, true, false}
use mathlib.Core.List.{List}
use native.Mathlib.Omega.{arith}
use native.Mathlib.Decide.{dec_lt}
use native.Mathlib.Nat.{pow-suc, mul_assoc, mul-add-div_right, mul-add-mod_self_right, zero-lt-suc, suc-mul}
use lib.Pow.{pow-add}
use lib.ListN.{length, get_or}
use borrow.Author.Tests.{lt-ltb, le-ltb}
use Rattle.cells.specs.Be.{be, be_bytes}
use Rattle.cells.specs.Sign.{sign, signed_at, signed_bytes, Size}
use Rattle.cells.proofs.Cells.{be_cat, be_lt}
use Rattle.cells.proofs.Twos.{sign_low, sign_high}
use Rattle.opentype.specs.Subtable.{word_size, rest_size, cell_at, cell_size, delta}
use Rattle.laws.specs.Rows.{cell_has_size}
use Rattle.readers.specs.declared.subtable.Shape.{Shape}
use Rattle.readers.specs.Opened.{Opened}
use Rattle.readers.proofs.Subtables.{delta_there, delta_no_item, cell_ends}

-- what stands above b bytes does not reach them
low_bytes : (b q r : ℕ) → be_bytes b (q * 256 ^ b + r) ≡ be_bytes b r
unfolding be_bytes
low_bytes zero q r = refl
low_bytes (suc b) q r =
    rw (pow-suc, ← mul_assoc q (256 ^ b) 256, mul-add-div_right {m = 256} (zero-lt-suc 255) (q * 256 ^ b) r, mul-add-mod_self_right (q * 256 ^ b) 256 r, low_bytes b q (r / 256))

-- 2 h is the width's power, of which suc q are 2 ^ 32
sign_bytes : (q h m b u : ℕ) → 2 ^ 32 ≡ suc q * (h + h) → h + h ≡ m * 256 ^ b → u < h + h → signed_bytes b (sign h u) ≡ be_bytes b u
sign_bytes q h m b u e f l = elim (dec_lt u h) [
  | yes p ↦ rw (sign_low h u p)
  | no p ↦ (let g : h ≤ u = omega arith in
      let k : q * (h + h) ≡ q * m * 256 ^ b = rw f (sym (mul_assoc q m (256 ^ b))) in
      let n : 2 ^ 32 - suc (h + h - suc u) ≡ q * m * 256 ^ b + u = omega (arith, suc-mul q (h + h), k) in
      rw (sign_high h u g, n) (low_bytes b (q * m) u))
]

-- a cell of any size, a + b bytes
cell_bytes : (a b w u : ℕ) → Size w → w ≡ a + b → u < 256 ^ w → signed_bytes b (sign (256 ^ w / 2) u) ≡ be_bytes b u
cell_bytes a b zero u z e l = absurd (omega arith)
cell_bytes a b (suc zero) u z e l = sign_bytes 16777215 128 (256 ^ a) b u refl (ap (λ (n : ℕ). 256 ^ n) e ∙ pow-add 256 a b) l
cell_bytes a b (suc (suc zero)) u z e l = sign_bytes 65535 32768 (256 ^ a) b u refl (ap (λ (n : ℕ). 256 ^ n) e ∙ pow-add 256 a b) l
cell_bytes a b (suc (suc (suc zero))) u z e l = absurd (z.even refl)
cell_bytes a b (suc (suc (suc (suc zero)))) u z e l = sign_bytes 0 2147483648 (256 ^ a) b u refl (ap (λ (n : ℕ). 256 ^ n) e ∙ pow-add 256 a b) l
cell_bytes a b (suc (suc (suc (suc (suc w))))) u z e l = absurd (omega arith)

pub last_bytes : (w b : ℕ) (s : List ℕ) (at : ℕ) → Size w → b ≤ w → ((i : ℕ) → get_or s i 0 < 256) → signed_bytes b (signed_at w s at) ≡ be_bytes b (be b s (at + (w - b)))
last_bytes w b s at z h t =
    let e : w ≡ (w - b) + b = omega arith in
    cell_bytes (w - b) b w (be w s at) z e (be_lt w s at t)
    ∙ ap (λ (n : ℕ). be_bytes b (be n s at)) e
    ∙ rw (be_cat (w - b) b s at) (low_bytes b (be (w - b) s at) (be b s (at + (w - b))))

-- the last bytes before a place are the low bytes of a cell that ends there
pub low_last : (s : List ℕ) {r size end : ℕ} (w : ℕ) → Size w → size ≤ w → w ≤ end → ((i : ℕ) → get_or s i 0 < 256) → r ≡ be size s (end - size)
    → be_bytes size r ≡ signed_bytes size (signed_at w s (end - w))
low_last s {r} {size} {end} w z h l b e =
    let p : end - size ≡ end - w + (w - size) = omega arith in
    rw (e, p) (sym (last_bytes w size s (end - w) z h b))

-- a column's cell ends where the next one starts
pub cell_next : (is_long : Bool) (words c : ℕ) → cell_at is_long words (c + 1) ≡ cell_at is_long words c + cell_size is_long words c
unfolding cell_at cell_size
cell_next is_long words c = elim (dec_lt (c + 1) words) [
  | yes p ↦ (let h : c < words = omega arith in rw (lt-ltb (c + 1) words p, lt-ltb c words h) (word is_long))
  | no p ↦ (let g : words ≤ c + 1 = omega arith in rw (le-ltb (c + 1) words g) (elim (dec_lt c words) [
    | yes q ↦ rw (lt-ltb c words q) (last is_long q g)
    | no q ↦ (let h : words ≤ c = omega arith in rw (le-ltb c words h) (rest is_long h))
  ]))
]
  where
    word : (l : Bool) → (c + 1) * word_size l ≡ c * word_size l + word_size l
    word true = omega arith
    word false = omega arith

    last : (l : Bool) → c < words → words ≤ c + 1 → words * word_size l + (c + 1 - words) * rest_size l ≡ c * word_size l + word_size l
    last true h g = omega arith
    last false h g = omega arith

    rest : (l : Bool) → words ≤ c → words * word_size l + (c + 1 - words) * rest_size l ≡ words * word_size l + (c - words) * rest_size l + rest_size l
    rest true h = omega arith
    rest false h = omega arith

module _ {s : List ℕ} {t : Shape} (o : Opened s t) (item column size : ℕ) where
  -- an item that is not there has zeros
  pub low_no_item : t.items ≤ item → be_bytes size 0 ≡ signed_bytes size (delta s t.at item column)
  low_no_item h = rw (← delta_no_item o item column h)

  -- the cell ends inside
  pub low_ends : item < t.items → column < t.columns → t.rows + item * t.row + cell_at t.long t.words (column + 1) ≤ length s
  low_ends h k = omega (arith, cell_next t.long t.words column, cell_ends o item column h k)

  pub low_there : (r : ℕ) → item < t.items → column < t.columns → size ≤ cell_size t.long t.words column
      → let end = t.rows + item * t.row + cell_at t.long t.words (column + 1) in
      ((w : ℕ) → Size w → size ≤ w → w ≤ end → be_bytes size r ≡ signed_bytes size (signed_at w s (end - w))) → be_bytes size r ≡ signed_bytes size (delta s t.at item column)
  low_there r h k l f =
      let w = cell_size t.long t.words column in
      let at = t.rows + item * t.row + cell_at t.long t.words column in
      let n = cell_next t.long t.words column in
      let p : t.rows + item * t.row + cell_at t.long t.words (column + 1) - w ≡ at = omega (arith, n) in
      rw (← delta_there o item column h k refl) (rw p at (f w (cell_has_size t.long t.words column) l (omega (arith, n))))
