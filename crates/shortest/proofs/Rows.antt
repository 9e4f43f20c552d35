-- No form that tells every kept delta has a shorter row than the plan of rules 1 to 3.
use Prim.Native.Nat.{ℕ, zero, suc, ◌+◌, ◌*◌, ◌/◌, ◌^◌, ◌<◌, ◌≤◌}
use mathlib.Core.Path.{◌≡◌, refl}
use mathlib.Core.Bool.{Bool, true, false, false≢true}
use mathlib.Core.List.{List}
use native.Mathlib.Omega.{arith}
use native.Mathlib.Nat.{add-mul, le_trans, mul-le-mul_right, add-le-add}
use lib.ListN.{length, get_or}
use lib.IntN.{ℤ, pos, negsuc}
use lib.Signed.{mag}
use borrow.Author.Tests.{ltb-true, ne_eqb}
use Rattle.lists.specs.Pick.{pick, both}
use Rattle.lists.specs.Gather.{rank}
use Rattle.lists.specs.Search.{any, all, member}
use Rattle.lists.proofs.Places.{length-select}
use Rattle.lists.proofs.Ranks.{rank_members}
use Rattle.lists.proofs.Choices.{either_of}
use Rattle.lists.proofs.Each.{both_hold}
use Rattle.lists.proofs.Found.{some_found, any_found, all_failed}
use Rattle.cells.specs.Sign.{outside, nil}
use Rattle.opentype.specs.Subtable.{long, column_count, word_size, rest_size, delta}
use Rattle.rules.specs.declared.Class.TheVariants.{Dropped, Narrow, Wide}
use Rattle.rules.specs.Columns.{plan_of, plan_with, kept_deltas, keeps_long, class_of, is_wide, is_narrow, long_limit, narrow_limit}
use Rattle.demands.specs.ShortestRows.{Form, form_length, holds, tells}
use Rattle.laws.specs.Lengths.{plan_length}
use Rattle.reread.proofs.Fit.{kept_at, length_kept}

-- costs, column by column
weigh_le : (f g h k : ℕ → Bool) (a b a' b' n : ℕ)
    → ((c : ℕ) → c < n → pick (f c) 1 0 * a + pick (g c) 1 0 * b ≤ pick (h c) 1 0 * a' + pick (k c) 1 0 * b')
    → rank f n * a + rank g n * b ≤ rank h n * a' + rank k n * b'
unfolding rank
weigh_le f g h k a b a' b' zero p = omega arith
weigh_le f g h k a b a' b' (suc n) p =
    let i = weigh_le f g h k a b a' b' n (λ c l. p c (omega arith)) in
    let o = p n (omega arith) in
    rw (add-mul (rank f n) (pick (f n) 1 0) a, add-mul (rank g n) (pick (g n) 1 0) b, add-mul (rank h n) (pick (h n) 1 0) a', add-mul (rank k n) (pick (k n) 1 0) b')
    (omega arith)

-- a delta that isn't 0 stands among the form's wide columns, and fits there, or among its narrow ones
told : {C : Type 0} (f : Form) (c : ℕ) (z : ℤ) → tells f c z ≡ true → nil z ≡ false
    → (member c f.wide ≡ true → holds (word_size f.is_long) z ≡ true → C)
    → (member c f.narrow ≡ true → holds (rest_size f.is_long) z ≡ true → C) → C
unfolding tells
told f c z t n wide narrow =
    let w = holds (word_size f.is_long) z in
    let r = holds (rest_size f.is_long) z in
    either_of (both (member c f.wide) w) (both (member c f.narrow) r) (rw n at t)
    (λ e. let p = both_hold (member c f.wide) w e in wide p.0 p.1)
    (λ e. let p = both_hold (member c f.narrow) r e in narrow p.0 p.1)

-- a delta outside of a range isn't 0, and does not fit into cells of that range
outside_not_nil : (j : ℕ) (z : ℤ) → outside j z ≡ true → nil z ≡ false
outside_not_nil j (pos n) h = let l : j < n = ltb-true j n h in ne_eqb n 0 (λ e. omega arith)
outside_not_nil j (negsuc n) h = refl

not_held : (j size : ℕ) (z : ℤ) → 256 ^ size / 2 ≤ suc j → outside j z ≡ true → holds size z ≡ true → ⊥
unfolding holds
not_held j size z l h k =
    let a : j < mag z = ltb-true j (mag z) h in
    let b : mag z < 256 ^ size / 2 = ltb-true (mag z) (256 ^ size / 2) k in
    omega (arith, l)

-- what a wide column of the plan needs, where the form holds a delta outside the narrow range in its wide cells or in its narrow ones
wide_wide : (l m : Bool) (z : ℤ) → outside (narrow_limit l) z ≡ true → holds (word_size m) z ≡ true → word_size l ≤ word_size m
wide_wide true true z h k = omega arith
wide_wide true false z h k = absurd (not_held 65535 2 z (omega arith) h k)
wide_wide false true z h k = omega arith
wide_wide false false z h k = omega arith

wide_narrow : (l m : Bool) (z : ℤ) → outside (narrow_limit l) z ≡ true → holds (rest_size m) z ≡ true → word_size l ≤ rest_size m
wide_narrow true true z h k = absurd (not_held 65535 2 z (omega arith) h k)
wide_narrow true false z h k = absurd (not_held 65535 1 z (omega arith) h k)
wide_narrow false true z h k = omega arith
wide_narrow false false z h k = absurd (not_held 127 1 z (omega arith) h k)

-- the sizes of narrow cells
rest_word : (l m : Bool) → rest_size l ≤ word_size m
rest_word true true = omega arith
rest_word true false = omega arith
rest_word false true = omega arith
rest_word false false = omega arith

rest_rest : (l m : Bool) → (l ≡ true → m ≡ true) → rest_size l ≤ rest_size m
rest_rest true true h = omega arith
rest_rest true false h = absurd (false≢true (h refl))
rest_rest false true h = omega arith
rest_rest false false h = omega arith

-- a far delta asks for a long form
far_long : (f : Form) (c : ℕ) (z : ℤ) → outside 65535 z ≡ true → tells f c z ≡ true → f.is_long ≡ true
far_long f c z h t = told f c z t (outside_not_nil 65535 z h) (λ m k. by_word f.is_long k) (λ m k. by_rest f.is_long k)
  where
    by_word : (l : Bool) → holds (word_size l) z ≡ true → l ≡ true
    by_word true k = refl
    by_word false k = absurd (not_held 65535 2 z (omega arith) h k)

    by_rest : (l : Bool) → holds (rest_size l) z ≡ true → l ≡ true
    by_rest true k = refl
    by_rest false k = absurd (not_held 65535 1 z (omega arith) h k)

-- a column that has a cell in the form pays for it
pays_wide : (mw mn : Bool) (x a b : ℕ) → mw ≡ true → x ≤ a → x ≤ pick mw 1 0 * a + pick mn 1 0 * b
pays_wide true mn x a b e l = omega (arith, l)
pays_wide false mn x a b e l = absurd (false≢true e)

pays_narrow : (mw mn : Bool) (x a b : ℕ) → mn ≡ true → x ≤ b → x ≤ pick mw 1 0 * a + pick mn 1 0 * b
pays_narrow mw true x a b e l = omega (arith, l)
pays_narrow mw false x a b e l = absurd (false≢true e)

-- the form tells every delta of column c
record Told (f : Form) (c : ℕ) (zs : List ℤ) : Type 0 where
  each : (j : ℕ) → j < length zs → tells f c (get_or zs j (pos 0)) ≡ true

-- one column: the form pays for it at least what the plan does
column_pays : (l : Bool) (f : Form) (c : ℕ) (zs : List ℤ) → (l ≡ true → f.is_long ≡ true) → Told f c zs
    → pick (is_wide (class_of l zs)) 1 0 * word_size l + pick (is_narrow (class_of l zs)) 1 0 * rest_size l
    ≤ pick (member c f.wide) 1 0 * word_size f.is_long + pick (member c f.narrow) 1 0 * rest_size f.is_long
unfolding class_of
column_pays l f c zs long told-all = by (all (λ z. nil z) zs) (any (λ z. outside (narrow_limit l) z) zs) refl refl
  where
    paid : ℕ
    paid = pick (member c f.wide) 1 0 * word_size f.is_long + pick (member c f.narrow) 1 0 * rest_size f.is_long

    pays : (x : ℕ) (z : ℤ) → tells f c z ≡ true → nil z ≡ false → (holds (word_size f.is_long) z ≡ true → x ≤ word_size f.is_long)
        → (holds (rest_size f.is_long) z ≡ true → x ≤ rest_size f.is_long) → x ≤ paid
    pays x z t n wide narrow =
        told f c z t n
        (λ m k. pays_wide (member c f.wide) (member c f.narrow) x (word_size f.is_long) (rest_size f.is_long) m (wide k))
        (λ m k. pays_narrow (member c f.wide) (member c f.narrow) x (word_size f.is_long) (rest_size f.is_long) m (narrow k))

    by : (d b : Bool) → all (λ z. nil z) zs ≡ d → any (λ z. outside (narrow_limit l) z) zs ≡ b
        → pick (is_wide (pick d Dropped (pick b Wide Narrow))) 1 0 * word_size l + pick (is_narrow (pick d Dropped (pick b Wide Narrow))) 1 0 * rest_size l ≤ paid
    by true b d e = omega arith
    by false true d e =
        let far = any_found (λ z. outside (narrow_limit l) z) (pos 0) zs e in
        let z = get_or zs far.0 (pos 0) in
        let p = pays (word_size l) z (told-all.each far.0 far.1) (outside_not_nil (narrow_limit l) z far.2)
        (λ k. wide_wide l f.is_long z far.2 k) (λ k. wide_narrow l f.is_long z far.2 k) in
        omega (arith, p)
    by false false d e =
        let some = all_failed (λ z. nil z) (pos 0) zs d in
        let p = pays (rest_size l) (get_or zs some.0 (pos 0)) (told-all.each some.0 some.1) some.2
        (λ k. rest_word l f.is_long) (λ k. rest_rest l f.is_long long) in
        omega (arith, p)

-- where rule 1 keeps long, every form that tells the kept deltas is long
forced : (s : List ℕ) (at : ℕ) (is : List ℕ) (f : Form) → ((c : ℕ) → c < column_count s at → Told f c (kept_deltas s at is c))
    → keeps_long s at is ≡ true → f.is_long ≡ true
unfolding keeps_long
forced s at is f h e =
    let c = some_found (λ c. any (λ z. outside long_limit z) (kept_deltas s at is c)) (column_count s at) (both_hold (long s at) _ e).1 in
    let z = any_found (λ z. outside long_limit z) (pos 0) (kept_deltas s at is c.0) c.2 in
    far_long f c.0 (get_or (kept_deltas s at is c.0) z.0 (pos 0)) z.2 ((h c.0 c.1).each z.0 z.1)

-- No form that tells the kept deltas of every old column has a shorter row.
pub plan_shortest : (s : List ℕ) (at : ℕ) (is : List ℕ) (f : Form)
    → ((j c : ℕ) → j < length is → c < column_count s at → tells f c (delta s at (get_or is j 0) c) ≡ true)
    → plan_length (plan_of s at is) ≤ form_length f
unfolding plan_of plan_with form_length
plan_shortest s at is f h =
    let l = keeps_long s at is in
    let m = f.is_long in
    let n = column_count s at in
    let zs : ℕ → List ℤ = λ c. kept_deltas s at is c in
    let all : (c : ℕ) → c < n → Told f c (zs c)
    = λ c k. record { each = λ j i. let o = rw (length_kept s at is c) at i in rw (kept_at s at is c j o) (h j c o k) } in
    let wide : ℕ → Bool = λ c. is_wide (class_of l (zs c)) in
    let narrow : ℕ → Bool = λ c. is_narrow (class_of l (zs c)) in
    let sum = weigh_le wide narrow (λ c. member c f.wide) (λ c. member c f.narrow) (word_size l) (rest_size l) (word_size m) (rest_size m) n
    (λ c k. column_pays l f c (zs c) (forced s at is f all) (all c k)) in
    let a = mul-le-mul_right (word_size m) (rank_members f.wide n) in
    let b = mul-le-mul_right (rest_size m) (rank_members f.narrow n) in
    rw (length-select wide n, length-select narrow n) (le_trans sum (add-le-add a b))
