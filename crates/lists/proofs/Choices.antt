-- Two tests put together, and taken apart by cases.
use mathlib.Core.Path.{◌≡◌, refl}
use mathlib.Core.Bool.{Bool, true, false, true≢false, false≢true}
use Rattle.lists.specs.Pick.{pick, both}

-- neither holds
pub neither_of : (a b : Bool) → a ≡ false → b ≡ false → pick a true b ≡ false
neither_of false b p q = q
neither_of true b p q = absurd (true≢false p)

-- one of them holds
pub either_of : {C : Type 0} (a b : Bool) → pick a true b ≡ true → (a ≡ true → C) → (b ≡ true → C) → C
either_of true b e f g = f refl
either_of false b e f g = g e

pub either_left : (a b : Bool) → a ≡ true → pick a true b ≡ true
either_left true b e = refl
either_left false b e = absurd (false≢true e)

pub either_right : (a b : Bool) → b ≡ true → pick a true b ≡ true
either_right true b e = refl
either_right false b e = e

-- both hold
pub both_of : (a b : Bool) → a ≡ true → b ≡ true → both a b ≡ true
both_of true b p q = q
both_of false b p q = absurd (false≢true p)

-- they don't both hold, but the first does
pub not_second : (a b : Bool) → both a b ≡ false → a ≡ true → b ≡ false
not_second true b e h = e
not_second false b e h = absurd (false≢true h)

-- a test that holds, or fails
pub decided : {C : Type 0} (b : Bool) → (b ≡ true → C) → (b ≡ false → C) → C
decided true f g = f refl
decided false f g = g refl

-- two tests of which each follows from the other
pub same_test : (a b : Bool) → (a ≡ true → b ≡ true) → (b ≡ true → a ≡ true) → a ≡ b
same_test true true f g = refl
same_test true false f g = absurd (false≢true (f refl))
same_test false true f g = absurd (false≢true (g refl))
same_test false false f g = refl

-- a test that can't hold fails
pub refuted : (b : Bool) → (b ≡ true → ⊥) → b ≡ false
refuted true n = absurd (n refl)
refuted false n = refl
