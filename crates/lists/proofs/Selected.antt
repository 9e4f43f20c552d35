-- What stands in a selection, and in two selections one after the other.
use Prim.Native.Nat.{ℕ, zero, suc, ◌+◌, ◌-◌, ◌<◌, ◌≤◌}
use mathlib.Core.Path.{◌≡◌, refl, sym, ap, ◌∙◌}
use mathlib.Core.Bool.{Bool, true, false, false≢true}
use mathlib.Core.List.{List, [], ◌∷◌, ◌++◌}
use native.Mathlib.Omega.{arith}
use native.Mathlib.Decide.{dec_lt}
use lib.ListN.{length, get_or, length-append, get_or-append}
use lib.Seq.{get_or-append-add}
use Rattle.lists.specs.Pick.{pick}
use Rattle.lists.specs.Gather.{select, rank}
use Rattle.lists.specs.Search.{place}
use Rattle.lists.proofs.Choices.{refuted}
use Rattle.lists.proofs.Places.{at_place, is_selected, length-select}

-- what stands in a selection is below n and was selected
one_at : (f : ℕ → Bool) (n : ℕ) (b : Bool) (i : ℕ) → f n ≡ b → i < length (pick b (n ∷ []) []) → (get_or (pick b (n ∷ []) []) i 0 ≡ n) × (f n ≡ true) × (i ≡ 0)
one_at f n true zero e h = (refl, e, refl)
one_at f n true (suc i) e h = absurd (omega arith)
one_at f n false i e h = absurd (omega arith)

-- a place in a list laid before another
Left : List ℕ → List ℕ → ℕ → Type 0
Left xs ys c = (c < length xs) × (get_or (xs ++ ys) c 0 ≡ get_or xs c 0)

Right : List ℕ → List ℕ → ℕ → Type 0
Right xs ys c = (i : ℕ) × (i < length ys) × (c ≡ length xs + i) × (get_or (xs ++ ys) c 0 ≡ get_or ys i 0)

side : {T : Type 0} (xs ys : List ℕ) (c : ℕ) → c < length (xs ++ ys) → (Left xs ys c → T) → (Right xs ys c → T) → T
unfolding Left Right
side xs ys c h l r =
    let t = length-append xs ys in
    elim (dec_lt c (length xs)) [
      | yes p ↦ l (p, get_or-append xs ys 0 c p)
      | no p ↦ (let e : c ≡ length xs + (c - length xs) = omega arith in
          r (c - length xs, omega (arith, t), e, ap (λ (k : ℕ). get_or (xs ++ ys) k 0) e ∙ get_or-append-add xs ys (c - length xs) 0))
    ]

pub select_sound : (f : ℕ → Bool) (n c : ℕ) → c < length (select f n) → (get_or (select f n) c 0 < n) × (f (get_or (select f n) c 0) ≡ true)
unfolding select Left Right
select_sound f zero c h = absurd (omega arith)
select_sound f (suc n) c h =
    side (select f n) (pick (f n) (n ∷ []) []) c h
    (λ l. let i = select_sound f n c l.0 in rw l.1 (omega (arith, i.0), i.1))
    (λ r. let o = one_at f n (f n) r.0 refl r.1 in rw (r.3, o.0) (omega arith, o.1))

-- and rises
pub select_rises : (f : ℕ → Bool) (n c d : ℕ) → c < d → d < length (select f n) → get_or (select f n) c 0 < get_or (select f n) d 0
unfolding select Left Right
select_rises f zero c d l h = absurd (omega arith)
select_rises f (suc n) c d l h =
    side (select f n) (pick (f n) (n ∷ []) []) d h
    (λ a. rw (a.1, get_or-append (select f n) (pick (f n) (n ∷ []) []) 0 c (omega (arith, a.0))) (select_rises f n c d l a.0))
    (λ r. let o = one_at f n (f n) r.0 refl r.1 in
    let k : c < length (select f n) = omega (arith, r.2, o.2) in
    rw (r.3, o.0, get_or-append (select f n) (pick (f n) (n ∷ []) []) 0 c k) (select_sound f n c k).0)

select_once : (f : ℕ → Bool) (n c d : ℕ) → c < length (select f n) → d < length (select f n) → get_or (select f n) c 0 ≡ get_or (select f n) d 0 → c ≡ d
select_once f n c d h k e = elim (dec_lt c d) [
  | yes l ↦ absurd (let r = select_rises f n c d l k in omega (arith, e))
  | no l ↦ elim (dec_lt d c) [
    | yes m ↦ absurd (let r = select_rises f n d c m h in omega (arith, e))
    | no m ↦ omega arith
  ]
]

-- two selections by tests that exclude each other, one after the other
ranks_few : (f g : ℕ → Bool) (n : ℕ) → ((b : ℕ) → f b ≡ true → g b ≡ true → ⊥) → rank f n + rank g n ≤ n
unfolding rank
ranks_few f g zero x = omega arith
ranks_few f g (suc n) x = let i = ranks_few f g n x in let o = one (f n) (g n) (x n) in omega arith
  where
    one : (a b : Bool) → (a ≡ true → b ≡ true → ⊥) → pick a 1 0 + pick b 1 0 ≤ 1
    one true true h = absurd (h refl refl)
    one true false h = omega arith
    one false true h = omega arith
    one false false h = omega arith

pub pair_few : (f g : ℕ → Bool) (n : ℕ) → ((b : ℕ) → f b ≡ true → g b ≡ true → ⊥) → length (select f n ++ select g n) ≤ n
pair_few f g n x = rw (length-append, length-select f n, length-select g n) (ranks_few f g n x)

pub select_few : (f : ℕ → Bool) (n : ℕ) → length (select f n) ≤ n
select_few f n = let p = pair_few f (λ c. false) n (λ b e h. false≢true h) in let t = length-append (select f n) (select (λ c. false) n) in omega arith

pub pair_inside : (f g : ℕ → Bool) (n c : ℕ) → c < length (select f n ++ select g n) → get_or (select f n ++ select g n) c 0 < n
unfolding Left Right
pair_inside f g n c h =
    side (select f n) (select g n) c h
    (λ l. rw l.1 (select_sound f n c l.0).0)
    (λ r. rw r.3 (select_sound g n r.0 r.1).0)

pub pair_holds : (f g h : ℕ → Bool) (n : ℕ) → ((b : ℕ) → f b ≡ true → h b ≡ true) → ((b : ℕ) → g b ≡ true → h b ≡ true)
    → (c : ℕ) → c < length (select f n ++ select g n) → h (get_or (select f n ++ select g n) c 0) ≡ true
unfolding Left Right
pair_holds f g h n p q c l =
    side (select f n) (select g n) c l
    (λ a. rw a.1 (p _ (select_sound f n c a.0).1))
    (λ r. rw r.3 (q _ (select_sound g n r.0 r.1).1))

pub pair_once : (f g : ℕ → Bool) (n : ℕ) → ((b : ℕ) → f b ≡ true → g b ≡ true → ⊥) → (c d : ℕ)
    → c < length (select f n ++ select g n) → d < length (select f n ++ select g n)
    → get_or (select f n ++ select g n) c 0 ≡ get_or (select f n ++ select g n) d 0 → c ≡ d
unfolding Left Right
pair_once f g n x c d h k e =
    side (select f n) (select g n) c h
    (λ l. side (select f n) (select g n) d k
    (λ m. select_once f n c d l.0 m.0 (sym l.1 ∙ e ∙ m.1))
    (λ r. absurd (x (get_or (select f n) c 0) (select_sound f n c l.0).1 (ap g (sym l.1 ∙ e ∙ r.3) ∙ (select_sound g n r.0 r.1).1))))
    (λ r. side (select f n) (select g n) d k
    (λ m. absurd (x (get_or (select f n) d 0) (select_sound f n d m.0).1 (ap g (sym m.1 ∙ sym e ∙ r.3) ∙ (select_sound g n r.0 r.1).1)))
    (λ q. let i = select_once g n r.0 q.0 r.1 q.1 (sym r.3 ∙ e ∙ q.3) in omega (arith, r.2, q.2, i)))

-- a number that is in neither was selected by neither
pub pair_out : (f g : ℕ → Bool) (n b : ℕ) → b < n → ((c : ℕ) → c < length (select f n ++ select g n) → get_or (select f n ++ select g n) c 0 ≡ b → ⊥)
    → (f b ≡ false) × (g b ≡ false)
pair_out f g n b l h = (refuted (f b) (λ e. first e), refuted (g b) (λ e. then e))
  where
    first : f b ≡ true → ⊥
    first e =
        let p = at_place b 0 (select f n) (is_selected f b n l e) in
        let t = length-append (select f n) (select g n) in
        h (place b (select f n)) (omega (arith, p.0, t)) (get_or-append (select f n) (select g n) 0 (place b (select f n)) p.0 ∙ p.1)

    then : g b ≡ true → ⊥
    then e =
        let p = at_place b 0 (select g n) (is_selected g b n l e) in
        let t = length-append (select f n) (select g n) in
        h (length (select f n) + place b (select g n)) (omega (arith, p.0, t)) (get_or-append-add (select f n) (select g n) (place b (select g n)) 0 ∙ p.1)
