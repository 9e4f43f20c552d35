-- "And so, for every weighting of region records by integers, the weighted sum of a kept row is what it was."
use Prim.Native.Nat.{ℕ}
use mathlib.Core.Path.{◌≡◌, ap, ◌∙◌}
use mathlib.Core.List.{List}
use lib.ListN.{length, get_or}
use lib.IntN.{ℤ, ◌*ℤ◌, *ℤ-zero}
use Rattle.demands.specs.Reading.{weighted, sum, record_in, delta_in, columns_in}
use Rattle.demands.specs.Rows.{KeptColumns, KeptRow}
use Rattle.keeps.proofs.Sums.{sum_same, sum_list}

pub sums_kept : {s w old : List ℕ} {o i o' i' : ℕ} → KeptColumns s o w o' old → KeptRow s o i w o' i' old → (weigh : List ℕ → ℤ)
    → weighted weigh w o' i' ≡ weighted weigh s o i
unfolding weighted
sums_kept {s} {w} {old} {o} {i} {o'} {i'} kept row weigh =
    let new : ℕ → ℤ = λ c. weigh (record_in w o' c) *ℤ delta_in w o' i' c in
    let was : ℕ → ℤ = λ b. weigh (record_in s o b) *ℤ delta_in s o i b in
    ap (λ (n : ℕ). sum new n) kept.columns
    ∙ (sum_same new (λ c. was (get_or old c 0)) (length old) (λ c m. rw (kept.records c m, row.deltas c m))
    ∙ sum_list was old (columns_in s o) kept.inside kept.once (λ b m h. rw (row.dropped b m h) (*ℤ-zero (weigh (record_in s o b)))))
