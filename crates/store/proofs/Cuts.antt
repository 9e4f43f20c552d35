-- 2 and 3, and what follows them.
use Prim.Native.Nat.{ℕ, ◌≤◌}
use mathlib.Core.Path.{◌≡◌}
use mathlib.Core.Bool.{Bool, true, false}
use mathlib.Core.List.{List, ◌++◌}
use lib.ListN.{length, take, drop}
use lib.Seq.{take-append_seam}
use lib.Dec.{ltb}
use borrow.Author.Tests.{ltb-false}
use Rattle.lists.proofs.Each.{neither}
use Rattle.rules.specs.declared.Refusal.TheVariants.{BadList, BadStore}
use Rattle.rules.specs.Numbers.{refused}
use Rattle.rules.specs.Lists.{outers_fall, twice, bad_pairs, most_pairs}
use Rattle.rules.specs.Open.{bad_store}
use Rattle.rules.specs.StoreCut.{cut_opened, cut_store}

pub pairs_good : (ps : List ℕ) → bad_pairs ps ≡ false → (length ps ≤ 8192) × (outers_fall ps ≡ false)
unfolding bad_pairs
pairs_good ps e =
    let a = neither (ltb most_pairs (length ps)) _ e in
    (ltb-false most_pairs (length ps) a.0, (neither (outers_fall ps) (twice ps) a.1).0)

pub copied_pairs : {w : List ℕ} (ps old : List ℕ) → w ≡ ps ++ drop (length ps) old → take (length ps) w ≡ ps
copied_pairs ps old e = rw e (take-append_seam ps (drop (length ps) old))

module _ (s ps : List ℕ) (keep : Bool) where
  pub cut_2 : bad_pairs ps ≡ true → cut_store s ps keep ≡ refused BadList
  unfolding cut_store
  cut_2 a = rw a

  pub cut_3 : bad_pairs ps ≡ false → bad_store s ≡ true → cut_store s ps keep ≡ refused BadStore
  unfolding cut_store
  cut_3 a b = rw (a, b)

  pub cut_on : bad_pairs ps ≡ false → bad_store s ≡ false → cut_store s ps keep ≡ cut_opened s ps keep
  unfolding cut_store
  cut_on a b = rw (a, b)
