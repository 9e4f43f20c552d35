-- What is said of every accepted cut holds of every accepted call, and the first bytes of its output.
use Prim.Native.Nat.{ℕ}
use mathlib.Core.List.{List}
use native.Mathlib.Omega.{arith}
use lib.ListN.{take}
use Rattle.opentype.specs.Table.{hvar_maps, vvar_maps}
use Rattle.rules.specs.TableCut.{cut_hvar, cut_vvar}
use Rattle.laws.specs.Wrote.{call_wrote}
use Rattle.demands.specs.Calls.{OfStoreCuts, OfStoreCalls, OfTableCuts, OfHvarCalls, OfVvarCalls}

pub of_store_calls : (Says : List ℕ → List ℕ → List ℕ → Type 0) → OfStoreCuts Says → OfStoreCalls Says
unfolding OfStoreCuts OfStoreCalls
of_store_calls Says cuts s pairs keep_empty work out work' out' n bytes has call = cuts s pairs (take n out') keep_empty bytes has (call_wrote call)

pub of_hvar_calls : (Needs : List ℕ → Type 0) (Says : ℕ → List ℕ → List ℕ → List ℕ → Type 0) → OfTableCuts Needs Says → OfHvarCalls Needs Says
unfolding OfTableCuts OfHvarCalls cut_hvar
of_hvar_calls Needs Says cuts t es work out work' out' n bytes has call =
    cuts hvar_maps t es (take n out') (record { low = omega arith; high = omega arith }) bytes has (call_wrote call)

pub of_vvar_calls : (Needs : List ℕ → Type 0) (Says : ℕ → List ℕ → List ℕ → List ℕ → Type 0) → OfTableCuts Needs Says → OfVvarCalls Needs Says
unfolding OfTableCuts OfVvarCalls cut_vvar
of_vvar_calls Needs Says cuts t es work out work' out' n bytes has call =
    cuts vvar_maps t es (take n out') (record { low = omega arith; high = omega arith }) bytes has (call_wrote call)
