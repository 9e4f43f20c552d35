-- Small calls, each with a demand as a test of what it writes: one table, one proof. Under a wrong rule that `tools/wrong-rules` names beside it, the test fails.
use Rattle.std.specs.Prelude.{ℕ, ◌≡◌, refl, Bool, true, false, List, [], ◌∷◌, map, take, eqb}
use Rattle.lists.specs.Pick.{both}
use Rattle.lists.specs.Gather.{rank, keep}
use Rattle.lists.specs.Search.{some, any, member}
use Rattle.opentype.specs.Table.{gives_pairs, glyph_outer, glyph_inner, hvar_maps}
use Rattle.rules.specs.Calls.{Call, cuts_store, cuts_hvar, cuts_vvar, reads_delta, reads_row, reads_entry, Result, cut, value, part, pair, hex, run}
use Rattle.demands.specs.Reading.{sum, weighted}
use Rattle.demands.specs.KeepsStore.{has_outer, outers_before, pairs_of}
use Rattle.demands.specs.ShortestRows.{Form, form_length, holds, tells}
use Rattle.instances.specs.Tests.{every, weigh, keeps, keeps_glyphs, not_longer, few_bits, is_lean, traceless, traceless_table}

-- which demand: of a place and a form, that our row isn't longer
pub data Demand : Type 0 where
  keeping : Demand
  shortest : ℕ → Form → Demand
  fewest : Demand
  untraced : Demand

pub record Instance : Type 0 where
  pub call : Call
  pub demand : Demand

unfoldable pub store_test : Demand → List ℕ → List ℕ → List ℕ → Bool
store_test keeping s pairs w = keeps s pairs w
store_test (shortest k f) s pairs w = not_longer s pairs w k f
store_test fewest s pairs w = false
store_test untraced s pairs w = traceless s pairs w

unfoldable pub table_test : Demand → ℕ → List ℕ → List ℕ → List ℕ → Bool
table_test keeping maps t es u = keeps_glyphs maps t es u
table_test (shortest k f) maps t es u = false
table_test fewest maps t es u = few_bits maps t es u
table_test untraced maps t es u = traceless_table maps t es u

unfoldable pub test_of : Demand → Call → List ℕ → Bool
test_of d (cuts_store s pairs keep_empty area room) w = store_test d s pairs w
test_of d (cuts_hvar t es area room) w = table_test d 3 t es w
test_of d (cuts_vvar t es area room) w = table_test d 4 t es w
test_of d (reads_delta s o i c) w = false
test_of d (reads_row s o i) w = false
test_of d (reads_entry s g) w = false

-- the call is accepted, and its first bytes of output pass the test
unfoldable pub passes : (List ℕ → Bool) → Result → Bool
passes test (cut number n out) = both (eqb number 0) (test (take n out))
passes test (value number z) = false
passes test (part number xs) = false
passes test (pair number o i) = false

unfoldable pub met : Instance → Bool
unfolding every weigh keeps keeps_glyphs not_longer few_bits is_lean traceless traceless_table store_test table_test test_of passes rank keep some any member sum weighted has_outer outers_before pairs_of form_length holds tells gives_pairs glyph_outer glyph_inner run
met i = passes (test_of i.demand i.call) (run i.call)

-- the store S of three rows and two regions
unfoldable pub S : List ℕ
S = hex 47 0x00_01_00_00_00_0C_00_01_00_00_00_1C_00_01_00_02_00_00_40_00_40_00_C0_00_C0_00_00_00_00_03_00_01_00_02_00_00_00_01_00_64_00_FF_38_05_00_0A_00

-- two subtables: one row, under region 0; two rows, under regions 1 and 0
unfoldable pub T : List ℕ
T = hex 55 0x00_01_00_00_00_10_00_02_00_00_00_20_00_00_00_29_00_01_00_02_00_00_40_00_40_00_C0_00_C0_00_00_00_00_01_00_00_00_01_00_00_05_00_02_00_00_00_02_00_01_00_00_07_02_00_03

-- rows 0 and 1 of S: the second column is 0 in the first of them
unfoldable pub rows_0_1 : Instance
unfolding S T
rows_0_1 = record { call = cuts_store S (0 ∷ 1 ∷ []) false 16384 60; demand = keeping }

-- rows 2 and 0 of S, in this order
unfoldable pub rows_2_0 : Instance
unfolding S T
rows_2_0 = record { call = cuts_store S (2 ∷ 0 ∷ []) false 16384 60; demand = keeping }

-- rows 0 and 2 of S: nothing is left under its second region
unfoldable pub rows_0_2 : Instance
unfolding S T
rows_0_2 = record { call = cuts_store S (0 ∷ 2 ∷ []) false 16384 60; demand = untraced }

-- row 3 of S, which is absent: no column is left, and as many axes
unfoldable pub row_3 : Instance
unfolding S T
row_3 = record { call = cuts_store S (3 ∷ []) true 16384 60; demand = keeping }

-- a column of 128
unfoldable pub delta_128 : Instance
unfolding S T
delta_128 = record { call = cuts_store (hex 32 0x00_01_00_00_00_0C_00_01_00_00_00_16_00_01_00_01_00_00_00_00_00_00_00_01_00_01_00_01_00_00_00_80) (0 ∷ []) false 16384 40; demand = keeping }

-- a column of 127, which one byte holds
unfoldable pub delta_127 : Instance
unfolding S T
delta_127 = record { call = cuts_store (hex 32 0x00_01_00_00_00_0C_00_01_00_00_00_16_00_01_00_01_00_00_00_00_00_00_00_01_00_01_00_01_00_00_00_7F) (0 ∷ []) false 16384 40; demand = shortest 0 (record { is_long = false; wide = []; narrow = 0 ∷ [] }) }

-- all rows of T
unfoldable pub two_outers : Instance
unfolding S T
two_outers = record { call = cuts_store T (0 ∷ 65536 ∷ 65537 ∷ []) false 16384 80; demand = keeping }

-- HVAR over S, no maps, glyphs 0→0, 1→2 (new→old)
unfoldable pub no_map : Instance
unfolding S T
no_map = record { call = cuts_hvar (hex 67 0x00_01_00_00_00_00_00_14_00_00_00_00_00_00_00_00_00_00_00_00_00_01_00_00_00_0C_00_01_00_00_00_1C_00_01_00_02_00_00_40_00_40_00_C0_00_C0_00_00_00_00_03_00_01_00_02_00_00_00_01_00_64_00_FF_38_05_00_0A_00) (0 ∷ 65538 ∷ []) 16384 80; demand = keeping }

-- the same, glyph 0→2 alone
unfoldable pub one_glyph : Instance
unfolding S T
one_glyph = record { call = cuts_hvar (hex 67 0x00_01_00_00_00_00_00_14_00_00_00_00_00_00_00_00_00_00_00_00_00_01_00_00_00_0C_00_01_00_00_00_1C_00_01_00_02_00_00_40_00_40_00_C0_00_C0_00_00_00_00_03_00_01_00_02_00_00_00_01_00_64_00_FF_38_05_00_0A_00) (2 ∷ []) 16384 80; demand = untraced }

-- P7: no advance map, old ids 0 and 50, lsb naming inners 50 and 10
unfoldable pub far_rows : Instance
unfolding S T
far_rows = record { call = cuts_hvar (hex 216 0x00_01_00_00_00_00_00_14_00_00_00_00_00_00_00_6E_00_00_00_00_00_01_00_00_00_0C_00_01_00_00_00_16_00_01_00_01_00_00_00_00_00_00_00_3C_00_00_00_01_00_00_01_02_03_04_05_06_07_08_09_0A_0B_0C_0D_0E_0F_10_11_12_13_14_15_16_17_18_19_1A_1B_1C_1D_1E_1F_20_21_22_23_24_25_26_27_28_29_2A_2B_2C_2D_2E_2F_30_31_32_33_34_35_36_37_38_39_3A_3B_3C_00_17_00_33_00_32_00_32_00_32_00_32_00_32_00_32_00_32_00_32_00_32_00_32_00_32_00_32_00_32_00_32_00_32_00_32_00_32_00_32_00_32_00_32_00_32_00_32_00_32_00_32_00_32_00_32_00_32_00_32_00_32_00_32_00_32_00_32_00_32_00_32_00_32_00_32_00_32_00_32_00_32_00_32_00_32_00_32_00_32_00_32_00_32_00_32_00_32_00_32_00_32_00_32_00_0A) (0 ∷ 65586 ∷ []) 16384 80; demand = fewest }

-- HVAR over T, an advance map, both glyphs in outer 1
unfoldable pub one_outer : Instance
unfolding S T
one_outer = record { call = cuts_hvar (hex 82 0x00_01_00_00_00_00_00_14_00_00_00_4B_00_00_00_00_00_00_00_00_00_01_00_00_00_10_00_02_00_00_00_20_00_00_00_29_00_01_00_02_00_00_40_00_40_00_C0_00_C0_00_00_00_00_01_00_00_00_01_00_00_05_00_02_00_00_00_02_00_01_00_00_07_02_00_03_00_03_00_03_00_10_11) (1 ∷ 65538 ∷ []) 16384 120; demand = keeping }

-- HVAR over T, advance and lsb naming different rows
unfoldable pub two_maps : Instance
unfolding S T
two_maps = record { call = cuts_hvar (hex 89 0x00_01_00_00_00_00_00_14_00_00_00_4B_00_00_00_52_00_00_00_00_00_01_00_00_00_10_00_02_00_00_00_20_00_00_00_29_00_01_00_02_00_00_40_00_40_00_C0_00_C0_00_00_00_00_01_00_00_00_01_00_00_05_00_02_00_00_00_02_00_01_00_00_07_02_00_03_00_03_00_03_00_10_11_00_03_00_03_11_00_10) (1 ∷ 65538 ∷ []) 16384 120; demand = keeping }

unfoldable pub instances : List Instance
unfolding rows_0_1 rows_2_0 rows_0_2 row_3 delta_128 delta_127 two_outers no_map one_glyph far_rows one_outer two_maps
instances = rows_0_1 ∷ rows_2_0 ∷ rows_0_2 ∷ row_3 ∷ delta_128 ∷ delta_127 ∷ two_outers ∷ no_map ∷ one_glyph ∷ far_rows ∷ one_outer ∷ two_maps ∷ []

pub all_met : map (λ i. met i) instances ≡ map (λ i. true) instances
unfolding instances hex met
all_met = refl
