-- Demand 3, said of the calls.
use Rattle.demands.specs.ShortestRows.{ShortestRows, ShortestGlyphRows}
use Rattle.demands.specs.FewestInnerBits.{FewestInnerBits}
use Rattle.demands.specs.Calls.{HasStore, Varies, OfStoreCalls, OfHvarCalls, OfVvarCalls}
use Rattle.reread.proofs.Calls.{of_store_calls, of_hvar_calls, of_vvar_calls}
use Rattle.shortest.proofs.Shortest.{shortest_rows, shortest_table_rows, fewest_inner_bits}

pub cut_store_shortest : OfStoreCalls ShortestRows
cut_store_shortest = of_store_calls ShortestRows shortest_rows

pub cut_hvar_shortest : OfHvarCalls Varies ShortestGlyphRows
cut_hvar_shortest = of_hvar_calls Varies ShortestGlyphRows shortest_table_rows

pub cut_vvar_shortest : OfVvarCalls Varies ShortestGlyphRows
cut_vvar_shortest = of_vvar_calls Varies ShortestGlyphRows shortest_table_rows

pub cut_hvar_fewest_bits : OfHvarCalls HasStore FewestInnerBits
cut_hvar_fewest_bits = of_hvar_calls HasStore FewestInnerBits fewest_inner_bits

pub cut_vvar_fewest_bits : OfVvarCalls HasStore FewestInnerBits
cut_vvar_fewest_bits = of_vvar_calls HasStore FewestInnerBits fewest_inner_bits
