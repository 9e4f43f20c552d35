-- Demand 2, and that there is no trace of what was cut, said of the calls.
use Rattle.demands.specs.KeepsStore.{KeptStore, KeptSums}
use Rattle.demands.specs.KeepsGlyphs.{KeptTable, KeptGlyphSums}
use Rattle.demands.specs.NoTrace.{NoTrace, NoTraceInTable}
use Rattle.demands.specs.Calls.{Varies, OfStoreCalls, OfHvarCalls, OfVvarCalls}
use Rattle.reread.proofs.Calls.{of_store_calls, of_hvar_calls, of_vvar_calls}
use Rattle.keeps.proofs.Stores.{keeps_store, keeps_sums}
use Rattle.keeps.proofs.Glyphs.{keeps_table, keeps_glyph_sums}
use Rattle.keeps.proofs.Traces.{no_trace, no_trace_in_table}

pub cut_store_keeps : OfStoreCalls KeptStore
cut_store_keeps = of_store_calls KeptStore keeps_store

pub cut_store_keeps_sums : OfStoreCalls KeptSums
cut_store_keeps_sums = of_store_calls KeptSums keeps_sums

pub cut_store_no_trace : OfStoreCalls NoTrace
cut_store_no_trace = of_store_calls NoTrace no_trace

pub cut_hvar_keeps : OfHvarCalls Varies KeptTable
cut_hvar_keeps = of_hvar_calls Varies KeptTable keeps_table

pub cut_vvar_keeps : OfVvarCalls Varies KeptTable
cut_vvar_keeps = of_vvar_calls Varies KeptTable keeps_table

pub cut_hvar_keeps_sums : OfHvarCalls Varies KeptGlyphSums
cut_hvar_keeps_sums = of_hvar_calls Varies KeptGlyphSums keeps_glyph_sums

pub cut_vvar_keeps_sums : OfVvarCalls Varies KeptGlyphSums
cut_vvar_keeps_sums = of_vvar_calls Varies KeptGlyphSums keeps_glyph_sums

pub cut_hvar_no_trace : OfHvarCalls Varies NoTraceInTable
cut_hvar_no_trace = of_hvar_calls Varies NoTraceInTable no_trace_in_table

pub cut_vvar_no_trace : OfVvarCalls Varies NoTraceInTable
cut_vvar_no_trace = of_vvar_calls Varies NoTraceInTable no_trace_in_table
