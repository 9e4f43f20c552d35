use mathlib.Core.Path.{refl}
use native.Mathlib.Omega.{arith}
use lib.ListN.{length-take, length-drop}
use Rattle.store.proofs.Laying.{ready_total, ready_fits, ready_marked, store_laid}
use Rattle.store.proofs.put_store.Goals as goal

pub slice_bounds-put_header-end : goal.slice_bounds-put_header-end
slice_bounds-put_header-end c = omega (arith, ready_total c.requires.ready c.args.l.now.regions.axis_count, c.list_length.ensures.0, c.requires.out_len)

pub slice_bounds-put_offsets-end : goal.slice_bounds-put_offsets-end
slice_bounds-put_offsets-end c = omega (arith, ready_total c.requires.ready c.args.l.now.regions.axis_count, c.list_length.ensures.0, c.requires.out_len)

pub put_offsets-requires-clause-work_bound : goal.put_offsets-requires-clause-work_bound
put_offsets-requires-clause-work_bound c = ready_fits c.requires.ready c.args.l.now.regions.axis_count (omega (arith, c.list_length.ensures.0))

pub slice_bounds-put_region_list-end : goal.slice_bounds-put_region_list-end
slice_bounds-put_region_list-end c = omega (arith, ready_total c.requires.ready c.args.l.now.regions.axis_count, c.list_length.ensures.0, c.requires.out_len)

pub put_region_list-requires-clause-used_value : goal.put_region_list-requires-clause-used_value
put_region_list-requires-clause-used_value c = let r = c.requires.ready in (ready_marked r, r.used_fit)

pub put_subtables-requires-clause-out_len : goal.put_subtables-requires-clause-out_len
put_subtables-requires-clause-out_len c =
    simp (length-take, length-drop) (omega (arith, ready_total c.requires.ready c.args.l.now.regions.axis_count, c.list_length.ensures.0, c.requires.out_len))

pub returns : goal.returns
returns c =
    store_laid c.requires.ready c.args.l.now.regions.axis_count c.told-work c.args.out.now _ _ refl (omega (arith, c.list_length.ensures.0)) c.requires.out_len
    c.put_header.ensures c.put_offsets.ensures c.put_region_list.ensures c.put_subtables.ensures
