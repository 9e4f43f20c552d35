use Prim.Native.Nat.{◌+◌}
use mathlib.Core.Path.{refl}
use native.Mathlib.Nat.{add-sub_cancel_left}
use native.Mathlib.Omega.{arith}
use lib.ListN.{get_or, length-take, length-drop}
use Rattle.pairs.proofs.Laws.{front_end}
use Rattle.objects.proofs.Going.{RunPart, going_run, going_first, going_climb, going_more, going_all}
use Rattle.objects.proofs.put_subtables.Goals as goal
use Rattle.objects.proofs.put_subtables.Goals.{After-end_of_run-end}

turn : (c : After-end_of_run-end) → let l = c.loop-at in RunPart c.args.s.now.bytes.now l.work l.out l.at c.end_of_run-end.result l.k l.next
turn c =
    let l = c.loop-at in
    going_run c.args.work.now c.requires.passed c.requires.runs_bound c.requires.work_value l.invariant (front_end (omega (arith, l.invariant.area)) c.end_of_run-end.ensures)

pub loop-at-init : goal.loop-at-init
loop-at-init c = going_first _ _ c.told-work c.requires.passed c.requires.out_len

pub invariant_of-pairs : goal.invariant_of-pairs
invariant_of-pairs c = record { climb = going_climb c.requires.passed c.loop-at.invariant }

pub overflow_add-stop : goal.overflow_add-stop
overflow_add-stop c = omega (arith, turn c)

pub offset_bounds-work-k : goal.offset_bounds-work-k
offset_bounds-work-k c = omega (arith, turn c)

pub bounds-work-k : goal.bounds-work-k
bounds-work-k c = omega (arith, turn (goal.at.bounds-work-k c).After-end_of_run-end, c.loop-at.invariant.area)

pub slice_bounds-put_run-end : goal.slice_bounds-put_run-end
slice_bounds-put_run-end c = omega (arith, turn (goal.at.slice_bounds-put_run-end c).After-end_of_run-end)

pub put_run-requires-clause-run_ready : goal.put_run-requires-clause-run_ready
put_run-requires-clause-run_ready c = (turn (goal.at.put_run-requires-clause-run_ready c).After-end_of_run-end).ready

pub put_run-requires-clause-out_len : goal.put_run-requires-clause-out_len
put_run-requires-clause-out_len c =
    let t = turn (goal.at.put_run-requires-clause-out_len c).After-end_of_run-end in
    let l = c.loop-at in
    let n = add-sub_cancel_left l.next (get_or l.work (8832 + l.k) 0) in
    simp (length-take, length-drop) (omega (arith, n, t.room, t.size))

pub overflow_add-k : goal.overflow_add-k
overflow_add-k c = omega (arith, turn (goal.at.overflow_add-k c).After-end_of_run-end)

pub loop-at-preserved : goal.loop-at-preserved
loop-at-preserved c =
    let l = c.loop-at in
    let r = c.put_run in
    going_more c.args.work.now c.requires.passed c.requires.runs_bound c.requires.work_value l.invariant (front_end (omega (arith, l.invariant.area)) c.end_of_run-end.ensures) _ r.ensures.work_len refl r.ensures.work_unchanged r.ensures.out_after

pub returns : goal.returns
returns c = going_all c.requires.passed c.loop-at.invariant (omega arith)
