use native.Mathlib.Nat.{le_of_lt}
use Rattle.objects.proofs.Runs.{run_planned, run_named, run_length, run_bytes, ready_usable}
use Rattle.objects.proofs.put_run.Goals as goal

pub subtable_again-t-requires-clause-there : goal.subtable_again-t-requires-clause-there
subtable_again-t-requires-clause-there c = (ready_usable c.requires.run_ready).0

pub subtable_again-t-requires-clause-good : goal.subtable_again-t-requires-clause-good
subtable_again-t-requires-clause-good c = (ready_usable c.requires.run_ready).1

pub put_subtable-requires-clause-planned : goal.put_subtable-requires-clause-planned
put_subtable-requires-clause-planned c =
    let a = c.args in
    let t = c.subtable_again-t.ensures in
    let p = c.plan_columns-p.ensures in
    run_planned a.work.now a.from a.to p.work_unchanged (le_of_lt c.requires.from_lt_to.0) c.requires.from_lt_to.1 (rw (← t.0) at t.1) p.planned

pub put_subtable-requires-clause-named : goal.put_subtable-requires-clause-named
put_subtable-requires-clause-named c =
    let a = c.args in
    let r = c.requires in
    let t = c.subtable_again-t.ensures in
    let p = c.plan_columns-p.ensures in
    rw t.0 (run_named a.work.now a.from a.to p.work_unchanged (le_of_lt r.from_lt_to.0) r.from_lt_to.1 t.1 (rw t.0 at p.planned) r.run_ready, r.run_ready.few)

pub put_subtable-requires-clause-out_len : goal.put_subtable-requires-clause-out_len
put_subtable-requires-clause-out_len c =
    let a = c.args in
    let r = c.requires in
    let t = c.subtable_again-t.ensures in
    let p = c.plan_columns-p.ensures in
    run_length a.work.now a.from a.to p.work_unchanged (le_of_lt r.from_lt_to.0) r.from_lt_to.1 t.1 (rw t.0 at p.planned) c.told-work r.out_len

pub returns-clause-out_after : goal.returns-clause-out_after
returns-clause-out_after c =
    let a = c.args in
    let r = c.requires in
    let t = c.subtable_again-t.ensures in
    let p = c.plan_columns-p.ensures in
    run_bytes a.work.now a.from a.to p.work_unchanged (le_of_lt r.from_lt_to.0) r.from_lt_to.1 t.1 (rw t.0 at p.planned) (rw t.0 at c.put_subtable.ensures)
