-- Run t stands in the table, and its next entry is written.
use Rattle.std.proofs.Common.{rules, arith}
use Rattle.std.proofs.lemmas.Grind.{common_steps}
use Rattle.lists.specs.Buffer.{written}
use Rattle.grid_slab.proofs.Places.{stands, entry-next}
use Rattle.grid_slab.proofs.runs.Runs.copy.Goals as goal

pub loop-t-init : goal.loop-t-init
unfolding written
loop-t-init c = grind (arith, common_steps)

pub overflow_mul-from : goal.overflow_mul-from
overflow_mul-from c = let here = stands c.requires c.loop-t-test.true in search rules

pub overflow_add-from : goal.overflow_add-from
overflow_add-from c = let here = stands c.requires c.loop-t-test.true in search rules

pub overflow_mul-from-in-loop-t : goal.overflow_mul-from-in-loop-t
overflow_mul-from-in-loop-t c = let here = stands c.requires c.loop-t-test.true in search rules

pub overflow_add-slab : goal.overflow_add-slab
overflow_add-slab c = let here = stands c.requires c.loop-t-test.true in search rules

pub offset_bounds-table-from : goal.offset_bounds-table-from
offset_bounds-table-from c = let here = stands c.requires c.loop-t-test.true in search rules

pub bounds-table-from : goal.bounds-table-from
bounds-table-from c = omega (arith, (stands c.requires c.loop-t-test.true).held)

pub loop-i-preserved : goal.loop-i-preserved
loop-i-preserved c = entry-next c.args.table.now c.args.self _ c.loop-t.t c.loop-i.i _ c.loop-i-test.true c.loop-i.invariant
