-- After t turns t runs are written, and then the first i entries of run t.
use Rattle.std.proofs.Common.{◌≡◌, ◌+◌, ◌*◌}
use Rattle.lists.specs.Buffer.{written}
use Rattle.grid_slab.specs.Runs.{cut_entry}
use Rattle.grid_slab.proofs.runs.Runs.copy.Given as goal

abbrev pub invariant-loop-t : goal.invariant-loop-t
invariant-loop-t l = l.slab ≡ written (cut_entry l.table l.self) (l.t * l.self.run) l.fn.slab

abbrev pub invariant-loop-i : goal.invariant-loop-i
invariant-loop-i l = l.slab ≡ written (cut_entry l.table l.self) (l.t * l.self.run + l.i) l.fn.slab
