-- Its rows are those of the record.
use Rattle.std.proofs.Common.{arith, le_refl}
use Rattle.layout.proofs.Rows.{counts-few, outputs-from, row-fills, record_is}
use Rattle.layout.proofs.record_of.Goals as goal

pub fill-requires : goal.fill-requires
fill-requires c = row-fills _ _ _ c.requires 1 (outputs-from _ _ _ c.requires)

pub overflow_cast-m : goal.overflow_cast-m
overflow_cast-m c = omega (arith, counts-few _ _ _ c.requires)

pub fill-requires-2 : goal.fill-requires-2
fill-requires-2 c = row-fills _ _ _ c.requires _ (le_refl _)

pub fill_own-requires : goal.fill_own-requires
fill_own-requires c = row-fills _ _ _ c.requires 1 (outputs-from _ _ _ c.requires)

pub returns : goal.returns
returns c = record_is _ _ _ c.requires _ _ _ _ c.fill.ensures c.fill-2.ensures c.fill_own.ensures.0 c.fill_own.ensures.1
