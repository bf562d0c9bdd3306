-- The cells that stand in the array are those of the inks.
use Rattle.std.proofs.Common.{reverse, refl}
use Rattle.lookup.specs.Lookup.{never}
use Rattle.lookup.proofs.Grid.{record-reach, record-done}
use Rattle.lookup.proofs.write.Goals as goal

pub each-requires-clause-inside : goal.each-requires-clause-inside
each-requires-clause-inside c =
    record-reach c.args.lut.now c.requires.layout c.args.inputs.now c.requires.as_many c.args.table.now c.requires.enough
    (reverse c.place.new.cells) (c.in_ok-place.ensures.cells refl)

pub returns-clause-entries : goal.returns-clause-entries
returns-clause-entries c =
    record-done c.args.lut.now c.requires.layout c.args.inputs.now c.requires.as_many c.args.table.now c.requires.enough
    (reverse c.place.new.cells) (c.in_ok-place.ensures.cells refl) never c.args.answer.now _ c.each.ensures
