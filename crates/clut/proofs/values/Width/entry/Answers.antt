-- The value by its bytes, divided by the largest.
use Rattle.std.proofs.Common.{◌∙◌}
use Rattle.clut.specs.Units.{entry_at}
use Rattle.clut.proofs.Entries.{value-one, value-two}
use Rattle.clut.proofs.values.Width.entry.Goals as goal

pub returns-in-One : goal.returns-in-One
unfolding entry_at
returns-in-One c =
    let v = value-one c.args.bytes.now c.args.e (rw c.in-One.is at c.requires) in
    rw c.in-One.is (c.unit.ensures ∙ simp (c.from-in-One.ensures, c.from.ensures, v))

pub returns-in-Two : goal.returns-in-Two
unfolding entry_at
returns-in-Two c =
    let v = value-two c.args.bytes.now c.args.e (rw c.in-Two.is at c.requires) in
    rw c.in-Two.is (c.unit-in-Two.ensures ∙ simp (c.from_be_bytes.ensures, v))
