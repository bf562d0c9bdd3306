use Rattle.std.proofs.Common.{arith}
use Rattle.layout.proofs.Laws.{outputs-to}
use Rattle.nodes.proofs.coordinates.first_entry.Goals as goal

pub overflow_cast-lut : goal.overflow_cast-lut
overflow_cast-lut c = omega (arith, outputs-to c.args.lut.now c.requires.layout)
