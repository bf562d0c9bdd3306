use Rattle.std.proofs.Common.{arith}
use Rattle.weights.proofs.Table.{entry-number, entry-cell}
use Rattle.weights.proofs.ranged_33.Goals as goal

pub float_from_bits-result : goal.float_from_bits-result
float_from_bits-result c = rw (entry-number c.args.index (omega arith)) tt

pub returns : goal.returns
returns c = entry-cell c.args.index (omega arith)
