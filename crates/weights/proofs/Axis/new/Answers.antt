use Rattle.std.proofs.Common.{rules}
use lib.Ieee.{nan_bits}
use Rattle.weights.proofs.Axis.new.Goals as goal

-- the constant is no NaN
pub float_from_bits-result : goal.float_from_bits-result
unfolding nan_bits
float_from_bits-result c = search rules
