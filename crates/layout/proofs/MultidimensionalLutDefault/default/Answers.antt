-- Each field computes to what the definition has.
use lib.Ieee.{of_bits}
use Rattle.std.proofs.Common.{refl}
use Rattle.layout.specs.Layout.{zeros}
use Rattle.layout.proofs.MultidimensionalLutDefault.default.Goals as goal

pub returns : goal.returns
unfolding zeros of_bits
returns c = refl
