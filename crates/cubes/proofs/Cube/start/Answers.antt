use mathlib.Core.Path.{ap}
use Prim.Native.Nat.{ℕ, ◌*◌}
use Rattle.cubes.proofs.Reach.{node_number}
use Rattle.cubes.proofs.Cube.start.Goals as goal

pub returns : goal.returns
returns c = let at = c.args in ap (λ (n : ℕ). n * at.self.m) (node_number at.self.g at.x at.y at.z)
