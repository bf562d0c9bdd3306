use Rattle.std.proofs.Common.{rules, ◌≡◌, Bool}
use Rattle.cubes.specs.Cube.{entries_at}
use Rattle.cubes.specs.Corners.{corner_at}
use Rattle.cubes.proofs.Cube.corners.Goals as goal

pub returns : goal.returns
returns c =
    let args = c.args in
    let at : (i j k : Bool) → corner_at c.map.result i j k ≡ entries_at (corner_at args.starts) args.self.entries.now args.output i j k =
    λ i j k. let one = c.map.ensures i j k in search rules in
    λ p i j k. at i j k p
