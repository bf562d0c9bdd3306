use Rattle.std.proofs.Common.{◌≡◌}
use Rattle.lists.specs.Buffer.{written}
use Rattle.cubes.specs.Cube.{entries_at}
use Rattle.cubes.specs.Corners.{corner_at, blend_of}
use Rattle.cubes.proofs.write_answers.Given as goal

abbrev pub invariant-loop-output : goal.invariant-loop-output
invariant-loop-output l =
    let corners = entries_at (corner_at l.starts) l.cube.entries.now in
    l.answer ≡ written (λ o. blend_of l.method (corners o) l.weights.red l.weights.green l.weights.blue) l.output l.initial.answer
