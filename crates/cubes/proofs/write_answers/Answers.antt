use Rattle.lists.proofs.Buffer.{written_next}
use Rattle.cubes.proofs.write_answers.Goals as goal

pub loop-output-preserved : goal.loop-output-preserved
loop-output-preserved c = rw (c.blend.ensures, c.corners.ensures, c.loop-output.invariant) (written_next _ _ _)
