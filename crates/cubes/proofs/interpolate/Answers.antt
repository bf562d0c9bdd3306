use Rattle.std.proofs.Common.{sym, refl}
use Rattle.cubes.specs.Cube.{answer_at}
use Rattle.cubes.proofs.Reach.{reach}
use Rattle.cubes.proofs.Accepted.{accepted}
use Rattle.cubes.proofs.interpolate.Goals as goal

pub starts-starts-requires : goal.starts-starts-requires
starts-starts-requires c = (accepted _ _ _ _ _ _ _ (sym c.in_ok-check.ensures)).inside

pub write_answers-requires-clause-room : goal.write_answers-requires-clause-room
write_answers-requires-clause-room c = (accepted _ _ _ _ _ _ _ (sym c.in_ok-check.ensures)).wide

pub write_answers-requires-clause-reach : goal.write_answers-requires-clause-reach
write_answers-requires-clause-reach c =
    let passed = accepted _ _ _ _ _ _ _ (sym c.in_ok-check.ensures) in
    reach _ _ _ _ _ _ passed.inside passed.long _ c.starts-starts.ensures

pub returns : goal.returns
unfolding answer_at
returns c = record { number = c.in_ok-check.ensures; entries = rw (c.write_answers.ensures, c.starts-starts.ensures) refl }
