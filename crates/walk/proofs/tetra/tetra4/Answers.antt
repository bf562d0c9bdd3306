-- `walk::tetra::tetra4`: lane by lane.
use Rattle.std.proofs.Common.{◌≡◌, ◌∙◌, ap, zero-add}
use Rattle.walk.specs.Blocks.{lane, at}
use Rattle.walk.proofs.tetra.tetra4.Goals as goal

pub returns : goal.returns
returns c k h =
    let first : lane c.load.result k ≡ at c.args.t.now k = c.load.ensures k h ∙ ap (at c.args.t.now) (zero-add k) in
    cc (c.term4-s1.ensures k h, c.term4-s2.ensures k h, c.term4.ensures k h)
