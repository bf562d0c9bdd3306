-- `walk::tetra::term4`: lane by lane.
use Rattle.std.proofs.Common.{◌≡◌, rules}
use Rattle.std.specs.Float.{binary32}
use Rattle.std.specs.Float.Ieee.{sub}
use Rattle.binary32.specs.Blend.{mlaf}
use Rattle.walk.specs.Blocks.{lane}
use Rattle.walk.proofs.tetra.term4.Goals as goal

pub returns : goal.returns
returns c k h =
    let e = c.with.ensures k h in
    let d = c.with-rise.ensures k h in
    let sum : lane c.with.result k ≡ mlaf (lane c.args.sum k) (lane c.with-rise.result k) c.args.w = search rules in
    let rise : lane c.with-rise.result k ≡ sub binary32 (lane c.load.result k) (lane c.load-2.result k) = search rules in
    cc (c.load.ensures k h, c.load-2.ensures k h)
