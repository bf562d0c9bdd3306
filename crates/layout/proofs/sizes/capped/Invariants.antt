-- t is the product of the sizes passed times m, cut to the limit and one.
use Rattle.std.proofs.Common.{◌≡◌, ◌+◌, ◌*◌, min, take}
use Rattle.lists.specs.Lists.{product}
use Rattle.layout.specs.Layout.{limit}
use Rattle.layout.proofs.sizes.capped.Given as goal

abbrev pub invariant-loop-size : goal.invariant-loop-size
invariant-loop-size l = l.t ≡ min (product (take l.size-index l.sizes) * l.m) (limit + 1)
