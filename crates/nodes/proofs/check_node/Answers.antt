use Rattle.std.proofs.Common.{true, false}
use Rattle.std.proofs.lemmas.Result.{err_from_is_err_and}
use Rattle.outcome.proofs.Numbers.{not_done}
use Rattle.nodes.proofs.Refusals.{node-refused, node-counted, node-tested}
use Rattle.nodes.proofs.check_node.Goals as goal

pub returns-in_err-lengths : goal.returns-in_err-lengths
returns-in_err-lengths c =
    let p = err_from_is_err_and c.from_residual.result c.from_residual.ensures.1 in
    rw (p.1, p.2) (node-refused _ _ _ _ c.in_err-lengths.ensures (not_done _))

pub below-requires : goal.below-requires
below-requires c = node-counted _ c.args.table.now _ c.in_ok-lengths.ensures

pub returns-then-not-below : goal.returns-then-not-below
returns-then-not-below c = node-tested _ _ _ c.in_ok-lengths.ensures false c.if-not-below.ensures

pub returns : goal.returns
returns c = node-tested _ _ _ c.in_ok-lengths.ensures true c.if-not-below.ensures
