use Rattle.std.proofs.lemmas.Result.{err_from_is_err_and}
use Rattle.nodes.proofs.Shown.{none_shown, shown-node}
use Rattle.nodes.proofs.node.Goals as goal

pub returns-in_err-first-clause-shown : goal.returns-in_err-first-clause-shown
returns-in_err-first-clause-shown c =
    let p = err_from_is_err_and c.from_residual.result c.from_residual.ensures.1 in
    rw p.1 (none_shown _ _ _ _ c.in_err-first.ensures.refused)

pub returns-clause-shown : goal.returns-clause-shown
returns-clause-shown c = shown-node _ _ _ c.in_ok-first.ensures.refused _ c.in_ok-first.ensures.placed
