-- A refused layout's number, the node reader's refusal, or the place that it gives.
use Rattle.std.proofs.Common.{refl}
use Rattle.std.proofs.lemmas.Result.{err_from_is_err_and}
use Rattle.outcome.proofs.Numbers.{not_done}
use Rattle.outcome.proofs.Refused.{kept, refused-first}
use Rattle.tenahvar.proofs.Laid.{refused-number}
use Rattle.tenahvar.proofs.Laid.{node-found}
use Rattle.tenahvar.proofs.answers.find.Goals as goal

pub returns-in_err-grid : goal.returns-in_err-grid
returns-in_err-grid c =
    let p = err_from_is_err_and c.from_residual.result c.from_residual.ensures.1 in
    let refused = not_done c.in_err-grid.field-0.0 in
    let number = refused-number _ _ _ _ c.in_err-grid.ensures in
    rw (p.1, p.2) (record { number = refused-first _ _ refused number; offset = kept _ _ _ refused (refused-first _ _ refused number) })

pub returns : goal.returns
returns c =
    let laid = c.in_ok-grid.ensures in
    node-found _ _ _ _ laid.answer refl (laid.accepted refl) _ _ _ c.in_ok-first.ensures.refused refl _ c.in_ok-first.ensures.placed _
