-- A refused layout cuts nothing.
use Rattle.std.proofs.lemmas.Result.{err_from_is_err_and}
use Rattle.outcome.proofs.Numbers.{not_done}
use Rattle.outcome.proofs.Refused.{refused-first}
use Rattle.tenahvar.proofs.Laid.{refused-number}
use Rattle.lists.proofs.Buffer.{unwritten}
use Rattle.tenahvar.proofs.answers.cut.Goals as goal

pub returns-in_err-whole : goal.returns-in_err-whole
returns-in_err-whole c =
    let p = err_from_is_err_and c.from_residual.result c.from_residual.ensures.1 in
    let refused = not_done c.in_err-whole.field-0.0 in
    let number = refused-number _ _ _ _ c.in_err-whole.ensures in
    rw (p.1, p.2) (record { number = refused-first _ _ refused number; entries = unwritten _ _ _ _ refused (refused-first _ _ refused number) })
