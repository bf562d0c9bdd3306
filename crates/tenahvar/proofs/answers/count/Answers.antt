-- The total is that of the layout's record.
use Rattle.std.proofs.Common.{refl, ap, ◌∙◌}
use Rattle.std.proofs.lemmas.Result.{err_from_is_err_and}
use Rattle.outcome.proofs.Numbers.{not_done}
use Rattle.outcome.proofs.Refused.{kept, given}
use Rattle.layout.specs.Layout.{Laid, entries}
use Rattle.tenahvar.proofs.Laid.{refused-number, accepted-number}
use Rattle.layout.proofs.Laws.{first-filling}
use Rattle.tenahvar.proofs.answers.count.Goals as goal

pub returns-in_err-asked : goal.returns-in_err-asked
returns-in_err-asked c =
    let p = err_from_is_err_and c.from_residual.result c.from_residual.ensures.1 in
    let refused = not_done c.in_err-asked.field-0.0 in
    let number = refused-number _ _ _ _ c.in_err-asked.ensures in
    rw (p.1, p.2) (record { number = number; total = kept _ _ _ refused number })

pub returns : goal.returns
returns c =
    let laid = c.in_ok-asked.ensures in
    let done = accepted-number _ _ _ _ laid in
    record {
      number = done;
      total = c.entry_count.ensures ∙ first-filling _ (laid.accepted refl) ∙ ap (λ (l : Laid). entries l.lut) laid.answer ∙ given _ _ _ done;
    }
