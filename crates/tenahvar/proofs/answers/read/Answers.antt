-- The number and the table are those of the reading; the sizes are its record's.
use Rattle.std.proofs.Common.{sym, ap, ◌∙◌}
use Rattle.std.proofs.lemmas.Result.{err_from_is_err_and}
use Rattle.outcome.proofs.Numbers.{not_done}
use Rattle.outcome.proofs.Refused.{kept, given}
use Rattle.layout.specs.Layout.{Laid}
use Rattle.clut.proofs.Reading.{clut-number}
use Rattle.tenahvar.proofs.Laid.{refused-as}
use Rattle.tenahvar.proofs.answers.read.Goals as goal

pub returns-in_err-lut : goal.returns-in_err-lut
returns-in_err-lut c =
    let p = err_from_is_err_and c.from_residual.result c.from_residual.ensures.1 in
    let read = c.in_err-lut.ensures in
    let number = refused-as _ _ (clut-number _ _ _ _ _ _ read) in
    rw (p.1, p.2) (record { number = number; sizes = kept _ _ _ (not_done c.in_err-lut.field-0.0) number; table = read.table })

pub returns : goal.returns
returns c =
    let read = c.in_ok-lut.ensures in
    let done = clut-number _ _ _ _ _ _ read in
    let answer = read.answer ∙ sym (given _ _ _ done) in
    record { number = done; sizes = ap (λ (l : Laid). l.lut.grid_sizes) answer ∙ given _ _ _ done; table = read.table }
