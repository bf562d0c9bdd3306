-- The number and the rows are those of the layout.
use Rattle.std.proofs.Common.{ap, ◌∙◌}
use Rattle.std.proofs.lemmas.Result.{err_from_is_err_and}
use Rattle.outcome.proofs.Numbers.{not_done}
use Rattle.outcome.proofs.Refused.{kept, given}
use Rattle.layout.specs.Layout.{Laid}
use Rattle.tenahvar.proofs.Laid.{refused-number, accepted-number}
use Rattle.tenahvar.proofs.answers.lay_out.Goals as goal

pub returns-in_err-lut : goal.returns-in_err-lut
returns-in_err-lut c =
    let p = err_from_is_err_and c.from_residual.result c.from_residual.ensures.1 in
    let refused = not_done c.in_err-lut.field-0.0 in
    let number = refused-number _ _ _ _ c.in_err-lut.ensures in
    rw (p.1, p.2) (record { number = number; strides = kept _ _ _ refused number; filling = kept _ _ _ refused number; scale = kept _ _ _ refused number })

pub returns : goal.returns
returns c =
    let laid = c.in_ok-lut.ensures.answer in
    let done = accepted-number _ _ _ _ c.in_ok-lut.ensures in
    record {
      number = done;
      strides = ap (λ (l : Laid). l.lut.grid_strides) laid ∙ given _ _ _ done;
      filling = ap (λ (l : Laid). l.lut.grid_filling_size) laid ∙ given _ _ _ done;
      scale = ap (λ (l : Laid). l.lut.grid_scale) laid ∙ given _ _ _ done;
    }
