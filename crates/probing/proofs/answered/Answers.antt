-- `probing::answered`: what each call says is what the definition says of the bytes.
use Rattle.std.proofs.Common.{refl, arith}
use Rattle.std.proofs.lemmas.Result.{err_from_is_err_and}
use Rattle.outcome.proofs.Numbers.{not_done}
use Rattle.layout.specs.Layout.{refused_by}
use Rattle.probing.proofs.Shown.{layout-refuses, lookup-refuses, lookup-answers}
use Rattle.probing.proofs.answered.Goals as goal

pub returns-in_err-lut-clause-err : goal.returns-in_err-lut-clause-err
unfolding refused_by
returns-in_err-lut-clause-err c =
    let p = err_from_is_err_and c.from_residual.result c.from_residual.ensures.1 in
    rw (p.1, p.2) (layout-refuses _ c.split.ensures.before c.in_err-lut.ensures (not_done _))

pub returns-in_err-looked-clause-err : goal.returns-in_err-looked-clause-err
returns-in_err-looked-clause-err c =
    let p = err_from_is_err_and c.from_residual-in_err-looked.result c.from_residual-in_err-looked.ensures.1 in
    rw (p.1, p.2)
    (lookup-refuses _ c.split.ensures.before c.in_ok-lut.ensures refl c.split-2.ensures.after c.split-3.ensures.before
    c.split-3.ensures.after (omega arith) c.in_err-looked.ensures (not_done _))

pub returns-clause-ok : goal.returns-clause-ok
returns-clause-ok c = (
  c.in_ok-lut.ensures.outputs refl,
  lookup-answers _ c.split.ensures.before c.in_ok-lut.ensures refl c.split-2.ensures.after c.split-3.ensures.before
      c.split-3.ensures.after (omega arith) c.in_ok-looked.ensures refl,
)
