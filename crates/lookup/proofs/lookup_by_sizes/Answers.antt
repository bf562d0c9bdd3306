use Rattle.std.proofs.Common.{refl}
use Rattle.std.proofs.lemmas.Result.{err_from_is_err_and}
use Rattle.lookup.specs.Lookup.{never}
use Rattle.lookup.proofs.Accepted.{refused-laid, looked-laid}
use Rattle.lookup.proofs.lookup_by_sizes.Goals as goal

pub returns-in_err-lut : goal.returns-in_err-lut
returns-in_err-lut c =
    let p = err_from_is_err_and c.from_residual.result c.from_residual.ensures.1 in
    rw (p.1, p.2) (refused-laid never _ _ _ _ c.in_err-lut.ensures _ _ _)

pub returns : goal.returns
returns c = looked-laid never _ _ _ _ c.in_ok-lut.ensures refl _ _ _ _ _ c.lookup.ensures
