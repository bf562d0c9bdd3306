use Rattle.std.proofs.Common.{◌≡◌, length, arith, subst}
use Rattle.lookup.specs.Places.{NoNans}
use Rattle.lookup.proofs.Nans.{refused-at, all-numbers}
use Rattle.lookup.proofs.place.place.Goals as goal

pub returns-in_default-clause-number : goal.returns-in_default-clause-number
returns-in_default-clause-number c =
    let lut = c.args.lut.now in
    refused-at lut.grid_filling_size lut.grid_sizes c.args.inputs.now c.loop-i.i _ c.placed-found.ensures c.loop-i-test.true c.in_default.is

pub returns-clause-number : goal.returns-clause-number
returns-clause-number c =
    let all : c.loop-i.i ≡ length c.args.inputs.now = omega arith in
    all-numbers c.args.inputs.now (subst (NoNans c.args.inputs.now) all c.loop-i.invariant.numbers)
