use Rattle.std.proofs.Common.{◌≡◌, length, arith}
use Rattle.layout.proofs.Laws.{inks-to}
use Rattle.nodes.proofs.Strided.{none_yet, addend, one_more, all-is, number-fits}
use Rattle.nodes.proofs.coordinates.number.Goals as goal

pub loop-i-init : goal.loop-i-init
loop-i-init c = none_yet _ _

pub bounds-lut-i : goal.bounds-lut-i
bounds-lut-i c = omega (arith, inks-to c.args.lut.now c.requires.layout, c.requires.as_many)

pub overflow_mul-sum : goal.overflow_mul-sum
overflow_mul-sum c = omega (arith, addend c.args.lut.now c.args.coordinates.now c.requires c.loop-i.i c.loop-i-test.true)

pub overflow_add-sum : goal.overflow_add-sum
overflow_add-sum c =
    let next = one_more c.args.lut.now c.args.coordinates.now c.requires c.loop-i.i c.loop-i.sum c.loop-i.invariant c.loop-i-test.true in
    omega (arith, next.most, inks-to c.args.lut.now c.requires.layout, c.requires.as_many)

pub loop-i-preserved : goal.loop-i-preserved
loop-i-preserved c = one_more c.args.lut.now c.args.coordinates.now c.requires c.loop-i.i c.loop-i.sum c.loop-i.invariant c.loop-i-test.true

pub overflow_cast-result : goal.overflow_cast-result
overflow_cast-result c =
    let all : c.loop-i.i ≡ length c.args.coordinates.now = omega arith in
    let is = all-is c.args.lut.now c.args.coordinates.now c.requires c.loop-i.i c.loop-i.sum c.loop-i.invariant all in
    omega (arith, is, number-fits c.args.lut.now c.args.coordinates.now c.requires)

pub returns : goal.returns
returns c = all-is c.args.lut.now c.args.coordinates.now c.requires c.loop-i.i c.loop-i.sum c.loop-i.invariant (omega arith)
