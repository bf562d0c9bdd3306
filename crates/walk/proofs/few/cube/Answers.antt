-- `walk::few::cube`: a NaN is refused, and the cells lie within the table.
use Rattle.std.proofs.Common.{◌<◌, arith, length}
use Rattle.std.proofs.lemmas.Result.{err_from_is_err_and}
use Rattle.walk.proofs.Reading.{nan-at, ink-ordered, three-inside}
use Rattle.walk.proofs.few.cube.Goals as goal

pub returns-in_err-c : goal.returns-in_err-c
returns-in_err-c c =
    let p = err_from_is_err_and c.from_residual.result c.from_residual.ensures.1 in
    let e = c.in_err-c.ensures in
    rw (p.1, p.2) (nan-at c.args.call.now.inputs.now 0 c.requires.ready.laid.inks-from e.0, e.1)

pub returns-in_err-d : goal.returns-in_err-d
returns-in_err-d c =
    let p = err_from_is_err_and c.from_residual-in_err-d.result c.from_residual-in_err-d.ensures.1 in
    let e = c.in_err-d.ensures in
    let less : 1 < length c.args.call.now.inputs.now = omega arith in
    rw (p.1, p.2) (nan-at c.args.call.now.inputs.now 1 less e.0, e.1)

pub returns-in_err-e : goal.returns-in_err-e
returns-in_err-e c =
    let p = err_from_is_err_and c.from_residual-in_err-e.result c.from_residual-in_err-e.ensures.1 in
    let e = c.in_err-e.ensures in
    rw (p.1, p.2) (nan-at c.args.call.now.inputs.now 2 c.requires.some e.0, e.1)

pub overflow_sub-c : goal.overflow_sub-c
overflow_sub-c c = ink-ordered c.requires.ready 0 c.requires.ready.laid.inks-from _ c.in_ok-c.ensures.1

pub overflow_sub-d : goal.overflow_sub-d
overflow_sub-d c =
    let less : 1 < length c.args.call.now.inputs.now = omega arith in
    ink-ordered c.requires.ready 1 less _ c.in_ok-d.ensures.1

pub overflow_sub-e : goal.overflow_sub-e
overflow_sub-e c = ink-ordered c.requires.ready 2 c.requires.some _ c.in_ok-e.ensures.1

pub plan_of-p-requires : goal.plan_of-p-requires
plan_of-p-requires c = omega (arith, three-inside c.requires.ready c.requires.some _ _ _ c.in_ok-c.ensures.1 c.in_ok-d.ensures.1 c.in_ok-e.ensures.1)

pub overflow_add-result : goal.overflow_add-result
overflow_add-result c = omega (arith, three-inside c.requires.ready c.requires.some _ _ _ c.in_ok-c.ensures.1 c.in_ok-d.ensures.1 c.in_ok-e.ensures.1)

pub overflow_add-result-2 : goal.overflow_add-result-2
overflow_add-result-2 c = omega (arith, three-inside c.requires.ready c.requires.some _ _ _ c.in_ok-c.ensures.1 c.in_ok-d.ensures.1 c.in_ok-e.ensures.1)
