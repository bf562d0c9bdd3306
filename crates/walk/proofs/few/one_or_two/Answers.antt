-- `walk::few::one_or_two`: a NaN is refused; the cells lie within the table; and neither ink is skipped.
use Rattle.std.proofs.Common.{◌≡◌, ◌<◌, arith, length, ap, ap₂, [], ◌∷◌}
use Rattle.std.proofs.lemmas.Result.{err_from_is_err_and}
use Rattle.cell.specs.declared.Cell.{Cell}
use Rattle.walk.proofs.Reading.{no_nans, nans-next, nan-at, settled-nan, ink-ordered, one-inside, two-inside}
use Rattle.walk.proofs.Grids.{inks-given, prefix-inside}
use Rattle.walk.proofs.Counting.{one-read, two-reads, one_answer, two_answers}
use Rattle.walk.proofs.few.one_or_two.Goals as goal

pub returns-in_err-c-clause-settled : goal.returns-in_err-c-clause-settled
returns-in_err-c-clause-settled c =
    let p = err_from_is_err_and c.from_residual.result c.from_residual.ensures.1 in
    let e = c.in_err-c.ensures in
    rw (p.1, p.2) (settled-nan c.args.call.now.inputs.now _ _ _ _ (nan-at _ 0 c.requires.ready.laid.inks-from e.0) e.1)

pub one-requires : goal.one-requires
one-requires c =
    let ready = c.requires.ready in
    let is = c.in_ok-c.ensures.1 in
    (ink-ordered ready 0 ready.laid.inks-from _ is, prefix-inside _ _ c.requires.room _ _ (one-inside ready _ is))

pub returns-then-call-eq1-clause-settled : goal.returns-then-call-eq1-clause-settled
returns-then-call-eq1-clause-settled c =
    let call = c.args.call.now in
    inks-given c.requires.ready 1 c.if-call-eq1.true (nans-next _ 0 (no_nans _) c.in_ok-c.ensures.0)
    _ (ap (λ (q : Cell). q ∷ []) c.in_ok-c.ensures.1) c.args.answer.now _ c.requires.room c.one.ensures (one_answer c.args.call.now)

pub returns-then-call-eq1-clause-counted : goal.returns-then-call-eq1-clause-counted
returns-then-call-eq1-clause-counted c = one-read c.args.call.now c.if-call-eq1.true

pub returns-in_err-d-clause-settled : goal.returns-in_err-d-clause-settled
returns-in_err-d-clause-settled c =
    let p = err_from_is_err_and c.from_residual-in_err-d.result c.from_residual-in_err-d.ensures.1 in
    let e = c.in_err-d.ensures in
    let from = c.requires.ready.laid.inks-from in
    let less : 1 < length c.args.call.now.inputs.now = omega arith in
    rw (p.1, p.2) (settled-nan c.args.call.now.inputs.now _ _ _ _ (nan-at _ 1 less e.0) e.1)

pub two-requires : goal.two-requires
two-requires c =
    let ready = c.requires.ready in
    let is = c.in_ok-c.ensures.1 in
    let also = c.in_ok-d.ensures.1 in
    let from = ready.laid.inks-from in
    let less : 1 < length c.args.call.now.inputs.now = omega arith in
    (ink-ordered ready 0 from _ is, ink-ordered ready 1 less _ also, prefix-inside _ _ c.requires.room _ _ (two-inside ready less _ _ is also))

pub returns-clause-settled : goal.returns-clause-settled
returns-clause-settled c =
    let call = c.args.call.now in
    let from = c.requires.ready.laid.inks-from in
    let both : length call.inputs.now ≡ 2 = omega arith in
    inks-given c.requires.ready 2 both (nans-next _ 1 (nans-next _ 0 (no_nans _) c.in_ok-c.ensures.0) c.in_ok-d.ensures.0)
    _ (ap₂ (λ (p q : Cell). q ∷ p ∷ []) c.in_ok-c.ensures.1 c.in_ok-d.ensures.1) c.args.answer.now _ c.requires.room c.two.ensures (two_answers c.args.call.now)

pub returns-clause-counted : goal.returns-clause-counted
returns-clause-counted c =
    let from = c.requires.ready.laid.inks-from in
    let both : length c.args.call.now.inputs.now ≡ 2 = omega arith in
    two-reads c.args.call.now both
