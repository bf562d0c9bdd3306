-- Each refusal is that of the first test that fails, and else the answers are the definition's.
use Rattle.std.proofs.Common.{arith, ap, not}
use Rattle.std.proofs.lemmas.Result.{err_from_is_err_and}
use Rattle.layout.proofs.Laws.{inks-to}
use Rattle.lookup.specs.Lookup.{never}
use Rattle.lookup.proofs.Refusals.{looked-refused, looked-lengths, looked-passed, looked-short, looked-written}
use Rattle.lookup.proofs.lookup.Goals as goal

pub returns-then-not-is_layout : goal.returns-then-not-is_layout
returns-then-not-is_layout c =
    looked-refused never _ _ _ _ _ c.is_layout.ensures (ap not c.if-not-is_layout.true)

pub returns-in_err-check_lengths : goal.returns-in_err-check_lengths
returns-in_err-check_lengths c =
    let p = err_from_is_err_and c.from_residual.result c.from_residual.ensures.1 in
    rw (p.1, p.2)
    (looked-lengths never _ _ _ _ _ c.is_layout.ensures c.if-not-is_layout.false _ c.entry_count.ensures _ c.in_err-check_lengths.ensures)

pub returns-then-answer-m : goal.returns-then-answer-m
returns-then-answer-m c =
    looked-short never _ _ _ _ _ c.is_layout.ensures c.if-not-is_layout.false _ c.entry_count.ensures c.in_ok-check_lengths.ensures
    c.if-answer-m.true

pub write-requires-clause-few : goal.write-requires-clause-few
write-requires-clause-few c =
    let a = c.args in
    let ok = looked-passed never a.lut a.table.now a.inputs.now a.answer.now _ c.is_layout.ensures c.if-not-is_layout.false
    _ c.entry_count.ensures c.in_ok-check_lengths.ensures in
    omega (arith, ok.as_many, inks-to a.lut (c.is_layout.ensures.holds c.if-not-is_layout.false))

pub write-requires-clause-enough : goal.write-requires-clause-enough
write-requires-clause-enough c =
    let a = c.args in
    (looked-passed never a.lut a.table.now a.inputs.now a.answer.now _ c.is_layout.ensures c.if-not-is_layout.false
    _ c.entry_count.ensures c.in_ok-check_lengths.ensures).enough

pub returns : goal.returns
returns c =
    looked-written never _ _ _ _ _ c.is_layout.ensures c.if-not-is_layout.false _ c.entry_count.ensures c.in_ok-check_lengths.ensures
    c.if-answer-m.false _ _ c.write.ensures.number c.write.ensures.entries
