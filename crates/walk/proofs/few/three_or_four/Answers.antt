-- `walk::few::three_or_four`: the inks lie within the table, and the answers and the reads are those of the plan, and of ink 4 above it.
use Rattle.std.proofs.Common.{◌≡◌, ◌<◌, arith, length, ap, not, Bool, ◌∙◌}
use Rattle.std.proofs.lemmas.Result.{err_from_is_err_and}
use mir.Val.{bool_byte}
use Rattle.walk.proofs.Reading.{nan-at, settled-nan, ink-ordered}
use Rattle.walk.proofs.Kept.{place}
use Rattle.walk.proofs.Grids.{prefix-inside}
use Rattle.walk.proofs.Cubes.{three-starts, three-near, three-done, three-reads, four-starts, four-near, four-done, four-reads}
use Rattle.walk.proofs.few.three_or_four.Goals as goal

-- ---- three inks

pub offset_bounds-call-at : goal.offset_bounds-call-at
offset_bounds-call-at c = omega (arith, three-starts c.requires.ready c.in_ok-p.ensures c.if-call-eq3.true)

pub slice_bounds-three-count : goal.slice_bounds-three-count
slice_bounds-three-count c = omega (arith, three-starts c.requires.ready c.in_ok-p.ensures c.if-call-eq3.true)

pub slice_bounds-three-start : goal.slice_bounds-three-start
slice_bounds-three-start c = omega (arith, three-starts c.requires.ready c.in_ok-p.ensures c.if-call-eq3.true)

pub three-requires : goal.three-requires
three-requires c =
    let near = three-near c.requires.ready c.in_ok-p.ensures c.if-call-eq3.true in
    (near.0, prefix-inside _ _ c.requires.room _ _ near.1)

pub returns-then-call-eq3-clause-settled : goal.returns-then-call-eq3-clause-settled
returns-then-call-eq3-clause-settled c =
    three-done c.requires.ready c.in_ok-p.ensures c.if-call-eq3.true _ _ c.requires.room c.three.ensures

pub returns-then-call-eq3-clause-counted : goal.returns-then-call-eq3-clause-counted
returns-then-call-eq3-clause-counted c = three-reads c.requires.ready c.in_ok-p.ensures c.if-call-eq3.true

-- ---- four

pub returns-in_err-h-clause-settled : goal.returns-in_err-h-clause-settled
returns-in_err-h-clause-settled c =
    let p = err_from_is_err_and c.from_residual-in_err-h.result c.from_residual-in_err-h.ensures.1 in
    let e = c.in_err-h.ensures in
    let less : 3 < length c.args.call.now.inputs.now = omega arith in
    rw (p.1, p.2) (settled-nan c.args.call.now.inputs.now _ _ _ _ (nan-at _ 3 less e.0) e.1)

pub overflow_add-at : goal.overflow_add-at
overflow_add-at c =
    let h = c.in_ok-h.ensures in
    let is : length c.args.call.now.inputs.now ≡ 4 = omega arith in
    omega (arith, four-starts c.requires.ready c.in_ok-p.ensures is _ h.0 h.1)

pub offset_bounds-call-at-2 : goal.offset_bounds-call-at-2
offset_bounds-call-at-2 c =
    let h = c.in_ok-h.ensures in
    let is : length c.args.call.now.inputs.now ≡ 4 = omega arith in
    omega (arith, four-starts c.requires.ready c.in_ok-p.ensures is _ h.0 h.1)

pub slice_bounds-four-count : goal.slice_bounds-four-count
slice_bounds-four-count c =
    let h = c.in_ok-h.ensures in
    let is : length c.args.call.now.inputs.now ≡ 4 = omega arith in
    omega (arith, four-starts c.requires.ready c.in_ok-p.ensures is _ h.0 h.1)

pub slice_bounds-four-start : goal.slice_bounds-four-start
slice_bounds-four-start c =
    let h = c.in_ok-h.ensures in
    let is : length c.args.call.now.inputs.now ≡ 4 = omega arith in
    omega (arith, four-starts c.requires.ready c.in_ok-p.ensures is _ h.0 h.1)

pub overflow_sub-h : goal.overflow_sub-h
overflow_sub-h c =
    let less : 3 < length c.args.call.now.inputs.now = omega arith in
    ink-ordered c.requires.ready 3 less _ c.in_ok-h.ensures.1

pub four-requires : goal.four-requires
four-requires c =
    let h = c.in_ok-h.ensures in
    let is : length c.args.call.now.inputs.now ≡ 4 = omega arith in
    let near = four-near c.requires.ready c.in_ok-p.ensures is _ h.0 h.1 in
    (near.0, prefix-inside _ _ c.requires.room _ _ near.1)

pub returns-clause-settled : goal.returns-clause-settled
returns-clause-settled c =
    let h = c.in_ok-h.ensures in
    let is : length c.args.call.now.inputs.now ≡ 4 = omega arith in
    four-done c.requires.ready c.in_ok-p.ensures is _ h.0 h.1 _ c.skipped-alone.ensures _ _ c.requires.room c.four.ensures

pub returns-clause-counted : goal.returns-clause-counted
returns-clause-counted c =
    let h = c.in_ok-h.ensures in
    let is : length c.args.call.now.inputs.now ≡ 4 = omega arith in
    c.reads_of.ensures
    ∙ four-reads c.requires.ready c.in_ok-p.ensures is _ h.0 h.1 c.from.result
    (c.from.ensures ∙ ap (λ (b : Bool). bool_byte (not b)) c.skipped-alone.ensures ∙ place _)
