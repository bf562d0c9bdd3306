-- `walk::many::many`: the inks that are kept, from the lowest corner on.
use Rattle.std.proofs.Common.{arith, ◌∙◌}
use Rattle.walk.proofs.Grids.{inks-kept, done-to, prefix-inside}
use Rattle.walk.proofs.many.many.Goals as goal

pub offset_bounds-call-at : goal.offset_bounds-call-at
offset_bounds-call-at c =
    let e = c.in_ok-at.ensures in
    let k = inks-kept c.requires.ready c.requires.some _ e.lowest _ e.steps _ _ c.keep-n.ensures.inks in omega (arith, k.starts)

pub slice_bounds-blend-count : goal.slice_bounds-blend-count
slice_bounds-blend-count c =
    let e = c.in_ok-at.ensures in
    let k = inks-kept c.requires.ready c.requires.some _ e.lowest _ e.steps _ _ c.keep-n.ensures.inks in omega (arith, k.starts)

pub slice_bounds-blend-start : goal.slice_bounds-blend-start
slice_bounds-blend-start c =
    let e = c.in_ok-at.ensures in
    let k = inks-kept c.requires.ready c.requires.some _ e.lowest _ e.steps _ _ c.keep-n.ensures.inks in omega (arith, k.starts)

pub blend-requires-clause-weighed : goal.blend-requires-clause-weighed
blend-requires-clause-weighed c i h =
    let e = c.in_ok-at.ensures in
    (inks-kept c.requires.ready c.requires.some _ e.lowest _ e.steps _ _ c.keep-n.ensures.inks).weights i (omega (arith, c.keep-n.ensures.few))

pub blend-requires-clause-out_in_bounds : goal.blend-requires-clause-out_in_bounds
blend-requires-clause-out_in_bounds c =
    let e = c.in_ok-at.ensures in
    let k = inks-kept c.requires.ready c.requires.some _ e.lowest _ e.steps _ _ c.keep-n.ensures.inks in prefix-inside _ _ (omega arith) _ _ (omega (arith, k.reaches))

pub returns-clause-settled : goal.returns-clause-settled
returns-clause-settled c =
    let e = c.in_ok-at.ensures in
    let k = inks-kept c.requires.ready c.requires.some _ e.lowest _ e.steps _ _ c.keep-n.ensures.inks in done-to k _ (omega arith) _ _ c.requires.room c.blend.ensures

pub returns-clause-counted : goal.returns-clause-counted
returns-clause-counted c =
    let e = c.in_ok-at.ensures in
    c.reads_of.ensures
    ∙ (inks-kept c.requires.ready c.requires.some _ e.lowest _ e.steps _ _ c.keep-n.ensures.inks).counted
