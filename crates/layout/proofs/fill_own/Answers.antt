use Rattle.std.proofs.Common.{◌≡◌, ◌-◌, get_or, sym, arith}
use lib.Ieee.{of_bits}
use Rattle.binary32.specs.Numbers.{plus_zero, of_whole}
use Rattle.layout.proofs.Parts.{above_at, filled_none, filled-all, filled_next}
use Rattle.layout.proofs.fill_own.Goals as goal

pub loop-ink-init : goal.loop-ink-init
unfolding of_bits
loop-ink-init c = record { scales = sym (filled_none _ _ plus_zero); sizes = sym (filled_none _ _ 0) }

pub overflow_sub-scale : goal.overflow_sub-scale
overflow_sub-scale c =
    above_at c.args.sizes.now c.args.n (omega (arith, c.requires.few, c.requires.known.sixteen)) c.requires.above (c.loop-ink.ink - 1) (omega arith)

pub loop-ink-preserved : goal.loop-ink-preserved
loop-ink-preserved c =
    let at = c.loop-ink in
    let some = c.loop-ink-test.true in
    record {
      scales = rw at.invariant.scales (filled_next c.args.n (λ i. of_whole (get_or c.args.sizes.now i 0 - 1)) plus_zero at.ink some at.auto.ink);
      sizes = rw at.invariant.sizes (filled_next c.args.n (λ i. get_or c.args.sizes.now i 0) 0 at.ink some at.auto.ink);
    }

pub returns : goal.returns
returns c =
    let at = c.loop-ink in
    let done : at.ink ≡ 0 = omega arith in
    (simp (at.invariant.scales, done, filled-all), simp (at.invariant.sizes, done, filled-all))
