use Rattle.std.proofs.Common.{◌≡◌, ℕ, ◌-◌, ◌*◌, ◌≤◌, ◌<◌, List, get_or, take, length, sym, ap, ◌∙◌, arith, le_refl, mul-one, mul_comm, mul_assoc}
use lib.Seq.{get_or-take, length-take-le}
use Rattle.layout.specs.Layout.{limit, stride}
use Rattle.layout.specs.Tested.{Fills}
use Rattle.layout.proofs.Parts.{filled_none, filled-all, filled_next, running, running_none, running-stride, running-next, product-fits}
use Rattle.layout.proofs.fill.Goals as goal

-- ---- one turn, at the ink before the i-th, where the running value is v

module _ (sizes : List ℕ) (n first i v : ℕ) (fills : Fills sizes n first) (some : 0 < i) (few : i ≤ n) (is : v ≡ first * running (take n sizes) i) where
  -- the running value is that of the ink whose place is filled
  value-is : v ≡ first * stride (take n sizes) (i - 1)
  value-is = is ∙ ap (λ (x : ℕ). first * x) (running-stride (take n sizes) i some)

  -- and the next one that times the ink's size
  next-is : v * get_or sizes (i - 1) 0 ≡ first * running (take n sizes) (i - 1)
  next-is =
      let used = take n sizes in
      let inks : i ≤ length used = omega (arith, length-take-le n sizes (omega (arith, fills.few, fills.known.sixteen))) in
      let size : get_or sizes (i - 1) 0 ≡ get_or used (i - 1) 0 = sym (get_or-take n sizes (i - 1) 0 (omega arith)) in
      (λ k. is k * size k)
      ∙ mul_assoc first (running used i) (get_or used (i - 1) 0)
      ∙ ap (λ (x : ℕ). first * x) (sym (running-next used i some inks))

  next_fits : v * get_or sizes (i - 1) 0 ≤ limit
  next_fits =
      let used = take n sizes in
      omega (arith, next-is, mul_comm first (running used (i - 1)), product-fits used (i - 1) first first fills.above (le_refl first) fills.within)

pub loop-i-init : goal.loop-i-init
loop-i-init c = record {
  running_value = sym (ap (λ (x : ℕ). c.args.first * x) (running_none _ c.args.n) ∙ mul-one _);
  filled = sym (filled_none _ _ 1);
}

pub overflow_mul-value : goal.overflow_mul-value
overflow_mul-value c =
    omega (arith, next_fits _ _ _ c.loop-i.i _ c.requires c.loop-i-test.true c.loop-i.auto.i c.loop-i.invariant.running_value)

pub loop-i-preserved : goal.loop-i-preserved
loop-i-preserved c =
    let at = c.loop-i in
    let some = c.loop-i-test.true in
    let value = value-is _ _ _ at.i _ c.requires some at.auto.i at.invariant.running_value in
    record {
      running_value = next-is _ _ _ at.i _ c.requires some at.auto.i at.invariant.running_value;
      filled = rw (at.invariant.filled, value) (filled_next c.args.n (λ j. c.args.first * stride (take c.args.n c.args.sizes.now) j) 1 at.i some at.auto.i);
    }

pub returns : goal.returns
returns c = let done : c.loop-i.i ≡ 0 = omega arith in simp (c.loop-i.invariant.filled, done, filled-all)
