use Rattle.std.proofs.Common.{◌≡◌, ℕ, zero, suc, ◌+◌, ◌*◌, ◌≤◌, ◌<◌, min, List, get_or, take, length, sym, ap, ◌∙◌, one-mul, mul-zero, mul-suc, arith, add-one}
use native.Mathlib.Nat.{mul_right_comm, min-eq_left, min-eq_right}
use native.Mathlib.Decide.{dec_le}
use Rattle.lists.specs.Lists.{product}
use Rattle.layout.specs.Layout.{limit}
use Rattle.lists.proofs.Lists.{product-take-suc}
use Rattle.layout.proofs.sizes.capped.Goals as goal

-- to cut before a product and after is to cut after
cut_step : (c a e : ℕ) → min (min a c * e) c ≡ min (a * e) c
cut_step c a zero = simp mul-zero
cut_step c a (suc e) =
    elim (dec_le a c) [
      | yes h ↦ rw (min-eq_left h)
      | no h ↦
          let above : c ≤ a = omega arith in
          let grows : c ≤ c * suc e = omega (arith, mul-suc c e) in
          let more : c ≤ a * suc e = omega (arith, mul-suc a e) in
          rw (min-eq_right above) (min-eq_right grows ∙ sym (min-eq_right more))
    ]

-- one size more
cut_next : (sizes : List ℕ) (m i t : ℕ) → i < length sizes → t ≡ min (product (take i sizes) * m) (limit + 1)
    → min (t * get_or sizes i 0) (limit + 1) ≡ min (product (take (i + 1) sizes) * m) (limit + 1)
cut_next sizes m i t h is =
    let p = product (take i sizes) in
    let e = get_or sizes i 0 in
    let next : product (take (i + 1) sizes) * m ≡ p * m * e = rw (add-one, product-take-suc sizes i h) (mul_right_comm p e m) in
    ap (λ (x : ℕ). min (x * e) (limit + 1)) is ∙ cut_step (limit + 1) (p * m) e ∙ ap (λ (x : ℕ). min x (limit + 1)) (sym next)

pub loop-size-init : goal.loop-size-init
unfolding product
loop-size-init c = sym (ap (λ (x : ℕ). min x (limit + 1)) (one-mul c.args.m) ∙ min-eq_left (omega arith))

pub loop-size-preserved : goal.loop-size-preserved
loop-size-preserved c = grind (arith, c.min-t.ensures, cut_next c.args.sizes.now c.args.m c.loop-size.size-index c.loop-size.t c.loop-size-test.true c.loop-size.invariant)
