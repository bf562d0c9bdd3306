use Rattle.std.proofs.Common.{◌≡◌, ℕ, ◌-◌, ◌*◌, ◌≤◌, ◌<◌, get_or, length, not, refl, sym, ap, ◌∙◌, arith, rules, mul-le-mul}
use lib.Dec.{lit≤}
use lib.Seq.{get_or-take, length-take-le}
use Rattle.layout.specs.declared.MultidimensionalLut.{MultidimensionalLut}
use Rattle.layout.specs.Layout.{stride}
use Rattle.layout.specs.Places.{used_sizes, UsedAt}
use Rattle.outcome.proofs.Decided.{refuses, not-both}
use Rattle.layout.proofs.Parts.{running, running_none, running-stride, running-next, from_less, scale-is-number}
use Rattle.layout.proofs.places.used.Goals as goal

pub loop-i-init : goal.loop-i-init
loop-i-init c = record {
  product_so_far = sym (running_none _ c.args.lut.now.input_inks);
  narrow = lit≤ tt;
  outputs = refl;
  right = λ k h l. absurd (omega (arith, h, l));
}

-- ---- one turn, at the ink before the i-th

module _ (lut : MultidimensionalLut) (i stride-now : ℕ) (some : 0 < i) (few : i ≤ lut.input_inks) (sixteen : length lut.grid_sizes ≡ 16) (inks : lut.input_inks ≤ 16) (is : stride-now ≡ running (used_sizes lut) i) where
  stored_is : get_or lut.grid_strides (i - 1) 0 ≡ stride-now → get_or lut.grid_strides (i - 1) 0 ≡ stride (used_sizes lut) (i - 1)
  stored_is same = same ∙ is ∙ running-stride (used_sizes lut) i some

  next : stride-now * get_or lut.grid_sizes (i - 1) 0 ≡ running (used_sizes lut) (i - 1)
  next =
      let used = used_sizes lut in
      let whole : i ≤ length used = omega (arith, length-take-le lut.input_inks lut.grid_sizes (omega arith)) in
      let size : get_or lut.grid_sizes (i - 1) 0 ≡ get_or used (i - 1) 0 = sym (get_or-take lut.input_inks lut.grid_sizes (i - 1) 0 (omega arith)) in
      (λ k. is k * size k) ∙ sym (running-next used i some whole)

pub returns-then-not-same_bits : goal.returns-then-not-same_bits
returns-then-not-same_bits c =
    let size : get_or c.args.lut.now.grid_sizes (c.loop-i.i - 1) 0 < 256 = search rules in
    refuses (λ all. not-both _ (ap not c.if-not-same_bits.true) (c.same_bits.ensures.1 (all.0 (c.loop-i.i - 1) (omega arith)).scale-is (scale-is-number _ size)))

pub loop-i-preserved : goal.loop-i-preserved
loop-i-preserved c =
    let at = c.loop-i in
    let lut = c.args.lut.now in
    let sixteen : length lut.grid_sizes ≡ 16 = search rules in
    let size : get_or lut.grid_sizes (at.i - 1) 0 < 256 = search rules in
    let wide : get_or lut.grid_strides (at.i - 1) 0 < 4_294_967_296 = search rules in
    let inks = c.requires.0 in
    let stride-is = stored_is lut at.i at.stride c.loop-i-test.true at.auto.i sixteen inks at.invariant.product_so_far c.if-stored-stride.false in
    let right : UsedAt lut (at.i - 1) =
    record {
      above = omega (arith, c.if-size-eq0.false);
      stride-is = stride-is;
      filling-is = c.if-lut-i.false ∙ ap (λ (x : ℕ). lut.output_inks * x) stride-is;
      scale-is = c.same_bits.ensures.0 c.if-not-same_bits.false;
    } in
    record {
      product_so_far = ap (λ (x : ℕ). x * get_or lut.grid_sizes (at.i - 1) 0) c.if-stored-stride.false ∙ next lut at.i at.stride c.loop-i-test.true at.auto.i sixteen inks at.invariant.product_so_far;
      narrow = mul-le-mul {n₂ = 4_294_967_295} {m₂ = 255} (omega arith) (omega arith);
      outputs = refl;
      right = from_less lut.input_inks at.i at.invariant.right right;
    }
