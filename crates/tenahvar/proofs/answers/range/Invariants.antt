-- The first places of each array hold the cells of the codes that were passed, and no size 0 passed one.
use Rattle.std.proofs.Common.{◌≡◌, ◌<◌}
use Rattle.lists.specs.Buffer.{written}
use Rattle.weights.specs.Rule.{weight_cell}
use Rattle.tenahvar.proofs.answers.range.Given as goal

abbrev pub invariant-loop-code : goal.invariant-loop-code
invariant-loop-code l = record {
  sized : 0 < l.code → 0 < l.g;
  lower : l.x ≡ written (λ k. (weight_cell l.g k).x) l.code l.initial.x;
  upper : l.x_n ≡ written (λ k. (weight_cell l.g k).x_n) l.code l.initial.x_n;
  weight : l.w ≡ written (λ k. (weight_cell l.g k).w) l.code l.initial.w;
}
