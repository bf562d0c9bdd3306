-- Every place passed is as an unused one is.
use Rattle.std.proofs.Common.{ℕ, ◌≤◌, ◌<◌}
use Rattle.layout.specs.Places.{UnusedAt}
use Rattle.layout.proofs.places.unused.Given as goal

abbrev pub invariant-loop-i : goal.invariant-loop-i
invariant-loop-i l = (k : ℕ) → k < l.i → l.lut.input_inks ≤ k → UnusedAt l.lut k
