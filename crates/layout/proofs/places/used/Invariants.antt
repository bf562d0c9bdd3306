-- From ink i on every place is right, and the running product is that of the sizes passed.
use Rattle.std.proofs.Common.{◌≡◌, ℕ, ◌*◌, ◌≤◌, ◌<◌}
use Rattle.layout.specs.Places.{used_sizes, UsedAt}
use Rattle.layout.proofs.Parts.{running}
use Rattle.layout.proofs.places.used.Given as goal

abbrev pub invariant-loop-i : goal.invariant-loop-i
invariant-loop-i l = record {
  product_so_far : l.stride ≡ running (used_sizes l.lut) l.i;
  -- a stored stride of 32 bits times a size of 8
  narrow : l.stride ≤ 4_294_967_295 * 255;
  outputs : l.outputs ≡ l.lut.output_inks;
  right : (k : ℕ) → l.i ≤ k → k < l.lut.input_inks → UsedAt l.lut k;
}
