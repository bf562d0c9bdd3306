-- `patterns::hex`: eight places, each with the word's digit, are the digits of the word.
use Rattle.std.proofs.Common.{ℕ, ◌/◌, ◌%◌, ◌-◌, ◌^◌, ◌<◌, arith, sym, ◌∙◌}
use Rattle.std.proofs.Math.Seq.{ext_get_or}
use Rattle.lists.proofs.Lists.{length-tabulate, get_or-tabulate}
use Rattle.patterns.specs.Hex.{glyph_of, hex_of}
use Rattle.patterns.proofs.hex.Goals as goal

pub returns : goal.returns
unfolding hex_of
returns c =
    let f = λ (k : ℕ). glyph_of (c.args.word / 16 ^ (7 - k) % 16) in
    ext_get_or 0 _ _ (omega (arith, length-tabulate 8 f)) (λ i h. let below : i < 8 = omega arith in
    c.loop-place.invariant i (omega arith) ∙ sym (get_or-tabulate 8 f i 0 below))
