-- `patterns::hex`: the digits written so far are those of the word.
use Rattle.std.proofs.Common.{◌≡◌, ℕ, ◌-◌, ◌/◌, ◌%◌, ◌^◌, ◌<◌, get_or}
use Rattle.patterns.specs.Hex.{glyph_of}
use Rattle.patterns.proofs.hex.Given as goal

abbrev pub invariant-loop-place : goal.invariant-loop-place
invariant-loop-place l = (k : ℕ) → k < l.place → get_or l.one-items k 0 ≡ glyph_of (l.word / 16 ^ (7 - k) % 16)
