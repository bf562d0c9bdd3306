-- A word of 32 bits as eight upper-case hex digits, in ASCII. Definitions only.
use Rattle.std.specs.Prelude.{ℕ, ◌+◌, ◌-◌, ◌/◌, ◌%◌, ◌^◌, cond, List, ltb}
use Rattle.lists.specs.Lists.{tabulate}

-- a digit below 16: 0 to 9, then A to F
abbrev pub glyph_of : ℕ → ℕ
glyph_of d = cond (ltb d 10) (48 + d) (55 + d)

-- the most significant digit first
unfoldable pub hex_of : ℕ → List ℕ
hex_of word = tabulate 8 (λ k. glyph_of (word / 16 ^ (7 - k) % 16))
