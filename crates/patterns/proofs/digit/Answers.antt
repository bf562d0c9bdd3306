-- `patterns::digit`: the table holds the glyphs, and four bits to each place are a power of 16.
use Rattle.std.proofs.Common.{◌≡◌, ℕ, zero, suc, ◌+◌, ◌*◌, ◌-◌, ◌/◌, ◌%◌, ◌^◌, ◌∙◌, ap, arith, refl}
use Rattle.std.proofs.Math.Nat.{pow-suc}
use Rattle.lists.specs.Lists.{tabulate}
use Rattle.lists.proofs.Lists.{get_or-tabulate}
use lib.Pow.{pow-add}
use Rattle.patterns.specs.Hex.{glyph_of}
use Rattle.patterns.proofs.digit.Goals as goal

four-bits : (n : ℕ) → 2 ^ (4 * n) ≡ 16 ^ n
four-bits zero = refl
four-bits (suc n) =
    let more : 4 * suc n ≡ 4 * n + 4 = omega arith in
    rw pow-suc (ap (λ (k : ℕ). 2 ^ k) more ∙ pow-add 2 (4 * n) 4 ∙ ap (λ (p : ℕ). p * 16) (four-bits n))

pub returns : goal.returns
unfolding tabulate
returns c =
    let shift : 28 - 4 * c.args.place ≡ 4 * (7 - c.args.place) = omega arith in
    get_or-tabulate 16 glyph_of (c.args.word / 2 ^ (28 - 4 * c.args.place) % 16) 0 (omega arith)
    ∙ ap (λ (p : ℕ). glyph_of (c.args.word / p % 16)) (ap (λ (k : ℕ). 2 ^ k) shift ∙ four-bits (7 - c.args.place))
