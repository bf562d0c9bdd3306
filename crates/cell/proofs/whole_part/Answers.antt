-- The digits of p without those behind the point are its whole part, and where all stand behind it none is left.
use Rattle.std.proofs.Common.{◌≡◌, ℕ, ◌+◌, ◌-◌, ◌/◌, ◌%◌, ◌^◌, not, T, sym, ap, ◌∙◌, arith}
use lib.Ieee.{Float, nan, inf, fin, binary32, is_nan, to_bits}
use Rattle.binary32.specs.Range.{Below}
use Rattle.cell.specs.Rule.{whole_of}
use Rattle.cell.proofs.Digits.{digits, behind, none_left, exponent-le, whole-digits}
use Rattle.cell.proofs.whole_part.Goals as goal

no_nan : (p : Float) → Below 255 p → T (not (is_nan p))
unfolding is_nan
no_nan nan h = h
no_nan (inf s) h = tt
no_nan (fin s m e) h = tt

pub float_to_bits-b : goal.float_to_bits-b
float_to_bits-b c = no_nan c.args.p c.requires

-- the difference does not wrap
unwrapped : (p : Float) → Below 255 p → (150 + (4_294_967_296 - to_bits binary32 p / 8_388_608)) % 4_294_967_296 ≡ behind (to_bits binary32 p)
unwrapped p below = let le = exponent-le p below in omega arith

-- what is left of the digits
is_whole : (p : Float) (k : ℕ) → Below 255 p → k ≡ behind (to_bits binary32 p) → digits (to_bits binary32 p) / 2 ^ k ≡ whole_of p
is_whole p k below is = ap (λ (j : ℕ). digits (to_bits binary32 p) / 2 ^ j) is ∙ whole-digits p below

pub returns-then-behind-gt23 : goal.returns-then-behind-gt23
returns-then-behind-gt23 c =
    let is = unwrapped c.args.p c.requires in
    sym (none_left (to_bits binary32 c.args.p) _ (omega (arith, c.if-behind-gt23.true))) ∙ is_whole c.args.p _ c.requires is

pub returns : goal.returns
returns c = is_whole c.args.p _ c.requires (unwrapped c.args.p c.requires)
