-- Where a weight is zero the blend is the entry at the node, but for the sign of a zero: for entries that are numbers. Assumes nothing.
use mathlib.Core.Path.{◌≡◌, refl, ap, ap₂, ◌∙◌}
use Prim.Native.Nat.{ℕ, zero, suc, ◌*◌}
use native.Mathlib.Nat.{mul-one}
use mathlib.Core.Bool.{Bool, true, false}
use lib.IntN.{pos}
use lib.Ieee.{Float, nan, inf, fin, binary32, unlike, up, down, neg, round, add, sub, mul}
use Rattle.binary32.specs.Numbers.{plus_zero, one}
use Rattle.binary32.specs.Same.{plain, Same}
use Rattle.binary32.specs.Blend.{mlaf, neg_mlaf, lerp, along}
use Rattle.binary32.proofs.Exact.{round-self}
use Rattle.binary32.proofs.Units.{Number, one_number}
use Rattle.binary32.proofs.Signs.{add-zero, zero-add-zero, zero-mul-fin, fin-mul-zero, add_same, mul-same, neg_same}

-- ---- a zero added, taken away and multiplied with, and a one multiplied with
add-plain-zero : (x : Float) → Number x → Same (add binary32 x plus_zero) x
add-plain-zero nan X = absurd X.is_finite
add-plain-zero (inf s) X = absurd X.is_finite
add-plain-zero (fin s zero e) X = zero-add-zero s e false (pos 0)
add-plain-zero (fin s (suc m) e) X = ap plain (add-zero s m e false (pos 0) ∙ round-self binary32 s (suc m) e X.is-fit)

pub add_nothing : (x z : Float) → Number x → Same z plus_zero → Same (add binary32 x z) x
add_nothing x z X Z = add_same x x z plus_zero refl Z ∙ add-plain-zero x X

pub sub-nothing : (x z : Float) → Number x → Same z plus_zero → Same (sub binary32 x z) x
unfolding sub neg
sub-nothing x z X Z = add_nothing x (neg z) X (neg_same z plus_zero Z)

mul-plain-zero : (x : Float) → Number x → Same (mul binary32 x plus_zero) plus_zero
mul-plain-zero nan X = absurd X.is_finite
mul-plain-zero (inf s) X = absurd X.is_finite
mul-plain-zero (fin s m e) X = fin-mul-zero s m e false (pos 0)

pub mul-nothing : (x z : Float) → Number x → Same z plus_zero → Same (mul binary32 x z) plus_zero
mul-nothing x z X Z = mul-same x x z plus_zero refl Z ∙ mul-plain-zero x X

positive-sign : (s : Bool) → unlike s false ≡ s
positive-sign true = refl
positive-sign false = refl

pub mul-one-same : (x : Float) → Number x → Same (mul binary32 x one) x
unfolding mul
mul-one-same nan X = absurd X.is_finite
mul-one-same (inf s) X = absurd X.is_finite
mul-one-same (fin s zero e) X = zero-mul-fin s e false 1 (pos 0)
mul-one-same (fin s (suc m) e) X =
    ap plain
    (ap (λ (b : Bool). round binary32 b (suc m * up e * 1) (down e * 1)) (positive-sign s)
    ∙ ap₂ (λ (a c : ℕ). round binary32 s a c) (mul-one (suc m * up e)) (mul-one (down e))
    ∙ round-self binary32 s (suc m) e X.is-fit)

-- ---- the blends at a weight of zero
pub mlaf-zero : (s a t : Float) → Number s → Number a → Same t plus_zero → Same (mlaf s a t) s
mlaf-zero s a t S A Z = add_nothing s (mul binary32 a t) S (mul-nothing a t A Z)

pub lerp-zero : (a b t : Float) → Number a → Number b → Same t plus_zero → Same (lerp a b t) a
lerp-zero a b t A B Z =
    add_same (neg_mlaf a a t) a (mul binary32 b t) plus_zero (sub-nothing a (mul binary32 a t) A (mul-nothing a t A Z)) (mul-nothing b t B Z)
    ∙ add-plain-zero a A

pub along-zero : (a b w : Float) → Number a → Number b → Same w plus_zero → Same (along a b w) a
along-zero a b w A B Z =
    add_same (mul binary32 a (sub binary32 one w)) a (mul binary32 b w) plus_zero
    (mul-same a a (sub binary32 one w) one refl (sub-nothing one w one_number Z) ∙ mul-one-same a A)
    (mul-nothing b w B Z)
    ∙ add-plain-zero a A
