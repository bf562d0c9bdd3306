-- A pattern of bits is that of one float.
use Rattle.std.proofs.Common.{◌≡◌, true, refl, sym, ap, ◌∙◌, subst, T, eq-eqb}
use lib.Ieee.{Float, nan, inf, fin, binary32, is_nan, of_bits, to_bits, fits}
use lib.Ieee.Bits.{of_bits-to_bits}
use borrow.Author.Tests.{eqb-true}
use Rattle.layout.proofs.places.same_bits.Goals as goal
use Rattle.layout.proofs.places.same_bits.Goals.{then-is_nan-via-then-is_nan, then-is_nan-via-else-is_nan+then-is_nan-2}

bits-tell : (a b : Float) → fits binary32 a ≡ true → fits binary32 b ≡ true → to_bits binary32 a ≡ to_bits binary32 b → a ≡ b
bits-tell a b fa fb e =
    sym (of_bits-to_bits binary32 a (subst T (sym fa) tt)) ∙ ap (of_bits binary32) e ∙ of_bits-to_bits binary32 b (subst T (sym fb) tt)

-- only NaN is one
is-nan : (x : Float) → true ≡ is_nan x → x ≡ nan
unfolding is_nan
is-nan nan h = refl
is-nan (inf s) h = cc
is-nan (fin s m e) h = cc

pub returns-then-is_nan : goal.returns-then-is_nan
returns-then-is_nan c =
    elim c.then-is_nan.branch [
      | then-is_nan-via-then-is_nan w ↦ ((λ e. cc), (λ e number. absurd (number (sym e ∙ is-nan c.args.a w.if-is_nan.ensures.value))))
      | then-is_nan-via-else-is_nan+then-is_nan-2 w ↦ ((λ e. cc), (λ e number. absurd (number (is-nan c.args.b w.if-is_nan-2.ensures.value))))
    ]

pub returns : goal.returns
returns c =
    ((λ e. bits-tell c.args.a c.args.b c.well_formed.0.1 c.well_formed.1.0.1 (eqb-true _ _ e)), (λ e number. eq-eqb _ _ (ap (to_bits binary32) e)))
