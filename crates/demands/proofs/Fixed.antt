-- No fixed colour meets demand 3: at a node that holds another entry it is not the answer.
-- Assumes nothing.
use Prim.Native.Nat.{ℕ, zero, suc, ◌<◌}
use mathlib.Core.Path.{◌≡◌, refl, sym, ◌∙◌}
use mathlib.Core.List.{List, [], ◌∷◌}
use native.Mathlib.Omega.{arith}
use lib.Ieee.{Float, fits, of_int, mul, lt, is_nan}
use lib.ListN.{get_or, replicate}
use Rattle.lists.specs.Lists.{tabulate, every, some, last_first, product}
use Rattle.binary32.specs.Numbers.{plus_zero, one}
use Rattle.binary32.specs.Same.{plain}
use Rattle.cell.specs.Rule.{ink_of, product_of}
use Rattle.layout.specs.declared.MultidimensionalLut.{MultidimensionalLut}
use Rattle.layout.specs.Order.{index}
use Rattle.layout.specs.Layout.{is_count, record_of, laid_using, laid_of, IsLayout, entries}
use Rattle.demands.specs.Demand.{Shares, OnLine, AtANode}

-- one ink on two lines and one output, with the entries 0 and 1
abbrev lut : MultidimensionalLut
lut = record_of (2 ∷ []) 1 1

abbrev table : List Float
table = plus_zero ∷ one ∷ []

is : IsLayout lut
unfolding is_count every product laid_using laid_of
is = record { sizes = replicate 16 2; n = 1; m = 1; sixteen = refl; bytes = tt; accepted = refl }

shares : Shares table (entries lut)
unfolding product last_first tabulate record_of fits
shares zero h = record { is-fit = tt; within = omega arith }
shares (suc zero) h = record { is-fit = tt; within = omega arith }
shares (suc (suc e)) h = absurd (omega arith)

-- its two nodes
at_zero : (i : ℕ) → i < lut.input_inks → OnLine lut (plus_zero ∷ []) i (get_or (0 ∷ []) i 0)
unfolding of_int mul lt ink_of product_of record_of tabulate
at_zero zero h = refl
at_zero (suc i) h = absurd (omega arith)

at_one : (i : ℕ) → i < lut.input_inks → OnLine lut (one ∷ []) i (get_or (1 ∷ []) i 0)
unfolding of_int mul lt ink_of product_of record_of tabulate
at_one zero h = refl
at_one (suc i) h = absurd (omega arith)

apart : plain plus_zero ≡ plain one → ⊥
apart e = let z : ◌≡◌ {A = ℕ} 0 1 = cc in omega arith

pub no-fixed-colour : (colour : Float) → AtANode (λ lut table xs o. colour) → ⊥
unfolding index record_of last_first tabulate some is_nan
no-fixed-colour colour met =
    apart (sym (met lut is table shares (plus_zero ∷ []) (refl, refl) (0 ∷ []) refl at_zero 0 (omega arith)) ∙ met lut is table shares (one ∷ []) (refl, refl) (1 ∷ []) refl at_one 0 (omega arith))
