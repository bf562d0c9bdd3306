-- From what the cell rule says of each input to the number: 16 where it says NaN of one, 0 where each has its cell. Assumes nothing.
use Prim.Native.Nat.{ℕ, ◌+◌, ◌<◌}
use native.Mathlib.Omega.{arith}
use mathlib.Core.Path.{◌≡◌, sym, ap, subst, ◌∙◌}
use Rattle.std.specs.Prelude.{Option, None, Some}
use mathlib.Core.Bool.{Bool, false, cond}
use mathlib.Core.List.{List}
use native.Mathlib.Decide.{dec_lt}
use lib.Ieee.{Float, nan, is_nan}
use lib.ListN.{length, get_or}
use Rattle.lists.proofs.Lists.{some_at, some-none}
use Rattle.cell.specs.declared.Cell.{Cell}
use Rattle.cell.specs.Rule.{found_of}
use Rattle.cell.proofs.Said.{said_some, said_none}
use Rattle.lookup.specs.Table.{nan_refusal}
use Rattle.lookup.specs.Places.{placed_ink, NoNans}

module _ (xs : List Float) where
  pub all-numbers : NoNans xs (length xs) → 0 ≡ nan_refusal xs
  all-numbers each = sym (ap (λ (b : Bool). cond b 16 0) (some-none is_nan nan xs each))

  -- one more number
  numbers-next : (n : ℕ) → NoNans xs n → is_nan (get_or xs n nan) ≡ false → NoNans xs (n + 1)
  numbers-next n each one i h = elim (dec_lt i n) [
    | yes less ↦ each i less
    | no last ↦ let is : n ≡ i = omega arith in subst (λ (j : ℕ). is_nan (get_or xs j nan) ≡ false) is one
  ]

-- what is said of ink i, counted from 0
module _ (filling sizes : List ℕ) (xs : List Float) (i : ℕ) (r : Option Cell)
    (said : r ≡ found_of (get_or xs i nan) (placed_ink filling sizes xs i)) where
  pub refused-at : i < length xs → r ≡ None → 16 ≡ nan_refusal xs
  refused-at h e =
      let nan-here = said_none (is_nan (get_or xs i nan)) (placed_ink filling sizes xs i) (sym e ∙ said) in
      sym (ap (λ (b : Bool). cond b 16 0) (some_at is_nan nan xs i h nan-here))

  module _ (c : Cell) (e : r ≡ Some c) where
    placed : (is_nan (get_or xs i nan) ≡ false) × (c ≡ placed_ink filling sizes xs i)
    placed = said_some (is_nan (get_or xs i nan)) c (placed_ink filling sizes xs i) (sym e ∙ said)

    pub placed_at : c ≡ placed_ink filling sizes xs i
    placed_at = placed.1

    pub numbers-to : NoNans xs i → NoNans xs (i + 1)
    numbers-to each = numbers-next xs i each placed.0
