-- What lookups and the node reader refuse first, 9, 6 and 7: the number from the tests that lead to it, and what a number of 0 says. Assumes nothing.
use Prim.Native.Nat.{ℕ, ◌≤◌}
use mathlib.Core.Path.{◌≡◌, refl, sym, ◌∙◌}
use mathlib.Core.Bool.{Bool, true, false, cond, not}
use native.Mathlib.Omega.{arith}
use lib.Dec.{ltb, eqb}
use borrow.Author.Tests.{not-false, ltb-false, eqb-true}
use Rattle.layout.specs.Lengths.{length_refusal}

-- 9, 6 and 7, before others
abbrev pub shared : Bool → ℕ → ℕ → ℕ → ℕ → ℕ → ℕ
shared laid total n table given others = cond (not laid) 9 (length_refusal total n table given others)

first_of : (a b c : Bool) (r others : ℕ) → r ≡ cond a 9 (cond b 6 (cond c 7 0)) → (r ≡ 0 → ⊥) → r ≡ cond a 9 (cond b 6 (cond c 7 others))
first_of true b c r others e some = e
first_of false true c r others e some = e
first_of false false true r others e some = e
first_of false false false r others e some = absurd (some e)

-- none of them applies where the number is 0
none_of : (a b c : Bool) (r others : ℕ) → r ≡ cond a 9 (cond b 6 (cond c 7 others)) → r ≡ 0 → (a ≡ false) × (b ≡ false) × (c ≡ false) × (others ≡ 0)
none_of true b c r others e z = absurd (omega arith)
none_of false true c r others e z = absurd (omega arith)
none_of false false true r others e z = absurd (omega arith)
none_of false false false r others e z = (refl, refl, refl, sym e ∙ z)

-- what they show
pub record Passed (laid : Bool) (total n table given : ℕ) : Type 0 where
  pub is : laid ≡ true
  pub enough : total ≤ table
  pub as_many : given ≡ n
  pub next : (others : ℕ) → others ≡ shared laid total n table given others

module _ (laid : Bool) (total n table given r : ℕ) where
  pub refused-by : r ≡ shared laid total n table given 0 → (r ≡ 0 → ⊥) → (others : ℕ) → r ≡ shared laid total n table given others
  refused-by e some others = first_of (not laid) (ltb table total) (not (eqb given n)) r others e some

  module _ (others : ℕ) (e : r ≡ shared laid total n table given others) (z : r ≡ 0) where
    pub passed : Passed laid total n table given
    passed =
        let a = none_of (not laid) (ltb table total) (not (eqb given n)) r others e z in
        record {
          is = not-false laid a.0;
          enough = ltb-false table total a.1;
          as_many = eqb-true given n (not-false _ a.2);
          next = λ next. sym (simp (a.0, a.1, a.2));
        }

    pub others-none : others ≡ 0
    others-none = (none_of (not laid) (ltb table total) (not (eqb given n)) r others e z).3
