-- A refusal has a number of its own, and it is not 0: an answer and its number say the same. Assumes nothing.
use Prim.Native.Nat.{ℕ}
use native.Mathlib.Omega.{arith}
use Rattle.std.specs.Prelude.{Result, Ok, Err, ◌≡◌, cond, eqb}
use Rattle.std.proofs.Common.{ap, refl, sym, ◌∙◌}
use Rattle.outcome.specs.declared.Refusal.{Refusal}
use Rattle.outcome.specs.declared.Refusal.TheVariants.{InputInks, OutputInks, ZeroSize, LargeTotal, ShortTable, InputCount, ShortAnswer, ForeignRecord, OutsideGrid, NoSuchInk, NoSuchLine, ShortElement, Precision, ShortData, NanInput, FileLength, BlockCheck, BlockNumber, BlockFilling}
use Rattle.outcome.specs.Refused.{number_of, number_in}

pub not_done : (e : Refusal) → number_of e ≡ 0 → ⊥
not_done InputInks h = absurd (omega arith)
not_done OutputInks h = absurd (omega arith)
not_done ZeroSize h = absurd (omega arith)
not_done LargeTotal h = absurd (omega arith)
not_done ShortTable h = absurd (omega arith)
not_done InputCount h = absurd (omega arith)
not_done ShortAnswer h = absurd (omega arith)
not_done ForeignRecord h = absurd (omega arith)
not_done OutsideGrid h = absurd (omega arith)
not_done NoSuchInk h = absurd (omega arith)
not_done NoSuchLine h = absurd (omega arith)
not_done ShortElement h = absurd (omega arith)
not_done Precision h = absurd (omega arith)
not_done ShortData h = absurd (omega arith)
not_done NanInput h = absurd (omega arith)
not_done FileLength h = absurd (omega arith)
not_done BlockCheck h = absurd (omega arith)
not_done BlockNumber h = absurd (omega arith)
not_done BlockFilling h = absurd (omega arith)

-- the refusal of a number
refusal_of : ℕ → Refusal
refusal_of n =
    cond (eqb n 1) InputInks (
    cond (eqb n 2) OutputInks (
    cond (eqb n 3) ZeroSize (
    cond (eqb n 5) LargeTotal (
    cond (eqb n 6) ShortTable (
    cond (eqb n 7) InputCount (
    cond (eqb n 8) ShortAnswer (
    cond (eqb n 9) ForeignRecord (
    cond (eqb n 10) OutsideGrid (
    cond (eqb n 11) NoSuchInk (
    cond (eqb n 12) NoSuchLine (
    cond (eqb n 13) ShortElement (
    cond (eqb n 14) Precision (
    cond (eqb n 15) ShortData (
    cond (eqb n 16) NanInput (
    cond (eqb n 17) FileLength (
    cond (eqb n 18) BlockCheck (
    cond (eqb n 19) BlockNumber (
    BlockFilling))))))))))))))))))

known : (e : Refusal) → refusal_of (number_of e) ≡ e
unfolding refusal_of
known InputInks = refl
known OutputInks = refl
known ZeroSize = refl
known LargeTotal = refl
known ShortTable = refl
known InputCount = refl
known ShortAnswer = refl
known ForeignRecord = refl
known OutsideGrid = refl
known NoSuchInk = refl
known NoSuchLine = refl
known ShortElement = refl
known Precision = refl
known ShortData = refl
known NanInput = refl
known FileLength = refl
known BlockCheck = refl
known BlockNumber = refl
known BlockFilling = refl

pub same_refusal : (e f : Refusal) → number_of e ≡ number_of f → e ≡ f
same_refusal e f h = sym (known e) ∙ (ap refusal_of h ∙ known f)

module _ {A : Type 0} where
  -- two answers of one number that agree where they are done
  pub same_answer : (x y : Result A Refusal) → number_in x ≡ number_in y → ((a b : A) → x ≡ Ok a → y ≡ Ok b → a ≡ b) → x ≡ y
  same_answer (Ok a) (Ok b) h agree = ap Ok (agree a b refl refl)
  same_answer (Ok a) (Err f) h agree = absurd (not_done f (sym h))
  same_answer (Err e) (Ok b) h agree = absurd (not_done e h)
  same_answer (Err e) (Err f) h agree = ap Err (same_refusal e f h)

-- two answers without a value
pub same_done : (x y : Result Unit Refusal) → number_in x ≡ number_in y → x ≡ y
same_done x y h = same_answer x y h (λ a b p q. refl)
