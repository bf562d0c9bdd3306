-- Document 02, E8, by what the calls leave, by a record and by sizes, as C asks it, whatever is skipped. `looked-layout`, `looked-accepted`
-- and `looked-at`: a lookup that is done had a layout's record and accepted inputs, and left each answer in the buffer. `looked-nan`,
-- `looked-nan-by-sizes`: with a NaN among the inputs none is done, and the buffer stays as it was. `sixteen`, `sixteen-by-sizes`: the
-- number 16 is given of a NaN among the inputs alone. Assumes nothing.
use Prim.Native.Nat.{ℕ, zero, suc, ◌≤◌, ◌<◌}
use mathlib.Core.Path.{◌≡◌, refl, sym, ap, ◌∙◌}
use mathlib.Core.Bool.{Bool, true, false, not, cond, true≢false}
use mathlib.Core.List.{List}
use native.Mathlib.Omega.{arith}
use lib.Dec.{ltb, eqb}
use lib.Ieee.{Float, nan, is_nan}
use lib.ListN.{length, get_or, take}
use borrow.Author.Tests.{not-false, ltb-false, eqb-true}
use Rattle.outcome.specs.Outcome.{or_else}
use Rattle.outcome.proofs.Refused.{passed, passed_to, neither}
use Rattle.lists.specs.Lists.{every, some}
use Rattle.lists.specs.Buffer.{left}
use Rattle.lists.proofs.Buffer.{written_at, unwritten}
use Rattle.layout.specs.declared.MultidimensionalLut.{MultidimensionalLut}
use Rattle.layout.specs.Layout.{is_count, limit, total, record_of, refused_by, laid_using, laid_of, IsLayout, entries}
use Rattle.lookup.specs.Table.{answer_with, nan_refusal, refusal, LookedWith, LookedBySizesWith}
use Rattle.demands.specs.Demand.{AcceptedInputs}

-- what a lookup whose number is not 9, 6, 7 or 8 has passed
record Passed (laid : Bool) (lut : MultidimensionalLut) (xs : List Float) (room j : ℕ) : Type 0 where
  laid_out : laid ≡ true
  as_many : length xs ≡ lut.input_inks
  wide : lut.output_inks ≤ room
  last : nan_refusal xs ≡ j

module _ (laid : Bool) (lut : MultidimensionalLut) (table : ℕ) (xs : List Float) (room j : ℕ) (number : refusal laid lut table xs room ≡ j) where
  lengths-passed : (9 ≡ j → ⊥) → (6 ≡ j → ⊥) → (7 ≡ j → ⊥) → (8 ≡ j → ⊥) → Passed laid lut xs room j
  unfolding refusal
  lengths-passed nine six seven eight =
      let is = passed_to j (not laid) 9 _ nine number in
      let long = passed_to j (ltb table (entries lut)) 6 _ six is.1 in
      let as_many = passed_to j (not (eqb (length xs) lut.input_inks)) 7 _ seven long.1 in
      let wide = passed_to j (ltb room lut.output_inks) 8 _ eight as_many.1 in
      record {
        laid_out = not-false _ is.0;
        as_many = eqb-true _ _ (not-false _ as_many.0);
        wide = ltb-false _ _ wide.0;
        last = wide.1;
      }

done-passed : (laid : Bool) (lut : MultidimensionalLut) (table : ℕ) (xs : List Float) (room : ℕ) → refusal laid lut table xs room ≡ 0
    → Passed laid lut xs room 0
done-passed laid lut table xs room number = lengths-passed laid lut table xs room 0 number (λ z. omega arith) (λ z. omega arith) (λ z. omega arith) (λ z. omega arith)

no-nans : (xs : List Float) → nan_refusal xs ≡ 0 → some is_nan xs ≡ false
no-nans xs h = (passed (some is_nan xs) 16 0 (λ z. omega arith) h).0

-- 16 in the end is the last test's
a-nan : (laid : Bool) (lut : MultidimensionalLut) (table : ℕ) (xs : List Float) (room : ℕ) → refusal laid lut table xs room ≡ 16 → some is_nan xs ≡ true
a-nan laid lut table xs room number = go (some is_nan xs) (lengths-passed laid lut table xs room 16 number (λ z. omega arith) (λ z. omega arith) (λ z. omega arith) (λ z. omega arith)).last
  where
    go : (b : Bool) → cond {A = ℕ} b 16 0 ≡ 16 → b ≡ true
    go true h = refl
    go false h = absurd (omega arith)

-- a number that is not 0 leaves the buffer
pub untouched : (r : ℕ) (f : ℕ → Float) (m : ℕ) (old now : List Float) → (r ≡ 0 → ⊥) → now ≡ left r f m old → now ≡ old
untouched r f m old now refused e = e ∙ sym (unwritten r f m old refused refl)

-- ---- by a record

module _ (skip : Float → Bool) (lut : MultidimensionalLut) (table xs old : List Float) where
  module _ (now : List Float) (looked : LookedWith skip lut table xs old 0 now) where
    shown : Passed looked.laid lut xs (length old) 0
    shown = done-passed looked.laid lut (length table) xs (length old) (sym looked.number)

    pub looked-layout : IsLayout lut
    looked-layout = looked.decides.holds shown.laid_out

    pub looked-accepted : AcceptedInputs lut xs
    looked-accepted = (shown.as_many, no-nans xs shown.last)

    pub looked-at : (o : ℕ) → o < lut.output_inks → get_or now o nan ≡ answer_with skip lut table xs o
    looked-at o h =
        ap (λ (l : List Float). get_or l o nan) looked.entries
        ∙ written_at (answer_with skip lut table xs) lut.output_inks old o nan h shown.wide

  pub looked-nan : (r : ℕ) (now : List Float) → LookedWith skip lut table xs old r now → some is_nan xs ≡ true → (r ≡ 0 → ⊥) × (now ≡ old)
  looked-nan r now looked broken =
      let refused : r ≡ 0 → ⊥ = λ z. true≢false (sym broken ∙ no-nans xs (done-passed looked.laid lut (length table) xs (length old) (sym looked.number ∙ z)).last) in
      (refused, untouched r _ _ old now refused looked.entries)

  pub sixteen : (now : List Float) → LookedWith skip lut table xs old 16 now → some is_nan xs ≡ true
  sixteen now looked = a-nan looked.laid lut (length table) xs (length old) (sym looked.number)

-- ---- by sizes and counts

module _ (skip : Float → Bool) (sizes : List ℕ) (n m : ℕ) (table xs old : List Float) where
  pub looked-nan-by-sizes : (r : ℕ) (now : List Float) → LookedBySizesWith skip sizes n m table xs old r now → some is_nan xs ≡ true
      → (r ≡ 0 → ⊥) × (now ≡ old)
  looked-nan-by-sizes r now looked broken =
      let lut = (laid_of sizes n m).lut in
      let refused : r ≡ 0 → ⊥ = λ z. true≢false (sym broken ∙ no-nans xs (done-passed true lut (length table) xs (length old) (neither (laid_of sizes n m).refusal _ (sym looked.number ∙ z)).1).last) in
      (refused, untouched _ _ m old now (λ z. refused (looked.number ∙ z)) looked.entries)

  -- a layout's own numbers go to 5
  laid-to-5 : (laid_of sizes n m).refusal ≤ 5
  unfolding laid_of laid_using refused_by
  laid-to-5 = go (not (is_count n)) (not (is_count m)) (not (every (ltb 0) (take n sizes))) (ltb limit (total (take n sizes) m))
    where
      go : (a b c d : Bool) → (cond a (refused_by 1) (cond b (refused_by 2) (cond c (refused_by 3) (cond d (refused_by 5) (record { refusal = 0; lut = record_of (take n sizes) n m }))))).refusal ≤ 5
      go true b c d = omega arith
      go false true c d = omega arith
      go false false true d = omega arith
      go false false false true = omega arith
      go false false false false = omega arith

  pub sixteen-by-sizes : (now : List Float) → LookedBySizesWith skip sizes n m table xs old 16 now → some is_nan xs ≡ true
  sixteen-by-sizes now looked = a-nan true (laid_of sizes n m).lut (length table) xs (length old) (go (laid_of sizes n m).refusal _ laid-to-5 (sym looked.number))
    where
      go : (k next : ℕ) → k ≤ 5 → or_else k next ≡ 16 → next ≡ 16
      go zero next to h = h
      go (suc k) next to h = absurd (omega arith)
