-- Document 02, E6, by what the calls leave, by a record and by sizes, as C asks it. `same_numbers`: the refusals of the lookup.
-- `calls_same`: in a table with entries from 0 to 1, its answers. `call-reads`, `call-most`: the count of reads; `refused-reads`: of a
-- refused call it is 0, and the buffer stays as it was. Each by sizes: `..-by-sizes`. Assumes nothing.
use Prim.Native.Nat.{ℕ, zero, suc, ◌≤◌, ◌<◌}
use mathlib.Core.Path.{◌≡◌, refl, sym, ap, subst, ◌∙◌}
use mathlib.Core.Bool.{Bool, true}
use mathlib.Core.List.{List}
use native.Mathlib.Omega.{arith}
use lib.Dec.{T}
use lib.Pow.{are_bytes}
use lib.Ieee.{Float, nan}
use lib.ListN.{length, get_or}
use Rattle.outcome.specs.Outcome.{on_done}
use Rattle.outcome.proofs.Decided.{accepts}
use Rattle.outcome.proofs.Refused.{kept, neither}
use Rattle.lists.specs.Lists.{last_first}
use Rattle.lists.specs.Buffer.{left}
use Rattle.binary32.specs.Same.{plain, Same}
use Rattle.layout.specs.declared.MultidimensionalLut.{MultidimensionalLut}
use Rattle.layout.specs.Layout.{laid_of, ink_sizes, entries}
use Rattle.layout.proofs.BySizes.{laid-is-layout, laid-inks, laid-outputs, laid-sizes}
use Rattle.lookup.specs.Lookup.{never, idle}
use Rattle.lookup.specs.Table.{cells, answer_with, refusal, refusal_by_sizes, Looked, LookedWith, LookedBySizes, LookedBySizesWith}
use Rattle.lookup.specs.Idle.{weights_of, LookedSkipping, LookedSkippingBySizes}
use Rattle.lookup.proofs.Unique.{one_number}
use Rattle.demands.specs.Demand.{Shares}
use Rattle.demands.specs.Idle.{ReadsOf, most_reads}
use Rattle.demands.proofs.Inputs.{untouched, looked-layout, looked-at}
use Rattle.demands.proofs.Idle.{skipping-same, reads_of, reads-most}

-- a refused call: no read is counted, and nothing is written
refused-both : (r reads count : ℕ) (f : ℕ → Float) (m : ℕ) (old now : List Float) → (r ≡ 0 → ⊥)
    → count ≡ on_done r reads 0 → now ≡ left r f m old → (count ≡ 0) × (now ≡ old)
refused-both r reads count f m old now refused counted written =
    (counted ∙ sym (kept r reads 0 refused refl), untouched r f m old now refused written)

-- ---- by a record

module _ (lut : MultidimensionalLut) (table xs : List Float) where
  -- with buffers of the same length both calls give the same number
  pub same_numbers : (old old' : List Float) → length old ≡ length old'
      → (r : ℕ) (whole : List Float) → Looked lut table xs old r whole
      → (r' count : ℕ) (short : List Float) → LookedSkipping lut table xs old' r' count short → r ≡ r'
  same_numbers old old' room r whole first r' count short second =
      let p = second.looked in
      let number : r' ≡ refusal p.laid lut (length table) xs (length old) =
      p.number ∙ ap (refusal p.laid lut (length table) xs) (sym room) in
      one_number lut table xs old never idle r r' whole (left r' (answer_with idle lut table xs) lut.output_inks old) first
      (record { laid = p.laid; decides = p.decides; number = number; entries = refl })

  -- both calls leave the same answers, with zeros of both signs counting as equal
  pub calls_same : Shares table (entries lut) → (old whole : List Float) → Looked lut table xs old 0 whole
      → (old' : List Float) (count : ℕ) (short : List Float) → LookedSkipping lut table xs old' 0 count short
      → (o : ℕ) → o < lut.output_inks → Same (get_or whole o nan) (get_or short o nan)
  calls_same shares old whole first old' count short second o h =
      ap plain (looked-at never lut table xs old whole first o h)
      ∙ skipping-same lut (looked-layout never lut table xs old whole first) table shares xs o h
      ∙ ap plain (sym (looked-at idle lut table xs old' short second.looked o h))

  -- the count of a call that is done
  pub call-reads : (old : List Float) (count : ℕ) (now : List Float) → LookedSkipping lut table xs old 0 count now
      → ReadsOf idle lut.input_inks (weights_of (cells (ink_sizes lut) xs)) count
  call-reads old count now looked =
      subst (ReadsOf idle lut.input_inks (weights_of (cells (ink_sizes lut) xs))) (sym looked.counted)
      (reads_of idle lut (looked-layout idle lut table xs old now looked.looked) xs)

  -- and of any call
  pub call-most : (old : List Float) (r count : ℕ) (now : List Float) → LookedSkipping lut table xs old r count now → count ≤ most_reads
  call-most old zero count now looked =
      omega (arith, looked.counted, reads-most idle lut (looked-layout idle lut table xs old now looked.looked) xs)
  call-most old (suc r) count now looked = omega (arith, looked.counted)

  -- a refused call
  pub refused-reads : (old : List Float) (r count : ℕ) (now : List Float) → LookedSkipping lut table xs old r count now
      → (r ≡ 0 → ⊥) → (count ≡ 0) × (now ≡ old)
  refused-reads old r count now looked refused = refused-both r _ count _ _ old now refused looked.counted looked.looked.entries

-- ---- by sizes and counts

module _ (sizes : List ℕ) (n m : ℕ) (table xs : List Float) where
  abbrev lut : MultidimensionalLut
  lut = (laid_of sizes n m).lut

  -- with buffers of the same length both calls give the same number
  pub same-numbers-by-sizes : (old old' : List Float) → length old ≡ length old'
      → (r : ℕ) (whole : List Float) → LookedBySizes sizes n m table xs old r whole
      → (r' count : ℕ) (short : List Float) → LookedSkippingBySizes sizes n m table xs old' r' count short → r ≡ r'
  same-numbers-by-sizes old old' room r whole first r' count short second =
      first.number ∙ ap (refusal_by_sizes sizes n m (length table) xs) room ∙ sym second.looked.number

  -- what is left, by the call's own number
  left_by : (skip : Float → Bool) (old : List Float) (r : ℕ) (now : List Float) → LookedBySizesWith skip sizes n m table xs old r now
      → now ≡ left r (answer_with skip lut table xs) m old
  left_by skip old r now looked = looked.entries ∙ ap (λ (k : ℕ). left k (answer_with skip lut table xs) m old) (sym looked.number)

  -- a refused call
  pub refused-reads-by-sizes : (old : List Float) (r count : ℕ) (now : List Float)
      → LookedSkippingBySizes sizes n m table xs old r count now
      → (r ≡ 0 → ⊥) → (count ≡ 0) × (now ≡ old)
  refused-reads-by-sizes old r count now looked refused =
      refused-both r _ count _ m old now refused looked.counted (left_by idle old r now looked.looked)

  module _ (sixteen : length sizes ≡ 16) (bytes : T (are_bytes sizes)) where
    -- a call that is done is one by the record
    module _ (skip : Float → Bool) (old now : List Float) (looked : LookedBySizesWith skip sizes n m table xs old 0 now) where
      passed : ((laid_of sizes n m).refusal ≡ 0) × (refusal true lut (length table) xs (length old) ≡ 0)
      passed = neither (laid_of sizes n m).refusal _ (sym looked.number)

      outputs : lut.output_inks ≡ m
      outputs = laid-outputs sizes n m passed.0

      by-record : LookedWith skip lut table xs old 0 now
      by-record =
          record {
            laid = true;
            decides = accepts (laid-is-layout sizes n m passed.0 sixteen bytes);
            number = sym passed.1;
            entries = left_by skip old 0 now looked ∙ ap (λ (k : ℕ). left 0 (answer_with skip lut table xs) k old) (sym outputs);
          }

    skipping-by-record : (old : List Float) (count : ℕ) (now : List Float) → LookedSkippingBySizes sizes n m table xs old 0 count now
        → LookedSkipping lut table xs old 0 count now
    skipping-by-record old count now looked = record { looked = by-record idle old now looked.looked; counted = looked.counted }

    -- both calls leave the same answers, with zeros of both signs counting as equal
    pub calls-same-by-sizes : Shares table (entries lut) → (old whole : List Float) → LookedBySizes sizes n m table xs old 0 whole
        → (old' : List Float) (count : ℕ) (short : List Float) → LookedSkippingBySizes sizes n m table xs old' 0 count short
        → (o : ℕ) → o < m → Same (get_or whole o nan) (get_or short o nan)
    calls-same-by-sizes shares old whole first old' count short second o h =
        calls_same lut table xs shares old whole (by-record never old whole first) old' count short
        (skipping-by-record old' count short second) o
        (omega (arith, outputs never old whole first))

    -- the count of a call that is done
    pub call-reads-by-sizes : (old : List Float) (count : ℕ) (now : List Float) → LookedSkippingBySizes sizes n m table xs old 0 count now
        → ReadsOf idle n (weights_of (cells (last_first n sizes) xs)) count
    call-reads-by-sizes old count now looked =
        let none = (passed idle old now looked.looked).0 in
        subst (λ (gs : List ℕ). ReadsOf idle n (weights_of (cells gs xs)) count) (laid-sizes sizes n m none)
        (subst (λ (k : ℕ). ReadsOf idle k (weights_of (cells (ink_sizes lut) xs)) count) (laid-inks sizes n m none)
        (call-reads lut table xs old count now (skipping-by-record old count now looked)))

    -- and of any call
    pub call-most-by-sizes : (old : List Float) (r count : ℕ) (now : List Float) → LookedSkippingBySizes sizes n m table xs old r count now
        → count ≤ most_reads
    call-most-by-sizes old zero count now looked = call-most lut table xs old 0 count now (skipping-by-record old count now looked)
    call-most-by-sizes old (suc r) count now looked = omega (arith, looked.counted)
