-- A layout's answer by its sizes and counts: a refusal has a record of zeros; an accepted layout's record is a layout's, and has the sizes and the counts that were asked.
-- Assumes nothing.
use Prim.Native.Nat.{ℕ, ◌<◌}
use mathlib.Core.Path.{◌≡◌, refl, sym, ap, ◌∙◌}
use mathlib.Core.Bool.{Bool, true, false, not, cond}
use mathlib.Core.List.{List}
use native.Mathlib.Omega.{arith}
use lib.Dec.{T, ltb}
use lib.ListN.{length, get_or, take}
use lib.Seq.{get_or-take, length-take-le}
use lib.Pow.{are_bytes}
use Rattle.std.specs.Prelude.{Err}
use Rattle.outcome.specs.declared.Refusal.{Refusal}
use Rattle.outcome.specs.Refused.{number_of}
use Rattle.outcome.proofs.Numbers.{not_done}
use Rattle.lists.specs.Lists.{every, last_first}
use Rattle.lists.proofs.Lists.{last-first-same}
use Rattle.layout.specs.Layout.{limit, total, is_count, laid_using, laid_of, laid_in, record_of, refused_by, IsLayout, LaidBy, ink_sizes}
use Rattle.layout.specs.declared.MultidimensionalLut.{MultidimensionalLut}
use Rattle.layout.specs.Layout.{Laid}
use Rattle.layout.specs.Tested.{Tested}
use Rattle.layout.proofs.Parts.{count-to, places-used, sizes-back}
use Rattle.layout.proofs.Accepted.{Accepted, done, accepted-of}
use Rattle.layout.proofs.Facts.{used_sizes}

-- ---- refused

-- where it refuses, the answer is its number with a record of zeros
abbrev Zeroed : Laid → Type 0
Zeroed laid = (laid.refusal ≡ 0 → ⊥) → laid ≡ refused_by laid.refusal

zeroed-or : (b : Bool) (k : ℕ) (rest : Laid) → Zeroed rest → Zeroed (cond b (refused_by k) rest)
unfolding refused_by
zeroed-or true k rest z some = refl
zeroed-or false k rest z some = z some

pub laid-zeroed : (sizes : List ℕ) (n m : ℕ) → ((laid_of sizes n m).refusal ≡ 0 → ⊥) → laid_of sizes n m ≡ refused_by (laid_of sizes n m).refusal
unfolding laid_of laid_using
laid-zeroed sizes n m =
    let used = take n sizes in
    zeroed-or (not (is_count n)) 1 _
    (zeroed-or (not (is_count m)) 2 _
    (zeroed-or (not (every (ltb 0) used)) 3 _
    (zeroed-or (ltb limit (total used m)) 5 (done (record_of used n m)) (λ some. absurd (some refl)))))

-- a refusal that the tests give is the layout's answer
pub refused_laid : (sizes : List ℕ) (n m : ℕ) (e : Refusal) → Tested sizes n m (number_of e) → LaidBy sizes n m (laid_in (Err e))
unfolding refused_by
refused_laid sizes n m e tested =
    record {
      answer = ap refused_by tested.number ∙ sym (laid-zeroed sizes n m (λ z. not_done e (tested.number ∙ z)));
      accepted = λ none. absurd (not_done e none);
    }

-- ---- accepted

module _ (sizes : List ℕ) (n m : ℕ) (none : (laid_of sizes n m).refusal ≡ 0) where
  accepted : laid_of sizes n m ≡ done (laid_of sizes n m).lut
  accepted = λ i. record { refusal = none i; lut = (laid_of sizes n m).lut }

  -- the sizes in use and the counts passed every test, and the record is that of them
  pub laid-made : Accepted (take n sizes) n m × ((laid_of sizes n m).lut ≡ record_of (take n sizes) n m)
  unfolding laid_of
  laid-made = accepted-of (take n sizes) n m (laid_of sizes n m).lut accepted

  pub laid-is-layout : length sizes ≡ 16 → T (are_bytes sizes) → IsLayout (laid_of sizes n m).lut
  laid-is-layout sixteen bytes = record { sizes = sizes; n = n; m = m; sixteen = sixteen; bytes = bytes; accepted = accepted }

  pub laid-inks : (laid_of sizes n m).lut.input_inks ≡ n
  unfolding record_of
  laid-inks = ap (λ (l : MultidimensionalLut). l.input_inks) laid-made.1

  pub laid-outputs : (laid_of sizes n m).lut.output_inks ≡ m
  unfolding record_of
  laid-outputs = ap (λ (l : MultidimensionalLut). l.output_inks) laid-made.1

  pub laid-used : length sizes ≡ 16 → used_sizes (laid_of sizes n m).lut ≡ take n sizes
  unfolding record_of
  laid-used sixteen =
      let few = count-to n laid-made.0.n-counts in
      ap used_sizes laid-made.1 ∙ sizes-back (take n sizes) n (length-take-le n sizes (omega arith)) (omega arith)

  pub laid-size : (i : ℕ) → i < n → get_or (laid_of sizes n m).lut.grid_sizes i 0 ≡ get_or sizes i 0
  unfolding record_of
  laid-size i h =
      let few = count-to n laid-made.0.n-counts in
      ap (λ (l : MultidimensionalLut). get_or l.grid_sizes i 0) laid-made.1 ∙ places-used n (λ j. get_or (take n sizes) j 0) 0 i 0 (omega arith) h ∙ get_or-take n sizes i 0 h

  pub laid-sizes : ink_sizes (laid_of sizes n m).lut ≡ last_first n sizes
  laid-sizes = ap (λ (k : ℕ). last_first k (laid_of sizes n m).lut.grid_sizes) laid-inks ∙ last-first-same n _ sizes laid-size
