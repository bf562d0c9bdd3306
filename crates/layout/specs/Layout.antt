-- Document 01, "Sizes, strides and the layout record" and its refusals 1, 2, 3 and 5, with a size for each ink (document 02, E5). Refusal 4 is given no more.
-- Assumes nothing.
use Rattle.std.specs.Prelude.{ℕ, suc, Result, Ok, Err, ◌-◌, ◌*◌, ◌≡◌, Bool, cond, not, ◌&&◌, List, leb, ltb, T, length, get_or, take, drop, replicate}
use Rattle.std.proofs.Math.Pow.{are_bytes}
use Rattle.outcome.specs.Outcome.{on_done}
use Rattle.outcome.specs.declared.Refusal.{Refusal}
use Rattle.outcome.specs.Refused.{number_of}
use Rattle.binary32.specs.Numbers.{plus_zero, of_whole}
use Rattle.lists.specs.Lists.{tabulate, every, last_first, product}
use Rattle.layout.specs.declared.MultidimensionalLut.{MultidimensionalLut}

-- the largest total that is accepted
abbrev pub limit : ℕ
limit = 4_294_967_295

-- a count of inks is 1 to 15
unfoldable pub is_count : ℕ → Bool
is_count n = leb 1 n && leb n 15

-- entries of the whole table, of the sizes in use, first ink first
abbrev pub total : List ℕ → ℕ → ℕ
total used m = product used * m

-- nodes from one line of ink i to the next: the product of the sizes after i
abbrev pub stride : List ℕ → ℕ → ℕ
stride used i = product (drop (suc i) used)

-- at place i: f i where i is one of the n inks in use, else `unused`
abbrev pub place : {A : Type 0} → ℕ → (ℕ → A) → A → ℕ → A
place n f unused i = cond (ltb i n) (f i) unused

abbrev pub places : {A : Type 0} → ℕ → (ℕ → A) → A → List A
places n f unused = tabulate 16 (place n f unused)

-- the record of an accepted layout, of the n sizes in use
unfoldable pub record_of : List ℕ → ℕ → ℕ → MultidimensionalLut
record_of used n m =
    record {
      grid_strides = places n (stride used) 1;
      grid_filling_size = places n (λ i. m * stride used i) 1;
      grid_scale = places n (λ i. of_whole (get_or used i 0 - 1)) plus_zero;
      grid_sizes = places n (λ i. get_or used i 0) 0;
      input_inks = n;
      output_inks = m;
    }

-- a record of zeros
unfoldable pub zeros : MultidimensionalLut
zeros =
    record {
      grid_strides = replicate 16 0;
      grid_filling_size = replicate 16 0;
      grid_scale = replicate 16 plus_zero;
      grid_sizes = replicate 16 0;
      input_inks = 0;
      output_inks = 0;
    }

-- a layout's number, and its record
pub record Laid : Type 0 where
  pub refusal : ℕ
  pub lut : MultidimensionalLut

-- a refusal has a record of zeros
unfoldable pub refused_by : ℕ → Laid
refused_by number = record { refusal = number; lut = zeros }

-- what an answer says: the record, or a refusal
abbrev pub laid_in : Result MultidimensionalLut Refusal → Laid
laid_in (Ok lut) = record { refusal = 0; lut = lut }
laid_in (Err refusal) = refused_by (number_of refusal)

-- the refusals in their order, of the n sizes in use
unfoldable pub laid_using : List ℕ → ℕ → ℕ → Laid
laid_using used n m =
    cond (not (is_count n)) (refused_by 1)
    (cond (not (is_count m)) (refused_by 2)
    (cond (not (every (ltb 0) used)) (refused_by 3)
    (cond (ltb limit (total used m)) (refused_by 5)
    (record { refusal = 0; lut = record_of used n m }))))

-- what a layout answers: only the first n sizes count
unfoldable pub laid_of : List ℕ → ℕ → ℕ → Laid
laid_of sizes n m = laid_using (take n sizes) n m

-- bit for bit a record that an accepted layout gives: some sixteen bytes and two counts are accepted and have this record
pub record IsLayout (lut : MultidimensionalLut) : Type 0 where
  pub sizes : List ℕ
  pub n : ℕ
  pub m : ℕ
  pub sixteen : length sizes ≡ 16
  pub bytes : T (are_bytes sizes)
  pub accepted : laid_of sizes n m ≡ record { refusal = 0; lut = lut }

-- what a layout owes: its answer, and that its record is a layout's where no refusal is given
pub record LaidBy (sizes : List ℕ) (n m : ℕ) (laid : Laid) : Type 0 where
  pub answer : laid ≡ laid_of sizes n m
  -- which follows, since the sizes are sixteen bytes
  pub accepted : laid.refusal ≡ 0 → IsLayout laid.lut

-- what `filling_sizes` owes: its number r, and the row afterwards, `now`, which was `old`
pub record FillingOf (sizes : List ℕ) (n m : ℕ) (old : List ℕ) (r : ℕ) (now : List ℕ) : Type 0 where
  pub number : r ≡ (laid_of sizes n m).refusal
  pub row : now ≡ on_done (laid_of sizes n m).refusal (laid_of sizes n m).lut.grid_filling_size old
  -- which follows, since the sizes are sixteen bytes: a caller that lends them cannot tell
  pub laid : r ≡ 0 → IsLayout (laid_of sizes n m).lut

-- the sizes of a record's inks, last ink first
abbrev pub ink_sizes : MultidimensionalLut → List ℕ
ink_sizes lut = last_first lut.input_inks lut.grid_sizes

-- the entries of a record's whole table
abbrev pub entries : MultidimensionalLut → ℕ
entries lut = product (ink_sizes lut) * lut.output_inks
