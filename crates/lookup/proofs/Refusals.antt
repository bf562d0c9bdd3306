-- The numbers of a lookup's refusals from the tests that lead to them. Assumes nothing.
use Prim.Native.Nat.{ℕ, ◌*◌, ◌≤◌, ◌<◌}
use mathlib.Core.Path.{◌≡◌, refl, sym, ap, subst, ◌∙◌}
use mathlib.Core.Bool.{Bool, true, cond, not}
use mathlib.Core.List.{List}
use lib.Ieee.{Float}
use lib.ListN.{length, get_or}
use borrow.Author.Tests.{lt-ltb, le-ltb}
use Rattle.outcome.specs.declared.Refusal.{Refusal}
use Rattle.outcome.specs.Refused.{number_of}
use Rattle.outcome.specs.Outcome.{Decides}
use Rattle.outcome.proofs.Numbers.{not_done}
use Rattle.lists.specs.Lists.{product}
use Rattle.lists.specs.Buffer.{left}
use Rattle.lists.proofs.Buffer.{unwritten, length-left}
use Rattle.layout.specs.declared.MultidimensionalLut.{MultidimensionalLut}
use Rattle.layout.specs.Layout.{IsLayout, ink_sizes, entries}
use Rattle.layout.specs.Lengths.{length_refusal}
use Rattle.layout.proofs.Laws.{first-filling}
use Rattle.layout.proofs.Lengths.{Passed, refused-by, passed}
use Rattle.lookup.specs.Table.{answer_with, nan_refusal, refusal, refusal_by_sizes, LookedWith, LookedBySizesWith}
use Rattle.lookup.specs.Places.{answer_in, Settled, Answered}

-- ---- a lookup, after an accepted layout

module _ (skip : Float → Bool) (gs : List ℕ) (n m : ℕ) (table inputs old : List Float) (r : ℕ)
    (number : r ≡ length_refusal (product gs * m) n (length table) (length inputs) 0) where
  pub answered-refused : (r ≡ 0 → ⊥) → Answered skip gs n m table inputs old r old
  answered-refused some =
      record {
        number = refused-by true (product gs * m) n (length table) (length inputs) r number some _;
        entries = unwritten r _ m old some refl;
      }

  module _ (z : r ≡ 0) where
    pub answered-passed : Passed true (product gs * m) n (length table) (length inputs)
    answered-passed = passed true (product gs * m) n (length table) (length inputs) r 0 number z

    pub answered-short : length old < m → Answered skip gs n m table inputs old 8 old
    answered-short short =
        record {
          number = sym (ap (λ (b : Bool). cond b 8 (nan_refusal inputs)) (lt-ltb _ _ short)) ∙ answered-passed.next _;
          entries = refl;
        }

    pub answered-blended : m ≤ length old → (k : ℕ) (now : List Float) → Settled (answer_in skip gs m table inputs) m inputs old k now
        → Answered skip gs n m table inputs old k now
    answered-blended room k now blended =
        record {
          number = blended.number ∙ sym (ap (λ (b : Bool). cond b 8 (nan_refusal inputs)) (le-ltb _ _ room)) ∙ answered-passed.next _;
          entries = blended.entries;
        }

-- the lookup by a record
module _ (skip : Float → Bool) (lut : MultidimensionalLut) (table inputs old : List Float) (laid : Bool)
    (decides : Decides laid (IsLayout lut)) where
  pub looked-refused : not laid ≡ true → LookedWith skip lut table inputs old 9 old
  unfolding refusal
  looked-refused fails = record { laid = laid; decides = decides; number = sym (simp fails); entries = refl }

  pub looked-answered : laid ≡ true → (r : ℕ) (now : List Float)
      → Answered skip (ink_sizes lut) lut.input_inks lut.output_inks table inputs old r now → LookedWith skip lut table inputs old r now
  unfolding refusal answer_with
  looked-answered is r now answered =
      record {
        laid = laid;
        decides = decides;
        number = answered.number ∙ ap (λ (b : Bool). refusal b lut (length table) inputs (length old)) (sym is);
        entries = answered.entries;
      }

-- after the record's test, with the total as the code has it
module _ (skip : Float → Bool) (lut : MultidimensionalLut) (table inputs old : List Float) (laid : Bool)
    (decides : Decides laid (IsLayout lut)) (is : laid ≡ true)
    (total : ℕ) (total-is : total ≡ get_or lut.grid_filling_size 0 0 * get_or lut.grid_sizes 0 0) where
  abbrev ByLengths : ℕ → ℕ → Type 0
  ByLengths t r = r ≡ length_refusal t lut.input_inks (length table) (length inputs) 0

  by-entries : (r : ℕ) → ByLengths total r → ByLengths (entries lut) r
  by-entries r number = subst (λ (t : ℕ). ByLengths t r) (total-is ∙ first-filling lut (decides.holds is)) number

  looked-then : (k : ℕ) (now : List Float)
      → Answered skip (ink_sizes lut) lut.input_inks lut.output_inks table inputs old k now → LookedWith skip lut table inputs old k now
  looked-then = looked-answered skip lut table inputs old laid decides is

  pub looked-lengths : (e : Refusal) → ByLengths total (number_of e) → LookedWith skip lut table inputs old (number_of e) old
  looked-lengths e number =
      looked-then _ old (answered-refused skip (ink_sizes lut) _ _ table inputs old _ (by-entries _ number) (not_done e))

  module _ (none : ByLengths total 0) where
    pub looked-passed : Passed true (entries lut) lut.input_inks (length table) (length inputs)
    looked-passed = answered-passed skip (ink_sizes lut) _ _ table inputs old 0 (by-entries 0 none) refl

    pub looked-short : length old < lut.output_inks → LookedWith skip lut table inputs old 8 old
    looked-short short = looked-then 8 old (answered-short skip (ink_sizes lut) _ _ table inputs old 0 (by-entries 0 none) refl short)

    pub looked-written : lut.output_inks ≤ length old → (k : ℕ) (now : List Float) → k ≡ nan_refusal inputs
        → now ≡ left k (answer_with skip lut table inputs) lut.output_inks old → LookedWith skip lut table inputs old k now
    unfolding answer_with
    looked-written room k now number entries =
        looked-then k now
        (answered-blended skip (ink_sizes lut) _ _ table inputs old 0 (by-entries 0 none) refl room k now
        (record { number = number; entries = entries }))

-- ---- the buffer keeps its length

pub looked-length : {skip : Float → Bool} {lut : MultidimensionalLut} {table inputs old : List Float} {r : ℕ} {now : List Float}
    → LookedWith skip lut table inputs old r now → length now ≡ length old
looked-length {r = r} looked = ap length looked.entries ∙ length-left r _ _ _

pub looked-length-by-sizes : {skip : Float → Bool} {sizes : List ℕ} {n m : ℕ} {table inputs old : List Float} {r : ℕ} {now : List Float}
    → LookedBySizesWith skip sizes n m table inputs old r now → length now ≡ length old
looked-length-by-sizes {sizes = sizes} {n = n} {m = m} {table = table} {inputs = inputs} {old = old} looked =
    ap length looked.entries ∙ length-left (refusal_by_sizes sizes n m (length table) inputs (length old)) _ _ _
