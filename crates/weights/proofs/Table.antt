-- The 33-point table: one test that antt computes over its 256 entries, and what that says of each of them.
-- Assumes nothing.
use Prim.Native.Nat.{ℕ, ◌<◌}
use mathlib.Core.Path.{◌≡◌, refl, ap, ◌∙◌, subst}
use mathlib.Core.Bool.{Bool, true, false, not, ◌&&◌}
use mathlib.Core.List.{List}
use borrow.Author.Tests.{eqb-true, not-true}
use native.Mathlib.Omega.{arith}
use lib.Dec.{eqb, T}
use lib.Ieee.{binary32, fits, nan_bits, to_bits, of_bits, of_fields, odd, units, round, size, span, climb, neg, sum, add, sub, mul, of_int}
use lib.Ieee.Bits.{of_bits-to_bits}
use lib.Ieee.Fits.{sub-fits}
use lib.ListN.{get_or}
use Rattle.cell.specs.declared.Cell.{Cell}
use Rattle.lists.specs.Lists.{tabulate, every}
use Rattle.std.proofs.lemmas.Bool.{and_parts}
use Rattle.lists.proofs.Lists.{length-tabulate, get_or-tabulate, every-at}
use Rattle.weights.specs.declared.entries.TheConstants.{ENTRIES_33}
use Rattle.weights.specs.Rule.{scale_of, cell_of, weight_cell}

-- the entry of a code in a table: the two nodes, and the bits of the weight
abbrev pub entry_in : List (ℕ × ℕ × ℕ) → ℕ → ℕ × ℕ × ℕ
entry_in table index = get_or table index (0, 0, 0)

abbrev pub entry : ℕ → ℕ × ℕ × ℕ
entry index = entry_in ENTRIES_33 index

-- an entry has the nodes of a cell and the bits of its weight, which are no NaN's
unfoldable pub holds : ℕ × ℕ × ℕ → Cell → Bool
holds e c = eqb e.0 c.x && (eqb e.1 c.x_n && (eqb e.2 (to_bits binary32 c.w) && not (nan_bits binary32 e.2)))

-- the 256 entries of a table are the rule's
unfoldable pub tested : List (ℕ × ℕ × ℕ) → Bool
tested table = every (λ k. holds (entry_in table k) (weight_cell 33 k)) (tabulate 256 (λ k. k))

pub constants-right : tested ENTRIES_33 ≡ true
unfolding tested every tabulate holds weight_cell cell_of scale_of mul sub add sum neg round units odd size span climb of_int of_bits of_fields to_bits nan_bits
constants-right = refl

held_at : (table : List (ℕ × ℕ × ℕ)) (index : ℕ) → tested table ≡ true → index < 256 → holds (entry_in table index) (weight_cell 33 index) ≡ true
unfolding tested
held_at table index h l =
    let test : ℕ → Bool = λ k. holds (entry_in table k) (weight_cell 33 k) in
    let here = every-at test (tabulate 256 (λ k. k)) index h (rw (length-tabulate 256 (λ k. k)) l) in
    subst (λ (k : ℕ). test k ≡ true) (get_or-tabulate 256 (λ k. k) index 0 l) here

fits-w : (index : ℕ) → T (fits binary32 (weight_cell 33 index).w)
unfolding weight_cell cell_of
fits-w index = sub-fits binary32 _ _

-- what the test says
parts : (e : ℕ × ℕ × ℕ) (c : Cell) → holds e c ≡ true
    → (e.0 ≡ c.x) × (e.1 ≡ c.x_n) × (e.2 ≡ to_bits binary32 c.w) × (nan_bits binary32 e.2 ≡ false)
unfolding holds
parts e c h = grind (arith, eqb-true, not-true, and_parts)

-- each entry of a table that passed the test has the nodes of the rule's cell and the bits of its weight
pub at_each : (table : List (ℕ × ℕ × ℕ)) (index : ℕ) → tested table ≡ true → index < 256
    → let e = entry_in table index in let c = weight_cell 33 index in (e.0 ≡ c.x) × (e.1 ≡ c.x_n) × (e.2 ≡ to_bits binary32 c.w) × (nan_bits binary32 e.2 ≡ false)
at_each table index h l = parts _ _ (held_at table index h l)

pub entry-number : (index : ℕ) → index < 256 → nan_bits binary32 (entry index).2 ≡ false
entry-number index l = (at_each ENTRIES_33 index constants-right l).3

pub entry-cell : (index : ℕ) → index < 256
    → let e = entry index in record { x = e.0; x_n = e.1; w = of_bits binary32 e.2 } ≡ weight_cell 33 index
entry-cell index l =
    let c = weight_cell 33 index in
    let is = at_each ENTRIES_33 index constants-right l in
    λ i. record { x = is.0 i; x_n = is.1 i; w = (ap (of_bits binary32) is.2 ∙ of_bits-to_bits binary32 c.w (fits-w index)) i }
