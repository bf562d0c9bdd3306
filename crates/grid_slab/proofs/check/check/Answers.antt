-- Each test is the definition's, and a line's share of the whole table is the slab.
use Rattle.std.proofs.Common.{◌≡◌, ℕ, ◌-◌, ◌/◌, true, arith, ap, sym, ◌∙◌}
use Rattle.std.proofs.lemmas.Bool.Decides.{nat_tests}
use Rattle.layout.specs.Layout.{IsLayout, entries}
use Rattle.layout.specs.declared.MultidimensionalLut.{MultidimensionalLut}
use Rattle.layout.proofs.Laws.{inks-to, first-filling, size-from}
use Rattle.grid_slab.specs.Slab.{size_of, fewer, is_ink, refusal}
use Rattle.grid_slab.proofs.Fewer.{fewer-share}
use Rattle.grid_slab.proofs.Cutting.{is-ink}
use Rattle.grid_slab.proofs.check.check.Goals as goal

pub returns-then-not-is_layout : goal.returns-then-not-is_layout
unfolding refusal
returns-then-not-is_layout c = record { laid = c.is_layout.result; decides = c.is_layout.ensures; number = grind (arith, nat_tests) }

pub returns-then-table-total : goal.returns-then-table-total
unfolding refusal
returns-then-table-total c =
    let total = first-filling _ (c.is_layout.ensures.holds c.if-not-is_layout.false) in
    record { laid = c.is_layout.result; decides = c.is_layout.ensures; number = grind (arith, nat_tests) }

pub returns-then-not-is_ink : goal.returns-then-not-is_ink
unfolding refusal
returns-then-not-is_ink c =
    let total = first-filling _ (c.is_layout.ensures.holds c.if-not-is_layout.false) in
    record { laid = c.is_layout.result; decides = c.is_layout.ensures; number = grind (arith, nat_tests) }

pub overflow_sub-lines : goal.overflow_sub-lines
overflow_sub-lines c = omega (arith, is-ink _ _ (sym c.is_ink.ensures ∙ c.if-not-is_ink.false))

pub bounds-sizes-j : goal.bounds-sizes-j
bounds-sizes-j c =
    let few = inks-to _ (c.is_layout.ensures.holds c.if-not-is_layout.false) in
    omega (arith, is-ink _ _ (sym c.is_ink.ensures ∙ c.if-not-is_ink.false), few)

pub returns-then-lines-k : goal.returns-then-lines-k
unfolding refusal
returns-then-lines-k c =
    let total = first-filling _ (c.is_layout.ensures.holds c.if-not-is_layout.false) in
    record { laid = c.is_layout.result; decides = c.is_layout.ensures; number = grind (arith, nat_tests) }

-- the slab's total
share : (lut : MultidimensionalLut) (j t : ℕ) → IsLayout lut → is_ink j lut.input_inks ≡ true → (lut.input_inks ≡ 1 → ⊥)
    → t ≡ entries lut → t / size_of lut j ≡ entries (fewer lut j)
share lut j t is ink more total =
    let of = is-ink j lut.input_inks ink in
    ap (λ (t : ℕ). t / size_of lut j) total ∙ fewer-share lut is (omega arith) j of.0 of.1 (size-from lut is (j - 1) (omega arith))

pub returns-then-room-total : goal.returns-then-room-total
unfolding refusal
returns-then-room-total c =
    let is = c.is_layout.ensures.holds c.if-not-is_layout.false in
    let total = c.entry_count-total.ensures ∙ first-filling _ is in
    let slab = share c.args.lut c.args.j _ is (sym c.is_ink.ensures ∙ c.if-not-is_ink.false) c.if-lut-eq1.false total in
    record { laid = c.is_layout.result; decides = c.is_layout.ensures; number = grind (arith, nat_tests) }

pub returns : goal.returns
unfolding refusal
returns c =
    let is = c.is_layout.ensures.holds c.if-not-is_layout.false in
    let total = c.entry_count-total.ensures ∙ first-filling _ is in
    let slab = share c.args.lut c.args.j _ is (sym c.is_ink.ensures ∙ c.if-not-is_ink.false) c.if-lut-eq1.false total in
    record { laid = c.is_layout.result; decides = c.is_layout.ensures; number = grind (arith, nat_tests) }
