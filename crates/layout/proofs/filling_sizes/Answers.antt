-- A refusal leaves the row, else it is the record's.
use Rattle.std.proofs.Common.{◌∙◌, arith, le_refl}
use Rattle.outcome.proofs.Refused.{given}
use Rattle.layout.proofs.Rows.{tested-layout, counts-few, row-fills, filling-row}
use Rattle.layout.proofs.filling_sizes.Goals as goal

pub overflow_cast-m : goal.overflow_cast-m
overflow_cast-m c = omega (arith, counts-few _ _ _ c.in_ok-check.ensures)

pub fill-requires : goal.fill-requires
fill-requires c = row-fills _ _ _ c.in_ok-check.ensures _ (le_refl _)

pub returns : goal.returns
returns c =
    let tested = c.in_ok-check.ensures in
    record {
      number = tested.number;
      row = c.fill.ensures ∙ filling-row _ _ _ tested ∙ given _ _ _ tested.number;
      laid = λ none. tested-layout _ _ _ tested;
    }
