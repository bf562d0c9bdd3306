use Rattle.std.proofs.Common.{rules}
use Rattle.weights.specs.Rule.{zero_cell, weight_cell, ranged}
use Rattle.weights.proofs.Made.{made_by}
use Rattle.weights.proofs.create_ranged_256.Goals as goal

pub returns : goal.returns
unfolding ranged weight_cell
returns c =
    let axis = c.in_ok-axis.ensures.ok in
    let made = made_by _ _ (weight_cell c.args.g) zero_cell 256 (λ i y q l k. search rules) _ c.from_fn.ensures.items in
    simp (made, axis.0)
