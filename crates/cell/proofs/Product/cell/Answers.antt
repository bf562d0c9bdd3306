-- The whole part casts to a float, since it is below 255.
use Rattle.cell.specs.Rule.{weight_of}
use Rattle.cell.proofs.Within.{castable}
use Rattle.cell.proofs.Product.cell.Goals as goal

pub int_to_float-result : goal.int_to_float-result
int_to_float-result c = let self = c.args.self in castable self.p self.lower self.below self.whole

pub returns : goal.returns
unfolding weight_of
returns c = simp c.args.self.whole
