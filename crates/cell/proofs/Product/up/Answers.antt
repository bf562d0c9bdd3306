-- One more than the whole part where the product is above that. The sum fits, since the whole part is below 255.
use Rattle.std.proofs.Common.{arith}
use Rattle.cell.specs.Rule.{up_of}
use Rattle.cell.proofs.Within.{castable, whole-below}
use Rattle.cell.proofs.Product.up.Goals as goal

pub int_to_float-self : goal.int_to_float-self
int_to_float-self c = let self = c.args.self in castable self.p self.lower self.below self.whole

pub overflow_add-result : goal.overflow_add-result
overflow_add-result c = let self = c.args.self in omega (arith, whole-below self.p self.lower self.below self.whole)

pub returns-then-self : goal.returns-then-self
unfolding up_of
returns-then-self c = simp (← c.args.self.whole, c.if-self.true)

pub returns : goal.returns
unfolding up_of
returns c = simp (← c.args.self.whole, c.if-self.false) (omega arith)
