-- The whole part is below 255.
use Rattle.std.proofs.Common.{arith}
use Rattle.cell.specs.Rule.{next_of}
use Rattle.cell.proofs.Within.{whole-below}
use Rattle.cell.proofs.Product.next_node.Goals as goal

pub overflow_add-self : goal.overflow_add-self
overflow_add-self c = let self = c.args.self in omega (arith, whole-below self.p self.lower self.below self.whole)

pub returns : goal.returns
unfolding next_of
returns c = grind (arith, c.min.ensures, c.args.self.whole, c.last_line.ensures)
