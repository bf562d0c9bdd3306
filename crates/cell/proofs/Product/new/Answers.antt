-- An ink times the last line is at most that line.
use Rattle.cell.proofs.Within.{scaled-below}
use Rattle.cell.proofs.Product.new.Goals as goal

pub whole_part-requires : goal.whole_part-requires
whole_part-requires c = simp c.last_line.ensures (scaled-below c.args.ink c.requires c.args.g c.ranges.g.fits)

pub invariant_of-result : goal.invariant_of-result
invariant_of-result c = record { below = simp c.last_line.ensures (scaled-below c.args.ink c.requires c.args.g c.ranges.g.fits); whole = c.whole_part.ensures }
