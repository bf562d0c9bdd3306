use Rattle.std.proofs.Common.{length}
use Rattle.lookup.proofs.value.+value.Given as goal

abbrev pub decreases-value : goal.decreases-value
decreases-value l = length l.inks.now
