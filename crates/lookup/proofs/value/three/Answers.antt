-- The eight entries are those of the cell's nodes.
use Rattle.lookup.specs.Lookup.{lookup_with}
use Rattle.lookup.proofs.value.three.Goals as goal

pub returns : goal.returns
unfolding lookup_with
returns c = cc
