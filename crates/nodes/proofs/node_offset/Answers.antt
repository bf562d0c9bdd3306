use Rattle.std.proofs.Common.{arith}
use Rattle.nodes.proofs.Refusals.{is-node, node-stands}
use Rattle.nodes.proofs.node_offset.Goals as goal

pub first_entry-requires : goal.first_entry-requires
first_entry-requires c = is-node _ _ _ c.in_ok-check_node.ensures

pub returns-clause-within : goal.returns-clause-within
returns-clause-within c = omega (arith, c.first_entry.ensures, node-stands _ _ _ c.in_ok-check_node.ensures)
