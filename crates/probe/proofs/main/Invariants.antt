-- `main`: as many bytes as were read lie within the room for them.
use Rattle.std.proofs.Common.{◌≡◌, ◌≤◌, length}
use Rattle.probe.proofs.main.Given as goal

abbrev pub invariant-loop : goal.invariant-loop
invariant-loop l = (length l.input ≡ 16384) × (l.count ≤ 16384)
