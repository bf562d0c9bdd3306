-- `probing::units::units`: the first places hold the units of the bytes so far.
use Rattle.std.proofs.Common.{◌≡◌, map, take}
use Rattle.probing.specs.Probe.{code_of}
use Rattle.probing.proofs.units.units.Given as goal

abbrev pub invariant-loop-i : goal.invariant-loop-i
invariant-loop-i l = take l.i l.room ≡ map code_of (take l.i l.bytes)
