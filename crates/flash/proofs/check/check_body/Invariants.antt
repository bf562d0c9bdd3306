-- The blocks passed refuse nothing.
use Rattle.std.proofs.Common.{◌≡◌}
use Rattle.flash.specs.Refusals.{body_refusal}
use Rattle.flash.proofs.check.check_body.Given as goal

abbrev pub invariant-loop-k : goal.invariant-loop-k
invariant-loop-k l = body_refusal l.file l.total l.k ≡ 0
