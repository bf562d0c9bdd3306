use Rattle.std.proofs.Common.{◌≡◌, ◌+◌, ◌*◌, ◌%◌}
use Rattle.flash.specs.File.{word_at, sum_to}
use Rattle.flash.proofs.words.sum.Given as goal

abbrev pub invariant-loop-j : goal.invariant-loop-j
invariant-loop-j l = l.sum ≡ sum_to (λ k. word_at l.file (l.at + 4 * k)) l.j % 4_294_967_296
