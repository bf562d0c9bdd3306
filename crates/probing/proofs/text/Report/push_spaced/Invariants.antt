-- `Report::push_spaced`: the answers so far are written, each after one blank.
use Rattle.std.proofs.Common.{◌≡◌, ◌+◌, ◌*◌, ◌++◌, length, map, take}
use Rattle.probing.specs.Text.{bits_of, after_blanks}
use Rattle.probing.proofs.text.Report.push_spaced.Given as goal

abbrev pub invariant-loop-x : goal.invariant-loop-x
invariant-loop-x l =
    (l.self ≡ l.initial.self ++ after_blanks (map bits_of (take l.x-index l.others)))
    × (length l.self ≡ length l.initial.self + 9 * l.x-index)
