-- From the ink on the places of both rows are filled.
use Rattle.std.proofs.Common.{◌≡◌, ◌-◌, get_or}
use Rattle.binary32.specs.Numbers.{plus_zero, of_whole}
use Rattle.layout.proofs.Parts.{filled_from}
use Rattle.layout.proofs.fill_own.Given as goal

abbrev pub invariant-loop-ink : goal.invariant-loop-ink
invariant-loop-ink l = record {
  scales : l.scale ≡ filled_from l.n (λ i. of_whole (get_or l.sizes i 0 - 1)) plus_zero l.ink;
  sizes : l.own ≡ filled_from l.n (λ i. get_or l.sizes i 0) 0 l.ink;
}
