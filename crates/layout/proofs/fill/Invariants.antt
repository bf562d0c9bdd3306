-- From ink i on the places are filled, and the running value is `first` times the product of the sizes passed.
use Rattle.std.proofs.Common.{◌≡◌, ◌*◌, take}
use Rattle.layout.specs.Layout.{stride}
use Rattle.layout.proofs.Parts.{filled_from, running}
use Rattle.layout.proofs.fill.Given as goal

abbrev pub invariant-loop-i : goal.invariant-loop-i
invariant-loop-i l = record {
  running_value : l.value ≡ l.first * running (take l.n l.sizes) l.i;
  filled : l.row ≡ filled_from l.n (λ j. l.first * stride (take l.n l.sizes) j) 1 l.i;
}
