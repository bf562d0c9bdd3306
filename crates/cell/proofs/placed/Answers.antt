-- A byte times a filling size fits.
use Rattle.std.proofs.Common.{◌≡◌, ℕ, ◌-◌, ◌*◌, ◌^◌, ◌<◌, Some, mul-le-mul, arith, rules, Fits-le, Fits-lit, w64, Fits}
use lib.Ieee.{Float, is_nan}
use Rattle.cell.specs.declared.Cell.{Cell}
use Rattle.cell.specs.Rule.{ink_cell, found_of}
use Rattle.cell.proofs.Said.{said_some}
use Rattle.cell.proofs.Laws.{ink-on-grid}
use Rattle.cell.proofs.placed.Goals as goal

distance-fits : (x s : ℕ) → x < 256 → s < 4_294_967_296 → Fits w64 (x * s)
distance-fits x s byte wide = Fits-le (mul-le-mul {n₂ = 255} {m₂ = 2 ^ 32 - 1} (omega arith) (omega arith)) (Fits-lit tt)

-- a cell's nodes are bytes
bytes : (i g : ℕ) (x : Float) (c : Cell) → g < 256 → Some c ≡ found_of x (ink_cell i g x) → (c.x < 256) × (c.x_n < 256)
bytes i g x c byte said =
    let on = ink-on-grid x g (search rules) i in
    rw (said_some (is_nan x) c _ said).1 (omega (arith, on.lower), omega (arith, on.upper))

pub overflow_mul-result : goal.overflow_mul-result
overflow_mul-result c = distance-fits c.in_ok-c.c.x _ (bytes c.args.i c.args.g c.args.x _ (search rules) c.in_ok-c.ensures).0 (search rules)

pub overflow_mul-result-2 : goal.overflow_mul-result-2
overflow_mul-result-2 c = distance-fits c.in_ok-c.c.x_n _ (bytes c.args.i c.args.g c.args.x _ (search rules) c.in_ok-c.ensures).1 (search rules)
