-- Ink j is among the record's inks, and has turns.
use Rattle.std.proofs.Common.{rules, ◌/◌, arith, ◌∙◌}
use Rattle.layout.proofs.Laws.{inks-to, first-filling}
use Rattle.grid_slab.specs.Slab.{size_of}
use Rattle.grid_slab.proofs.Cutting.{turn, run_is, turn-some, turns-are}
use Rattle.grid_slab.proofs.runs.Runs.of.Goals as goal

pub offset_bounds-filling-j : goal.offset_bounds-filling-j
offset_bounds-filling-j c = let few = inks-to _ c.requires.is in search rules

pub bounds-filling-j : goal.bounds-filling-j
bounds-filling-j c = omega (arith, inks-to _ c.requires.is)

pub bounds-sizes-j : goal.bounds-sizes-j
bounds-sizes-j c = omega (arith, inks-to _ c.requires.is)

pub nonzero_div-turns : goal.nonzero_div-turns
nonzero_div-turns c = turn-some _ _ c.requires

pub returns : goal.returns
returns c =
    let a = c.args in
    let total = c.entry_count.ensures ∙ first-filling a.lut c.requires.is in
    let turns = (λ i. total i / turn a.lut a.j c.requires) ∙ turns-are a.lut a.j c.requires in
    λ i. record { run = run_is a.lut a.j c.requires i; lines = size_of a.lut a.j; k = a.k; turns = turns i }
