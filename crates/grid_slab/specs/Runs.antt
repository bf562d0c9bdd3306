-- Where the code finds a slab's entries, for the contracts of private functions alone: no public statement rests on this file. The inks after ink j and the
-- outputs make a run of consecutive entries; ink j turns through its lines, a run for each. Definitions only.
use Rattle.std.specs.Prelude.{ℕ, suc, ◌+◌, ◌-◌, ◌*◌, ◌/◌, ◌%◌, ◌≤◌, ◌<◌, ◌≡◌, Bool, List, Float, get_or, take, drop}
use Rattle.std.specs.Float.{nan}
use Rattle.outcome.specs.Outcome.{Decides}
use Rattle.lists.specs.Lists.{product}
use Rattle.layout.specs.declared.MultidimensionalLut.{MultidimensionalLut}
use Rattle.layout.specs.Layout.{IsLayout, ink_sizes}
use Rattle.grid_slab.specs.declared.runs.Runs.{Runs}
use Rattle.grid_slab.specs.Slab.{size_of, refusal}

-- the entries of a run, and how often ink j turns: the inks after it with the outputs, and the inks before it
abbrev pub run_of : MultidimensionalLut → ℕ → ℕ
run_of lut j = lut.output_inks * product (take (lut.input_inks - j) (ink_sizes lut))

abbrev pub turns_of : MultidimensionalLut → ℕ → ℕ
turns_of lut j = product (drop (suc (lut.input_inks - j)) (ink_sizes lut))

-- the place in the table of the slab's entry e, where ink j stands on line k of so many: run t of the slab is run k of the table's turn t
abbrev pub place_of : ℕ → ℕ → ℕ → ℕ → ℕ
place_of run lines k e = (e / run * lines + k) * run + e % run

abbrev pub cut_entry : List Float → Runs → ℕ → Float
cut_entry table runs e = get_or table (place_of runs.run runs.lines runs.k e) nan

-- ink j's runs, of which that at line k is cut out
abbrev pub runs_of : MultidimensionalLut → ℕ → ℕ → Runs
runs_of lut j k = record { run = run_of lut j; lines = size_of lut j; k = k; turns = turns_of lut j }

-- ink j is one of two or more of a layout
pub record CanCut (lut : MultidimensionalLut) (j : ℕ) : Type 0 where
  pub is : IsLayout lut
  pub from : 1 ≤ j
  pub to : j ≤ lut.input_inks
  pub two : 2 ≤ lut.input_inks

-- the turns stand in the table, and their runs at line k have room in the slab
pub record Fit (table slab : ℕ) (runs : Runs) : Type 0 where
  pub some : 1 ≤ runs.run
  pub on_line : runs.k < runs.lines
  pub held : runs.turns * runs.lines * runs.run ≤ table
  pub room : runs.turns * runs.run ≤ slab

-- the number r that a cut gives
pub record Checked (lut : MultidimensionalLut) (table j k room : ℕ) (r : ℕ) : Type 0 where
  pub laid : Bool
  pub decides : Decides laid (IsLayout lut)
  pub number : r ≡ refusal laid lut table j k room
