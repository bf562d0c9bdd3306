-- What private functions may rely on in a call, and what they owe, for their contracts alone. Definitions only.
use Rattle.std.specs.Prelude.{ℕ, ◌-◌, ◌*◌, ◌≤◌, ◌≡◌, Bool, true, false, Result, Ok, Err, List, Float, length}
use Rattle.std.specs.Float.Ieee.{is_nan}
use Rattle.outcome.specs.declared.Refusal.{Refusal}
use Rattle.outcome.specs.declared.Refusal.TheVariants.{NanInput}
use Rattle.outcome.specs.Outcome.{on_done}
use Rattle.outcome.specs.Refused.{number_in}
use Rattle.lists.specs.Lists.{some, last_first, product}
use Rattle.cell.specs.declared.Cell.{Cell}
use Rattle.lookup.specs.Places.{placed_ink, first_inks, Promised, NoNans, SettledWith}
use Rattle.walk.specs.declared.Call.{Call}
use Rattle.walk.specs.declared.Plan.{Plan}
use Rattle.walk.specs.Steps.{lows, plan_for}
use Rattle.walk.specs.Kept.{skip_of, reads_in}
use Rattle.walk.specs.Count.{count_in}

-- the inputs are as many as the inks of an accepted layout, and the table has its entries
pub record Ready (call : Call) : Type 0 where
  pub laid : Promised call.filling.now call.sizes.now (length call.inputs.now) call.m
  pub enough : product (last_first (length call.inputs.now) call.sizes.now) * call.m ≤ length call.table.now

-- the cell of ink i, counted from 0; of the first n inks and of all, last ink first
abbrev pub ink_of : Call → ℕ → Cell
ink_of call i = placed_ink call.filling.now call.sizes.now call.inputs.now i

abbrev pub first_of : Call → ℕ → List Cell
first_of call n = first_inks call.filling.now call.sizes.now call.inputs.now n

abbrev pub inks_of : Call → List Cell
inks_of call = first_of call (length call.inputs.now)

-- the weights that are skipped, and the reads
abbrev pub skip_by : Call → Float → Bool
skip_by call = skip_of call.skipping

abbrev pub reads_by : Call → ℕ
reads_by call = reads_in (skip_by call) (last_first (length call.inputs.now) call.sizes.now) call.inputs.now

-- what is owed: the number r, and the answer buffer afterwards, `now`, which was `old`
abbrev pub SettledBy : Call → List Float → ℕ → List Float → Type 0
SettledBy call old r now = SettledWith (skip_by call) call.sizes.now call.m call.table.now call.inputs.now old r now

-- so many nodes are read unless the call is refused
abbrev pub Counts : ℕ → Result ℕ Refusal → Type 0
Counts count r = count_in r ≡ on_done (number_in r) count 0

abbrev pub CountedBy : Call → Result ℕ Refusal → Type 0
CountedBy call r = Counts (reads_by call) r

-- an answer that is the value, unless a NaN is met
abbrev pub UnlessNan : {A : Type 0} → Bool → A → Result A Refusal → Type 0
UnlessNan met value (Ok answer) = (met ≡ false) × (answer ≡ value)
UnlessNan met value (Err refusal) = (met ≡ true) × (refusal ≡ NanInput)

-- the plan of the cells of three inks
abbrev pub plan_of : Cell → Cell → Cell → Plan
plan_of c d e = plan_for (c.x_n - c.x) (d.x_n - d.x) (e.x_n - e.x) c.w d.w e.w

-- the first three inputs are numbers; the plan of their inks, and where their lowest corner stands
pub record Cubed (call : Call) (p : Plan) (at : ℕ) : Type 0 where
  pub numbers : NoNans call.inputs.now 3
  pub plan : p ≡ plan_of (ink_of call 0) (ink_of call 1) (ink_of call 2)
  pub base : at ≡ lows (first_of call 3)

abbrev pub CubeOf : Call → Result (Plan × ℕ) Refusal → Type 0
CubeOf call (Ok (p, at)) = Cubed call p at
CubeOf call (Err refusal) = (some is_nan call.inputs.now ≡ true) × (refusal ≡ NanInput)
