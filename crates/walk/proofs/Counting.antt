-- One ink and two, of which none is skipped: their answers and their reads. Assumes nothing.
use Prim.Native.Nat.{ℕ}
use native.Mathlib.Omega.{arith}
use mathlib.Core.Path.{◌≡◌, sym, ◌∙◌}
use mathlib.Core.List.{List}
use lib.ListN.{length}
use Rattle.lists.specs.Lists.{last_first}
use Rattle.lists.proofs.Lists.{length-last-first}
use Rattle.lookup.specs.Table.{cells}
use Rattle.lookup.specs.Places.{answer_by, answer, within}
use Rattle.lookup.specs.Idle.{weights_of}
use Rattle.lookup.proofs.More.{lookup-few}
use Rattle.lookup.proofs.Counts.{length-weights, length-cells, reads-one, reads_two}
use Rattle.walk.specs.declared.Call.{Call}
use Rattle.walk.specs.Calls.{skip_by, reads_by, first_of}

module _ (call : Call) where
  abbrev gs : List ℕ
  gs = last_first (length call.inputs.now) call.sizes.now

  count : length (weights_of (cells gs call.inputs.now)) ≡ length call.inputs.now
  count = length-weights (cells gs call.inputs.now) ∙ length-cells gs call.inputs.now ∙ length-last-first (length call.inputs.now) call.sizes.now

  pub one-read : length call.inputs.now ≡ 1 → 2 ≡ reads_by call
  one-read is = sym (reads-one (skip_by call) (weights_of (cells gs call.inputs.now)) (count ∙ is))

  pub two-reads : length call.inputs.now ≡ 2 → 4 ≡ reads_by call
  two-reads is = sym (reads_two (skip_by call) (weights_of (cells gs call.inputs.now)) (count ∙ is))

  pub one_answer : (o : ℕ) → answer call.table.now (first_of call 1) o ≡ answer_by (skip_by call) call.table.now (first_of call 1) o
  one_answer o = sym (lookup-few (skip_by call) (within call.table.now o) (first_of call 1) (omega arith))

  pub two_answers : (o : ℕ) → answer call.table.now (first_of call 2) o ≡ answer_by (skip_by call) call.table.now (first_of call 2) o
  two_answers o = sym (lookup-few (skip_by call) (within call.table.now o) (first_of call 2) (omega arith))
