-- Three inks and hs above them: the plan of the three lies within the table, and the answers and the reads are those of all inks. Then three alone, and
-- four. Assumes nothing.
use Prim.Native.Nat.{ℕ, ◌+◌, ◌-◌, ◌*◌, ◌^◌, ◌<◌, ◌≤◌}
use native.Mathlib.Omega.{arith}
use mathlib.Core.Path.{◌≡◌, refl, ap, sym, subst, ◌∙◌}
use mathlib.Core.Bool.{Bool, false, cond}
use mathlib.Core.List.{List, [], ◌∷◌, ◌++◌}
use lib.Ieee.{Float, nan, is_nan}
use lib.ListN.{length, get_or, take, drop, length-append}
use Rattle.cell.specs.declared.Cell.{Cell}
use Rattle.lookup.specs.Places.{reach, answer_by, NoNans}
use Rattle.lookup.specs.Idle.{reads, weights_of, active}
use Rattle.lookup.proofs.Counts.{length-weights, reads_three}
use Rattle.walk.specs.declared.Plan.{Plan}
use Rattle.walk.specs.Blocks.{Gives}
use Rattle.walk.specs.Steps.{step_cell, stepped, lows, fourth, tetra_of, Near}
use Rattle.walk.specs.Walk.{above}
use Rattle.walk.specs.Kept.{kept}
use Rattle.walk.specs.declared.Call.{Call}
use Rattle.walk.specs.Calls.{skip_by, reads_by, SettledBy, ink_of, first_of, Ready, Cubed, plan_of}
use Rattle.walk.proofs.Above.{above-answer, reach-over}
use Rattle.walk.proofs.Tetrahedron.{near, plan-answers}
use Rattle.walk.proofs.Reading.{Proper, cells-proper, cells-done, all-numbers, nans-next}
use Rattle.walk.proofs.Kept.{at-start-stepped, kept-answer, fourth-on, fourth-above}
use Rattle.walk.proofs.Grids.{part-starts, part-reach, part-answers, prefix-written, reads-are}

stepped-over : (hs ts : List Cell) → stepped (hs ++ ts) ≡ stepped hs ++ stepped ts
stepped-over [] ts = refl
stepped-over (h ∷ hs) ts = ap (λ (l : List Cell). step_cell (h.x_n - h.x) h.w ∷ l) (stepped-over hs ts)

module _ {call : Call} (ready : Ready call) (from : 3 ≤ length call.inputs.now) where
  abbrev c : Cell
  c = ink_of call 0

  abbrev d : Cell
  d = ink_of call 1

  abbrev e : Cell
  e = ink_of call 2

  abbrev three : List Cell
  three = first_of call 3

  cube : Proper three
  cube = cells-proper ready 3 from

  module _ (p : Plan) (plan : p ≡ plan_of c d e) where
    pub cube-near : Near p
    cube-near = subst Near (sym plan) (near (c.x_n - c.x) (d.x_n - d.x) (e.x_n - e.x) c.w d.w e.w)

    module _ (hs : List Cell) (n : ℕ) (is : length call.inputs.now ≡ n) (all : hs ++ three ≡ first_of call n) (at : ℕ) (base : at ≡ lows (first_of call n)) where
      abbrev part : List Float
      part = take (length call.table.now - at) (drop at call.table.now)

      parts-are : stepped (first_of call n) ≡ stepped hs ++ stepped three
      parts-are = ap stepped (sym all) ∙ stepped-over hs three

      pub cube-reach : p.far + reach (stepped hs) + call.m ≤ length part
      cube-reach =
          let far = ap (λ (q : Plan). q.far) plan in
          let over = ap reach parts-are ∙ reach-over (stepped hs) (stepped three) in
          omega (arith, far, over, part-reach ready n is at base)

      abbrev pub cube_answers : ℕ → Float
      cube_answers o = above (tetra_of p o) (kept (skip_by call) (stepped hs)) part

      same : (o : ℕ) → o < call.m → cube_answers o ≡ answer_by (skip_by call) call.table.now (first_of call n) o
      same o h =
          above-answer (step_cell (c.x_n - c.x) c.w) (step_cell (d.x_n - d.x) d.w) (step_cell (e.x_n - e.x) e.w) o (tetra_of p o)
          (λ t. ap (λ (q : Plan). tetra_of q o t) plan
          ∙ plan-answers (c.x_n - c.x) (d.x_n - d.x) (e.x_n - e.x) c.w d.w e.w cube.1.1.0.1 cube.1.0.1 cube.0.1 t o)
          (kept (skip_by call) (stepped hs)) part
          ∙ kept-answer (skip_by call) (stepped three) refl o (stepped hs) (at-start-stepped hs) part
          ∙ ap (λ (l : List Cell). answer_by (skip_by call) part l o) (sym parts-are)
          ∙ part-answers ready n is at base o

      pub cube-done : NoNans call.inputs.now n → (f : ℕ → Float) → ((o : ℕ) → f o ≡ cube_answers o) → (old given : List Float) → call.m ≤ length old
          → Gives f (take call.m old) given → SettledBy call old 0 (given ++ drop call.m old)
      cube-done each f are old given room gives =
          cells-done ready n is (all-numbers call.inputs.now n each is) f (λ o h. are o ∙ same o h) old _ (prefix-written f call.m old given room gives)

      pub cube-reads : 6 * 2 ^ active (skip_by call) (weights_of hs) ≡ reads_by call
      cube-reads =
          let ws = weights_of (hs ++ three) in
          let some = length-weights (hs ++ three) ∙ length-append hs three in
          ap (λ (l : List Float). 6 * 2 ^ active (skip_by call) l) (sym (fourth-on hs three refl))
          ∙ sym (reads_three (skip_by call) ws (omega (arith, some)))
          ∙ ap (λ (l : List Cell). reads (skip_by call) (weights_of l)) all
          ∙ reads-are ready n is

-- ---- three inks alone, and four

module _ {call : Call} (ready : Ready call) {p : Plan} {at : ℕ} (cubed : Cubed call p at) where
  module _ (is : length call.inputs.now ≡ 3) where
    some3 : 3 ≤ length call.inputs.now
    some3 = omega arith

    pub three-starts : at + call.m ≤ length call.table.now
    three-starts = part-starts ready 3 is at cubed.base

    pub three-near : Near p × (p.far + call.m ≤ length (take (length call.table.now - at) (drop at call.table.now)))
    three-near = (cube-near ready some3 p cubed.plan, omega (arith, cube-reach ready some3 p cubed.plan [] 3 is refl at cubed.base))

    pub three-done : (old given : List Float) → call.m ≤ length old → Gives (λ o. tetra_of p o (take (length call.table.now - at) (drop at call.table.now))) (take call.m old) given
        → SettledBy call old 0 (given ++ drop call.m old)
    three-done = cube-done ready some3 p cubed.plan [] 3 is refl at cubed.base cubed.numbers _ (λ o. refl)

    pub three-reads : 6 ≡ reads_by call
    three-reads = cube-reads ready some3 p cubed.plan [] 3 is refl at cubed.base

  module _ (is : length call.inputs.now ≡ 4) (h : Cell) (number : is_nan (get_or call.inputs.now 3 nan) ≡ false) (ink : h ≡ ink_of call 3) where
    some4 : 3 ≤ length call.inputs.now
    some4 = omega arith

    all : h ∷ first_of call 3 ≡ first_of call 4
    all = ap (λ (q : Cell). q ∷ first_of call 3) ink

    base : at + h.x ≡ lows (first_of call 4)
    base = let x = ap (λ (q : Cell). q.x) ink in omega (arith, x, cubed.base)

    abbrev upper-part : List Float
    upper-part = take (length call.table.now - (at + h.x)) (drop (at + h.x) call.table.now)

    pub four-starts : at + h.x + call.m ≤ length call.table.now
    four-starts = part-starts ready 4 is (at + h.x) base

    pub four-near : Near p × (p.far + (h.x_n - h.x) + call.m ≤ length upper-part)
    four-near = (cube-near ready some4 p cubed.plan, omega (arith, cube-reach ready some4 p cubed.plan (h ∷ []) 4 is all (at + h.x) base))

    pub four-done : (alone : Bool) → alone ≡ (skip_by call) h.w → (old given : List Float) → call.m ≤ length old
        → Gives (λ o. fourth alone (tetra_of p o upper-part) (tetra_of p o (drop (h.x_n - h.x) upper-part)) h.w) (take call.m old) given
        → SettledBy call old 0 (given ++ drop call.m old)
    four-done alone skipped =
        cube-done ready some4 p cubed.plan (h ∷ []) 4 is all (at + h.x) base (nans-next call.inputs.now 3 cubed.numbers number) _
        (λ o. ap (λ (b : Bool). fourth b (tetra_of p o upper-part) (tetra_of p o (drop (h.x_n - h.x) upper-part)) h.w) skipped
        ∙ fourth-above ((skip_by call) h.w) (h.x_n - h.x) h.w (tetra_of p o) upper-part)

    pub four-reads : (places : ℕ) → places ≡ cond ((skip_by call) h.w) 0 1 → 6 * 2 ^ (3 + places - 3) ≡ reads_by call
    four-reads places taken =
        let back : 3 + places - 3 ≡ places = omega arith in
        ap (λ (k : ℕ). 6 * 2 ^ k) (back ∙ taken) ∙ cube-reads ready some4 p cubed.plan (h ∷ []) 4 is all (at + h.x) base
