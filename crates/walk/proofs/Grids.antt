-- The inks of an accepted layout by their steps: within the table, and the answers are those of the table. Assumes nothing.
use Prim.Native.Nat.{ℕ, zero, suc, ◌+◌, ◌-◌, ◌*◌, ◌^◌, ◌<◌, ◌≤◌}
use native.Mathlib.Omega.{arith}
use native.Mathlib.Nat.{zero-add}
use native.Mathlib.Decide.{dec_lt}
use mathlib.Core.Path.{◌≡◌, refl, ap, sym, subst, ◌∙◌}
use mathlib.Core.Bool.{false}
use mathlib.Core.List.{List, [], ◌∷◌, ◌++◌}
use lib.Ieee.{Float, nan, is_nan}
use lib.ListN.{length, get_or, take, drop, length-drop, length-append, get_or-append}
use lib.Seq.{length-take-le, get_or-drop, get_or-append-add}
use Rattle.binary32.specs.Range.{Below}
use Rattle.lists.specs.Lists.{some}
use Rattle.lists.specs.Buffer.{written}
use Rattle.lists.proofs.Buffer.{written_is}
use Rattle.cell.specs.declared.Cell.{Cell}
use Rattle.lookup.specs.Places.{reach, answer_by, answer, NoNans}
use Rattle.lookup.specs.Idle.{reads, weights_of}
use Rattle.lookup.proofs.Grid.{inks-weights}
use Rattle.lookup.proofs.Part.{from-length}
use Rattle.walk.specs.declared.Axis.{Axis}
use Rattle.walk.specs.Blocks.{Gives}
use Rattle.walk.specs.Steps.{axis, steps_at, stepped, lows, Weighed}
use Rattle.walk.specs.Kept.{kept_at}
use Rattle.walk.specs.declared.Call.{Call}
use Rattle.walk.specs.Calls.{skip_by, reads_by, SettledBy, first_of, inks_of, Ready}
use Rattle.walk.proofs.Reading.{Proper, cells-proper, cells-reach, cells-done, all-numbers}
use Rattle.walk.proofs.Stepping.{stepped-answer, stepped-reach, stepped-weights}
use Rattle.walk.proofs.Kept.{Light, light-kept, reach-kept, at-start-array, kept-answer, kept-reads, three-first}

-- ---- the weights in an array

abbrev first-weight : List Cell → Float
first-weight [] = nan
first-weight (c ∷ cs) = c.w

abbrev others : List Cell → List Cell
others [] = []
others (c ∷ cs) = cs

weighed : (axes : List Axis) (n : ℕ) (cs : List Cell) → Light cs → steps_at axes 0 n ≡ cs → Weighed axes n
weighed axes zero cs light is i h = absurd (omega arith)
weighed axes (suc n) [] light is i h = absurd (let e = ap length is in omega (arith, e))
weighed axes (suc n) (c ∷ cs) light is i h =
    elim (dec_lt i n) [
      | yes low ↦ weighed axes n cs light.1 (ap others is) i low
      | no high ↦
          let last : i ≡ n = omega arith in
          rw last (subst (λ (t : Float). Below 1 t) (sym (ap (λ (k : ℕ). (axis axes k).w) (sym (zero-add n)) ∙ ap first-weight is)) light.0)
    ]

light-steps : (cs : List Cell) → Proper cs → Light (stepped cs)
light-steps [] proper = tt
light-steps (c ∷ cs) proper = (proper.0.1, light-steps cs proper.1)

-- ---- the first m entries of a buffer, lent and given

pub prefix-length : (m : ℕ) (old part : List Float) → m ≤ length old → length part ≡ m → length (part ++ drop m old) ≡ length old
prefix-length m old part room count = length-append part (drop m old) ∙ (let e = length-drop m old in omega (arith, count, e))

pub prefix-written : (f : ℕ → Float) (m : ℕ) (old part : List Float) → m ≤ length old → Gives f (take m old) part → part ++ drop m old ≡ written f m old
prefix-written f m old part room gives =
    written_is f m old (part ++ drop m old) nan room (prefix-length m old part room count)
    (λ k h. get_or-append part (drop m old) nan k (omega (arith, count)) ∙ gives.answers k (subst (λ (n : ℕ). k < n) (sym taken) h))
    (λ k h. let e : k ≡ length part + (k - m) = omega (arith, count) in
    let f : m + (k - m) ≡ k = omega arith in
    ap (λ (i : ℕ). get_or (part ++ drop m old) i nan) e ∙ get_or-append-add part (drop m old) (k - m) nan ∙ get_or-drop m old (k - m) nan ∙ ap (λ (i : ℕ). get_or old i nan) f)
  where
    taken : length (take m old) ≡ m
    taken = length-take-le m old room

    count : length part ≡ m
    count = gives.room ∙ taken

pub prefix-inside : (m : ℕ) (old : List Float) → m ≤ length old → (from most : ℕ) → from + m ≤ most → from + length (take m old) ≤ most
prefix-inside m old room from most fits = rw (length-take-le m old room) fits

-- ---- all inks

module _ {call : Call} (ready : Ready call) (n : ℕ) (is : length call.inputs.now ≡ n) where
  abbrev cs : List Cell
  cs = first_of call n

  proper : Proper cs
  proper = cells-proper ready n (omega arith)

  pub reads-are : reads (skip_by call) (weights_of cs) ≡ reads_by call
  reads-are = ap (reads (skip_by call)) (inks-weights call.filling.now call.sizes.now call.inputs.now call.m ready.laid call.table.now ready.enough n is)

  -- the inks themselves
  pub inks-given : NoNans call.inputs.now n → (inks : List Cell) → inks ≡ cs → (old part : List Float) → call.m ≤ length old → Gives (answer call.table.now inks) (take call.m old) part
      → ((o : ℕ) → answer call.table.now cs o ≡ answer_by (skip_by call) call.table.now cs o) → SettledBy call old 0 (part ++ drop call.m old)
  inks-given each inks are old part room gives same =
      cells-done ready n is (all-numbers call.inputs.now n each is) (answer call.table.now inks) (λ o h. ap (λ (l : List Cell). answer call.table.now l o) are ∙ same o) old _
      (prefix-written (answer call.table.now inks) call.m old part room gives)

  -- the part from the lowest corner on
  module _ (at : ℕ) (base : at ≡ lows cs) where
    abbrev from : List Float
    from = take (length call.table.now - at) (drop at call.table.now)

    pub part-starts : at + call.m ≤ length call.table.now
    part-starts = omega (arith, base, stepped-reach cs proper, cells-reach ready n (omega arith))

    pub part-reach : reach (stepped cs) + call.m ≤ length from
    part-reach = rw from-length (omega (arith, base, stepped-reach cs proper, cells-reach ready n (omega arith)))

    pub part-answers : (o : ℕ) → answer_by (skip_by call) from (stepped cs) o ≡ answer_by (skip_by call) call.table.now cs o
    part-answers o = ap (λ (a : ℕ). answer_by (skip_by call) (take (length call.table.now - a) (drop a call.table.now)) (stepped cs) o) base ∙ stepped-answer (skip_by call) call.table.now cs proper o

    -- the inks in an array, and those of them that are kept
    module _ (axes : List Axis) (steps : steps_at axes 0 n ≡ stepped cs) (three : 3 ≤ n)
        (axes' : List Axis) (r : ℕ) (kept-are : steps_at axes' 0 r ≡ kept_at (skip_by call) axes n) where
      all_are : steps_at axes 3 (n - 3) ++ steps_at axes 0 3 ≡ stepped cs
      all_are = sym (three-first axes n three) ∙ steps

      array-weights : Weighed axes' r
      array-weights =
          weighed axes' r (kept_at (skip_by call) axes n)
          (light-kept (skip_by call) (steps_at axes 3 (n - 3)) (steps_at axes 0 3) (subst Light (sym all_are) (light-steps cs proper)))
          kept-are

      array-reach : reach (steps_at axes' 0 r) + call.m ≤ length from
      array-reach =
          let fewer = reach-kept (skip_by call) (steps_at axes 3 (n - 3)) (steps_at axes 0 3) in
          let these = ap reach kept-are in
          let all = ap reach all_are in
          omega (arith, fewer, these, all, part-reach)

      answers : (o : ℕ) → answer from (steps_at axes' 0 r) o ≡ answer_by (skip_by call) call.table.now cs o
      answers o =
          ap (λ (l : List Cell). answer from l o) kept-are
          ∙ kept-answer (skip_by call) (steps_at axes 0 3) refl o (steps_at axes 3 (n - 3)) (at-start-array axes 3 (n - 3)) from
          ∙ ap (λ (l : List Cell). answer_by (skip_by call) from l o) all_are
          ∙ part-answers o

      array-done : some is_nan call.inputs.now ≡ false → (old part : List Float) → call.m ≤ length old → Gives (answer from (steps_at axes' 0 r)) (take call.m old) part
          → SettledBy call old 0 (part ++ drop call.m old)
      array-done none old part room gives =
          cells-done ready n is none (answer_by (skip_by call) call.table.now cs) (λ o h. refl) old (part ++ drop call.m old)
          (prefix-written (answer_by (skip_by call) call.table.now cs) call.m old part room
          record { room = gives.room; answers = λ o h. gives.answers o h ∙ answers o })

      array-reads : 6 * 2 ^ (r - 3) ≡ reads_by call
      array-reads = sym (kept-reads (skip_by call) axes n three axes' r kept-are) ∙ ap (reads (skip_by call)) (ap weights_of steps ∙ stepped-weights cs) ∙ reads-are

-- all inks in an array, and those of them that are kept: they reach no farther than the call.table.now, and theirs are the answers and the reads
pub record InksKept (call : Call) (at : ℕ) (axes : List Axis) (r : ℕ) : Type 0 where
  pub starts : at + call.m ≤ length call.table.now
  pub weights : Weighed axes r
  pub reaches : reach (steps_at axes 0 r) + call.m ≤ length (take (length call.table.now - at) (drop at call.table.now))
  pub done : (old part : List Float) → call.m ≤ length old → Gives (answer (take (length call.table.now - at) (drop at call.table.now)) (steps_at axes 0 r)) (take call.m old) part
      → SettledBy call old 0 (part ++ drop call.m old)
  pub counted : 6 * 2 ^ (r - 3) ≡ reads_by call

pub inks-kept : {call : Call} → Ready call → 3 ≤ length call.inputs.now
    → (at : ℕ) → (some is_nan call.inputs.now ≡ false) × (at ≡ lows (inks_of call))
    → (axes : List Axis) → (some is_nan call.inputs.now ≡ false → steps_at axes 0 (length call.inputs.now) ≡ stepped (inks_of call))
    → (axes' : List Axis) (r : ℕ) → steps_at axes' 0 r ≡ kept_at (skip_by call) axes (length call.inputs.now) → InksKept call at axes' r
inks-kept {call = call} ready three at lowest axes steps axes' r kept-are =
    record {
      starts = part-starts ready (length call.inputs.now) refl at lowest.1;
      weights = array-weights ready (length call.inputs.now) refl at lowest.1 axes (steps lowest.0) three axes' r kept-are;
      reaches = array-reach ready (length call.inputs.now) refl at lowest.1 axes (steps lowest.0) three axes' r kept-are;
      done = array-done ready (length call.inputs.now) refl at lowest.1 axes (steps lowest.0) three axes' r kept-are lowest.0;
      counted = array-reads ready (length call.inputs.now) refl at lowest.1 axes (steps lowest.0) three axes' r kept-are;
    }

-- and where the answers stand in the first k places, m of them
pub done-to : {call : Call} {at : ℕ} {axes : List Axis} {r : ℕ} → InksKept call at axes r → (k : ℕ) → k ≡ call.m
    → (old part : List Float) → call.m ≤ length old
    → Gives (answer (take (length call.table.now - at) (drop at call.table.now)) (steps_at axes 0 r)) (take k old) part
    → SettledBy call old 0 (part ++ drop k old)
done-to kept k same = rw same kept.done
