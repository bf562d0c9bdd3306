-- The inputs read one by one: their cells as long as each is a number, and that one is none. Assumes nothing.
use Prim.Native.Nat.{ℕ, zero, suc, ◌+◌, ◌<◌, ◌≤◌}
use native.Mathlib.Omega.{arith}
use native.Mathlib.Nat.{mul-le-mul_right}
use native.Mathlib.Decide.{dec_le}
use mathlib.Core.Path.{◌≡◌, refl, sym, ap, subst, ◌∙◌}
use mathlib.Core.Bool.{Bool, true, false, cond}
use mathlib.Core.List.{List, [], ◌∷◌}
use lib.Ieee.{Float, nan, is_nan}
use lib.ListN.{length, get_or}
use borrow.Author.Count.{below_more}
use Rattle.outcome.specs.declared.Refusal.{Refusal}
use Rattle.outcome.specs.declared.Refusal.TheVariants.{NanInput}
use Rattle.outcome.specs.Refused.{number_of}
use Rattle.binary32.specs.Range.{Below}
use Rattle.lists.specs.Lists.{some}
use Rattle.lists.specs.Buffer.{written}
use Rattle.lists.proofs.Lists.{some_at, some-none}
use Rattle.lists.proofs.Buffer.{written_same}
use Rattle.cell.specs.declared.Cell.{Cell}
use Rattle.cell.proofs.Laws.{ink-on-grid}
use Rattle.lookup.specs.Places.{placed_ink, first_inks, answer_by, reach, NoNans, Settled}
use Rattle.lookup.proofs.Grid.{inks-reach, inks-done}
use Rattle.walk.specs.declared.Call.{Call}
use Rattle.walk.specs.Calls.{skip_by, SettledBy, ink_of, first_of, Ready}

-- each lower node is no farther than the upper one, and each weight is from 0 up and below 1
abbrev pub Proper : List Cell → Type 0
Proper [] = Unit {0}
Proper (c ∷ cs) = ((c.x ≤ c.x_n) × Below 1 c.w) × Proper cs

-- ---- numbers

module _ (xs : List Float) where
  pub no_nans : NoNans xs 0
  no_nans i h = absurd (omega arith)

  pub nans-next : (k : ℕ) → NoNans xs k → is_nan (get_or xs k nan) ≡ false → NoNans xs (k + 1)
  nans-next k before here = below_more (λ i. is_nan (get_or xs i nan) ≡ false) k before here

  pub all-numbers : (k : ℕ) → NoNans xs k → length xs ≡ k → some is_nan xs ≡ false
  all-numbers k each is = some-none is_nan nan xs (subst (NoNans xs) (sym is) each)

  pub nan-at : (k : ℕ) → k < length xs → is_nan (get_or xs k nan) ≡ true → some is_nan xs ≡ true
  nan-at k less one = some_at is_nan nan xs k less one

-- for `using`: where one is met, some is
pub ruleset nans = (nan-at)

-- ---- what is owed where one input is NaN, and where none is

module _ (xs : List Float) (f : ℕ → Float) (m : ℕ) (old : List Float) where
  pub settled-nan : (e : Refusal) → some is_nan xs ≡ true → e ≡ NanInput → Settled f m xs old (number_of e) old
  settled-nan e one is = rw is (record { number = sym (ap (λ (b : Bool). cond b 16 0) one); entries = refl })

  settled-done : some is_nan xs ≡ false → (now : List Float) → now ≡ written f m old → Settled f m xs old 0 now
  settled-done none now w = record { number = sym (ap (λ (b : Bool). cond b 16 0) none); entries = w }

-- ---- what all cells are

module _ (filling sizes : List ℕ) (xs : List Float) where
  ordered-ink : (i : ℕ) → get_or sizes i 0 < 256 → (placed_ink filling sizes xs i).x ≤ (placed_ink filling sizes xs i).x_n
  ordered-ink i byte = mul-le-mul_right (get_or filling i 0) (ink-on-grid (get_or xs i nan) (get_or sizes i 0) byte i).ordered

  inks-proper : (n : ℕ) → ((i : ℕ) → i < n → get_or sizes i 0 < 256) → Proper (first_inks filling sizes xs n)
  inks-proper zero bytes = tt
  inks-proper (suc n) bytes =
      let byte = bytes n (omega arith) in
      ((ordered-ink n byte, (ink-on-grid (get_or xs n nan) (get_or sizes n 0) byte n).weight), inks-proper n (λ i h. bytes i (omega arith)))

  pub reach-grows : (i n : ℕ) → i ≤ n → reach (first_inks filling sizes xs i) ≤ reach (first_inks filling sizes xs n)
  reach-grows i zero h = let z : i ≡ 0 = omega arith in rw z (omega arith)
  reach-grows i (suc n) h =
      elim (dec_le i n) [
        | yes less ↦ omega (arith, reach-grows i n less)
        | no more ↦ let e : i ≡ suc n = omega arith in rw e (omega arith)
      ]

-- the first k inks of a call
module _ {call : Call} (ready : Ready call) (k : ℕ) where
  abbrev cs : List Cell
  cs = first_of call k

  pub cells-proper : k ≤ length call.inputs.now → Proper cs
  cells-proper few = inks-proper call.filling.now call.sizes.now call.inputs.now k (λ i h. (ready.laid.narrow i (omega arith)).1)

  pub cells-reach : k ≤ length call.inputs.now → reach cs + call.m ≤ length call.table.now
  cells-reach few =
      let all = inks-reach call.filling.now call.sizes.now call.inputs.now call.m ready.laid call.table.now ready.enough (length call.inputs.now) refl (first_of call (length call.inputs.now)) refl in
      omega (arith, all, reach-grows call.filling.now call.sizes.now call.inputs.now k (length call.inputs.now) few)

  pub cells-done : length call.inputs.now ≡ k → some is_nan call.inputs.now ≡ false → (f : ℕ → Float) → ((o : ℕ) → o < call.m → f o ≡ answer_by (skip_by call) call.table.now cs o)
      → (old now : List Float) → now ≡ written f call.m old
      → SettledBy call old 0 now
  cells-done is none f same old now w =
      settled-done call.inputs.now _ call.m old none now
      (inks-done call.filling.now call.sizes.now call.inputs.now call.m ready.laid call.table.now ready.enough k is (skip_by call) cs refl old now (w ∙ written_same f (answer_by (skip_by call) call.table.now cs) call.m old same))

module _ {call : Call} (ready : Ready call) where
  pub ink-ordered : (k : ℕ) → k < length call.inputs.now → (c : Cell) → c ≡ ink_of call k → c.x ≤ c.x_n
  ink-ordered k less c is = rw is (ordered-ink call.filling.now call.sizes.now call.inputs.now k (ready.laid.narrow k less).1)

  -- the cells of the first inks lie within the call.table.now
  pub one-inside : (c : Cell) → c ≡ ink_of call 0 → c.x_n + call.m ≤ length call.table.now
  one-inside c is = rw is (omega (arith, cells-reach ready 1 ready.laid.inks-from))

  pub two-inside : 2 ≤ length call.inputs.now → (c d : Cell) → c ≡ ink_of call 0 → d ≡ ink_of call 1 → d.x_n + c.x_n + call.m ≤ length call.table.now
  two-inside from c d is also = rw (is, also) (omega (arith, cells-reach ready 2 from))

  pub three-inside : 3 ≤ length call.inputs.now → (c d e : Cell) → c ≡ ink_of call 0 → d ≡ ink_of call 1 → e ≡ ink_of call 2
      → (c.x + d.x + e.x ≤ length call.table.now) × (c.x_n + d.x_n + e.x_n ≤ length call.table.now)
  three-inside from c d e is also last = rw (is, also, last) (omega (arith, cells-reach ready 3 from), omega (arith, cells-reach ready 3 from))
