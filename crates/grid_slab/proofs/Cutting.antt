-- What a cut's checks give: `checked-passed`, `passed-done`; its runs: `can-cut`, `runs_fit`, `runs-slab`; and what a cut gives that was not
-- refused: `cut-passed`, what was asked for; `cut-entry`, the buffer holds the slab; `cut-exact`, one of that length is the slab.
-- `slab-cut-length`: the buffer's length stays. Assumes nothing.
use Prim.Native.Nat.{ℕ, ◌-◌, ◌*◌, ◌/◌, ◌≤◌, ◌<◌}
use mathlib.Core.Path.{◌≡◌, refl, sym, ap, ◌∙◌, subst}
use mathlib.Core.Bool.{true, false, not, ◌||◌}
use mathlib.Core.List.{List}
use native.Mathlib.Nat.{mul_comm, mul_assoc, mul-pos, mul-div_cancel, le-mul_of_pos_right}
use native.Mathlib.Omega.{arith}
use lib.Dec.{ltb, eqb}
use lib.Ieee.{Float, nan}
use lib.Ieee.Positive.{first_pos}
use lib.ListN.{length, get_or}
use lib.Seq.{ext_get_or}
use Rattle.std.proofs.lemmas.Bool.Decides.{nat_tests}
use borrow.Author.Tests.{not-false, ltb-true, ltb-false, le-leb, lt-ltb, le-ltb, ne_eqb}
use Rattle.outcome.proofs.Refused.{passed}
use Rattle.lists.specs.Buffer.{written}
use Rattle.lists.proofs.Lists.{product-pos}
use Rattle.lists.proofs.Buffer.{length-left, written_at, written_same}
use Rattle.layout.specs.declared.MultidimensionalLut.{MultidimensionalLut}
use Rattle.layout.specs.Layout.{limit, IsLayout, ink_sizes, entries}
use Rattle.layout.proofs.Laws.{outputs-from, entries_fit, sizes-above, filling-after}
use Rattle.grid_slab.specs.Slab.{size_of, fewer, slab, is_ink, refusal, SlabCut}
use Rattle.grid_slab.specs.Runs.{run_of, turns_of, runs_of, cut_entry, CanCut, Fit, Checked}
use Rattle.grid_slab.proofs.Slabs.{slab-length, table-turns, slab-turns, slab-place}

pub slab-cut-length : (lut : MultidimensionalLut) (table : List Float) (j k : ℕ) (old : List Float) (r : ℕ) (now : List Float)
    → SlabCut lut table j k old r now → length now ≡ length old
slab-cut-length lut table j k old r now cut = ap length cut.entries ∙ length-left r _ _ old

-- what a cut that is not refused has passed
pub record Passed (lut : MultidimensionalLut) (table j k room : ℕ) : Type 0 where
  pub is : IsLayout lut
  pub enough : entries lut ≤ table
  pub from : 1 ≤ j
  pub to : j ≤ lut.input_inks
  pub two : 2 ≤ lut.input_inks
  pub in-grid : k < size_of lut j
  pub holds : entries (fewer lut j) ≤ room

pub is-ink : (j n : ℕ) → is_ink j n ≡ true → (1 ≤ j) × (j ≤ n)
unfolding is_ink
is-ink j n ink = (grind (arith, nat_tests), grind (arith, nat_tests))

-- where the test of 11 fails
may-cut : (j n : ℕ) → (not (is_ink j n) || eqb n 1) ≡ false → (1 ≤ j) × (j ≤ n) × (2 ≤ n)
unfolding is_ink
may-cut j n e = (grind (arith, nat_tests), grind (arith, nat_tests), grind (arith, nat_tests))

pub checked-passed : (lut : MultidimensionalLut) (table j k room r : ℕ) → Checked lut table j k room r → r ≡ 0 → Passed lut table j k room
unfolding refusal
checked-passed lut table j k room r checked none =
    let n = lut.input_inks in
    let laid = passed (not checked.laid) 9 _ (λ z. omega arith) (sym checked.number ∙ none) in
    let long = passed (ltb table (entries lut)) 6 _ (λ z. omega arith) laid.1 in
    let ink = passed (not (is_ink j n) || eqb n 1) 11 _ (λ z. omega arith) long.1 in
    let line = passed (not (ltb k (size_of lut j))) 12 _ (λ z. omega arith) ink.1 in
    let wide = passed (ltb room (entries (fewer lut j))) 8 0 (λ z. omega arith) line.1 in
    let counts = may-cut j n ink.0 in
    record {
      is = checked.decides.holds (not-false _ laid.0);
      enough = ltb-false _ _ long.0;
      from = counts.0;
      to = counts.1;
      two = counts.2;
      in-grid = ltb-true _ _ (not-false _ line.0);
      holds = ltb-false _ _ wide.0;
    }

-- and what has passed all that is not refused
pub passed-done : (lut : MultidimensionalLut) (table j k room r : ℕ) → Passed lut table j k room → Checked lut table j k room r → r ≡ 0
unfolding refusal is_ink
passed-done lut table j k room r p checked =
    let more : eqb lut.input_inks 1 ≡ false = ne_eqb lut.input_inks 1 (λ e. omega (arith, e, p.two)) in
    checked.number
    ∙ simp (checked.decides.found p.is, le-ltb _ _ p.enough, le-leb 1 j p.from, le-leb _ _ p.to, more, lt-ltb _ _ p.in-grid, le-ltb _ _ p.holds)

-- ---- what it copies: in turns of ink j

module _ (lut : MultidimensionalLut) (j : ℕ) (can : CanCut lut j) where
  entries-some : 0 < entries lut
  entries-some = mul-pos (product-pos (ink_sizes lut) (sizes-above lut can.is)) (outputs-from lut can.is)

  -- the entries of a run, as the record has them
  abbrev pub filling : ℕ
  filling = get_or lut.grid_filling_size (j - 1) 0

  pub run_is : filling ≡ run_of lut j
  run_is = filling-after lut can.is j can.from can.to

  -- those of a turn
  abbrev pub turn : ℕ
  turn = filling * size_of lut j

  whole-turns : entries lut ≡ turns_of lut j * turn
  whole-turns =
      table-turns lut can.is can.two j can.from can.to
      ∙ mul_assoc (turns_of lut j) (size_of lut j) (run_of lut j)
      ∙ ap (λ (x : ℕ). turns_of lut j * x) (mul_comm (size_of lut j) (run_of lut j))
      ∙ (λ i. turns_of lut j * (sym run_is i * size_of lut j))

  pub turn-some : 0 < turn
  turn-some = first_pos turn (turns_of lut j) (omega (arith, mul_comm (turns_of lut j) turn, whole-turns, entries-some))

  turns-some : 0 < turns_of lut j
  turns-some = first_pos (turns_of lut j) turn (omega (arith, whole-turns, entries-some))

  -- a turn's entries are a number of 32 bits
  pub turn-within : run_of lut j * size_of lut j ≤ limit
  turn-within =
      let within : turn ≤ limit = omega (arith, le-mul_of_pos_right turn turns-some, mul_comm (turns_of lut j) turn, whole-turns, entries_fit lut can.is) in
      subst (λ (run : ℕ). run * size_of lut j ≤ limit) run_is within

  pub turns-are : entries lut / turn ≡ turns_of lut j
  turns-are = ap (λ (x : ℕ). x / turn) whole-turns ∙ mul-div_cancel (turns_of lut j) turn-some

module _ (lut : MultidimensionalLut) (table j k room : ℕ) (p : Passed lut table j k room) where
  pub can-cut : CanCut lut j
  can-cut = record { is = p.is; from = p.from; to = p.to; two = p.two }

  pub runs_fit : Fit table room (runs_of lut j k)
  runs_fit =
      record {
        some = subst (λ (run : ℕ). 1 ≤ run) (run_is lut j can-cut) (first_pos (filling lut j can-cut) (size_of lut j) (turn-some lut j can-cut));
        on_line = p.in-grid;
        held = omega (arith, table-turns lut p.is p.two j p.from p.to, p.enough);
        room = omega (arith, slab-turns lut p.is p.two j p.from p.to, p.holds);
      }

module _ (lut : MultidimensionalLut) (table : List Float) (j k : ℕ) (old : List Float) where
  -- the runs make the slab
  pub runs-slab : Passed lut (length table) j k (length old)
      → written (cut_entry table (runs_of lut j k)) (turns_of lut j * run_of lut j) old ≡ written (λ e. get_or (slab lut table j k) e nan) (entries (fewer lut j)) old
  runs-slab p =
      ap (λ (n : ℕ). written (cut_entry table (runs_of lut j k)) n old) (sym (slab-turns lut p.is p.two j p.from p.to))
      ∙ written_same _ _ (entries (fewer lut j)) old (λ e l. sym (slab-place lut p.is p.two j p.from p.to k p.in-grid table e l))

  -- ---- a cut that was not refused
  module _ (now : List Float) (cut : SlabCut lut table j k old 0 now) where
    pub cut-passed : Passed lut (length table) j k (length old)
    cut-passed = checked-passed lut (length table) j k (length old) 0 (record { laid = cut.laid; decides = cut.decides; number = cut.number }) refl

    -- the buffer's first entries are the slab's
    pub cut-entry : (e : ℕ) → e < entries (fewer lut j) → get_or now e nan ≡ get_or (slab lut table j k) e nan
    cut-entry e l =
        ap (λ (xs : List Float). get_or xs e nan) cut.entries
        ∙ written_at (λ e. get_or (slab lut table j k) e nan) (entries (fewer lut j)) old e nan l cut-passed.holds

    -- and where it has no more, it is the slab
    pub cut-exact : length old ≡ entries (fewer lut j) → now ≡ slab lut table j k
    cut-exact e =
        let p = cut-passed in
        let long : length now ≡ entries (fewer lut j) = slab-cut-length lut table j k old 0 now cut ∙ e in
        ext_get_or nan now (slab lut table j k) (long ∙ sym (slab-length lut p.is p.two j p.from p.to k p.in-grid table)) (λ i l. cut-entry i (omega (arith, long)))
