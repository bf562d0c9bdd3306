-- What reading an element owes, case by case: `clut-refused`, by the number; `layout-refused`, `units-read`, by what the layout answered;
-- `short-element`, `layout-number`, `data-number`, where the number comes from.
-- `all-passed`, `data-holds`: what the checks give. `clut-is-layout`: the record is a layout's. `clut-number`: the number in the answer;
-- `clut-length`: the buffer's length stays. Assumes nothing.
use Prim.Native.Nat.{ℕ, zero, suc, ◌-◌, ◌*◌, ◌≤◌, ◌<◌}
use native.Mathlib.Omega.{arith}
use mathlib.Core.Path.{◌≡◌, refl, sym, ap, ◌∙◌}
use mathlib.Core.Bool.{true, not}
use mathlib.Core.Logic.{⊎_elim}
use mathlib.Core.List.{List}
use lib.Dec.{ltb}
use lib.Ieee.{Float}
use lib.ListN.{length, get_or, take}
use borrow.Author.Tests.{lt-ltb, le-ltb, ltb-false, not-false}
use Rattle.std.specs.Prelude.{Ok, Err}
use Rattle.outcome.specs.Outcome.{or_else, on_done}
use Rattle.outcome.specs.declared.Refusal.{Refusal}
use Rattle.outcome.specs.Refused.{number_of}
use Rattle.outcome.proofs.Numbers.{not_done}
use Rattle.outcome.proofs.Refused.{refused-first, kept, neither, passed}
use Rattle.lists.specs.Buffer.{left}
use Rattle.lists.proofs.Buffer.{unwritten, length-left}
use Rattle.lists.proofs.Lists.{length-tabulate, tabulate-bytes, one_of, rest-is}
use Rattle.layout.specs.declared.MultidimensionalLut.{MultidimensionalLut}
use Rattle.layout.specs.Layout.{Laid, laid_in, laid_of, refused_by, LaidBy, IsLayout, entries}
use Rattle.layout.proofs.Laws.{first-filling}
use Rattle.layout.proofs.BySizes.{laid-is-layout}
use Rattle.clut.specs.Units.{is_precision, entry_at, data_refusal, UnitsRead}
use Rattle.clut.specs.Clut.{sizes_of, precision_of, data_of, layout_of, total_of, refusal, ClutRead}

module _ (element : List ℕ) (n m : ℕ) where
  module _ (old : List Float) where
    abbrev number : ℕ
    number = refusal element n m (length old)

    -- a refusal k
    pub clut-refused : (k : ℕ) → (k ≡ 0 → ⊥) → k ≡ number → (r : Laid) → r ≡ refused_by k → ClutRead element n m old r old
    clut-refused k refused is r zeros =
        record {
          answer = zeros ∙ ap refused_by is ∙ kept number (layout_of element n m) (refused_by number) refused is;
          table = unwritten number (entry_at (precision_of element) (data_of element)) (total_of element n m) old refused is;
        }

  -- the layout's record is a layout's, where the element's entries are bytes
  pub clut-is-layout : ((i : ℕ) → get_or element i 0 < 256) → (layout_of element n m).refusal ≡ 0 → IsLayout (layout_of element n m).lut
  clut-is-layout each none =
      let byte : ℕ → ℕ = λ i. get_or element i 0 in
      laid-is-layout (sizes_of element) n m none (length-tabulate 16 byte) (tabulate-bytes 16 byte each)

  module _ (room : ℕ) where
    pub short-element : length element < 20 → 13 ≡ refusal element n m room
    unfolding refusal
    short-element h = simp (lt-ltb (length element) 20 h)

    -- an element with a header: the layout's refusal, else that of the data
    with-header : 20 ≤ length element
        → refusal element n m room ≡ or_else (layout_of element n m).refusal (data_refusal (precision_of element) (length (data_of element)) (total_of element n m) room)
    unfolding refusal
    with-header h = simp (le-ltb (length element) 20 h)

    pub layout-number : 20 ≤ length element → ((layout_of element n m).refusal ≡ 0 → ⊥) → (layout_of element n m).refusal ≡ refusal element n m room
    layout-number h refused = refused-first (layout_of element n m).refusal _ refused refl ∙ sym (with-header h)

    pub data-number : 20 ≤ length element → (layout_of element n m).refusal ≡ 0
        → data_refusal (precision_of element) (length (data_of element)) (total_of element n m) room ≡ refusal element n m room
    data-number h none = sym (with-header h ∙ ap (λ (k : ℕ). or_else k (data_refusal (precision_of element) (length (data_of element)) (total_of element n m) room)) none)

    -- no refusal at all
    pub all-passed : refusal element n m room ≡ 0
        → ((layout_of element n m).refusal ≡ 0) × (data_refusal (precision_of element) (length (data_of element)) (total_of element n m) room ≡ 0)
    unfolding refusal
    all-passed e =
        neither (layout_of element n m).refusal (data_refusal (precision_of element) (length (data_of element)) (total_of element n m) room)
        (passed (ltb (length element) 20) 13 _ (λ z. omega arith) e).1

-- ---- what the layout of the element's sizes answered

module _ (element : List ℕ) (n m : ℕ) (old : List Float) (long : 20 ≤ length element)
    (sizes : List ℕ) (its : sizes ≡ sizes_of element) where
  -- a refusal
  pub layout-refused : (e : Refusal) → LaidBy sizes n m (laid_in (Err e)) → ClutRead element n m old (laid_in (Err e)) old
  unfolding refused_by
  layout-refused e laid =
      let number : number_of e ≡ (layout_of element n m).refusal = λ i. ((laid.answer ∙ ap (λ (s : List ℕ). laid_of s n m) its) i).refusal in
      clut-refused element n m old (number_of e) (not_done e)
      (number ∙ layout-number element n m (length old) long (λ z. not_done e (number ∙ z))) _ refl

  -- a record: then what `read_units` answered, k, of as many values as entries
  pub units-read : (lut : MultidimensionalLut) → LaidBy sizes n m (laid_in (Ok lut)) → (count k : ℕ) (now : List Float)
      → count ≡ get_or lut.grid_filling_size 0 0 * get_or lut.grid_sizes 0 0
      → UnitsRead (take (length element - 20) (data_of element)) (precision_of element) count old k now
      → (r : Laid) → r ≡ on_done k (laid_in (Ok lut)) (refused_by k) → ClutRead element n m old r now
  units-read lut by count k now counted units r answer =
      let laid : laid_in (Ok lut) ≡ layout_of element n m = by.answer ∙ ap (λ (s : List ℕ). laid_of s n m) its in
      let total : count ≡ total_of element n m = counted ∙ first-filling lut (by.accepted refl) ∙ ap (λ (l : Laid). entries l.lut) laid in
      let number : k ≡ refusal element n m (length old) =
      units.number
      ∙ (λ i. data_refusal (precision_of element) (length (rest-is 20 element i)) (total i) (length old))
      ∙ data-number element n m (length old) long (ap (λ (l : Laid). l.refusal) (sym laid)) in
      record {
        answer = answer ∙ (λ i. on_done (number i) (laid i) (refused_by (number i)));
        table = units.entries ∙ (λ i. left (number i) (entry_at (precision_of element) (rest-is 20 element i)) (total i) old);
      }

-- the number in an answer: of a layout where nothing is refused
answer-number : (k : ℕ) (laid : Laid) → (k ≡ 0 → laid.refusal ≡ 0) → (on_done k laid (refused_by k)).refusal ≡ k
unfolding refused_by
answer-number zero laid done = done refl
answer-number (suc k) laid done = refl

pub clut-number : (element : List ℕ) (n m : ℕ) (old : List Float) (r : Laid) (now : List Float) → ClutRead element n m old r now → r.refusal ≡ refusal element n m (length old)
clut-number element n m old r now read =
    ap (λ (l : Laid). l.refusal) read.answer
    ∙ answer-number (refusal element n m (length old)) (layout_of element n m) (λ e. (all-passed element n m (length old) e).0)

pub clut-length : (element : List ℕ) (n m : ℕ) (old : List Float) (r : Laid) (now : List Float) → ClutRead element n m old r now → length now ≡ length old
clut-length element n m old r now read = ap length read.table ∙ length-left (refusal element n m (length old)) _ _ old

-- ---- what the checks of the data give

pub precise : (p : ℕ) → is_precision p ≡ true → (1 ≤ p) × (p ≤ 2)
unfolding is_precision
precise p h = ⊎_elim (λ e. (omega arith, omega arith)) (λ e. (omega arith, omega arith)) (one_of p 1 2 h)

pub data-holds : (precision bytes total room : ℕ) → data_refusal precision bytes total room ≡ 0
    → ((1 ≤ precision) × (precision ≤ 2)) × ((precision * total ≤ bytes) × (total ≤ room))
unfolding data_refusal
data-holds precision bytes total room e =
    let known = passed (not (is_precision precision)) 14 _ (λ z. omega arith) e in
    let long = passed (ltb bytes (precision * total)) 15 _ (λ z. omega arith) known.1 in
    let wide = passed (ltb room total) 8 0 (λ z. omega arith) long.1 in
    (precise precision (not-false _ known.0), (ltb-false _ _ long.0, ltb-false _ _ wide.0))
