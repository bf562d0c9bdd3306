-- Document 02, E2: the CLUT element of ICC.1's lutAToBType, and what reading it answers. Definitions only.
use Rattle.std.specs.Prelude.{ℕ, ◌≡◌, cond, List, Float, ltb, length, get_or, drop}
use Rattle.outcome.specs.Outcome.{or_else, on_done}
use Rattle.lists.specs.Buffer.{left}
use Rattle.lists.specs.Bytes.{first_sixteen}
use Rattle.layout.specs.Layout.{Laid, laid_of, refused_by, entries}
use Rattle.clut.specs.Units.{entry_at, data_refusal}

-- Sixteen grid sizes, a precision byte, three bytes of padding, then the data. A byte that is missing counts as 0.
abbrev pub sizes_of : List ℕ → List ℕ
sizes_of element = first_sixteen element

abbrev pub precision_of : List ℕ → ℕ
precision_of element = get_or element 16 0

abbrev pub data_of : List ℕ → List ℕ
data_of element = drop 20 element

-- the layout of the element's sizes, and its total
abbrev pub layout_of : List ℕ → ℕ → ℕ → Laid
layout_of element n m = laid_of (sizes_of element) n m

abbrev pub total_of : List ℕ → ℕ → ℕ → ℕ
total_of element n m = entries (layout_of element n m).lut

-- 13, 1, 2, 3, 5, 14, 15, 8
unfoldable pub refusal : List ℕ → ℕ → ℕ → ℕ → ℕ
refusal element n m room =
    cond (ltb (length element) 20) 13
    (or_else (layout_of element n m).refusal
    (data_refusal (precision_of element) (length (data_of element)) (total_of element n m) room))

-- what `read_clut` owes: its answer r, the layout's or a refusal with a record of zeros, and the buffer afterwards, `now`, which was `old`
pub record ClutRead (element : List ℕ) (n m : ℕ) (old : List Float) (r : Laid) (now : List Float) : Type 0 where
  pub answer : r ≡ on_done (refusal element n m (length old)) (layout_of element n m) (refused_by (refusal element n m (length old)))
  pub table : now ≡ left (refusal element n m (length old)) (entry_at (precision_of element) (data_of element)) (total_of element n m) old
