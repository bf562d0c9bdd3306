-- Document 02, E6, of the lookup that skips weights of 0: its answers beside another rule's, and how many nodes it reads. Definitions only.
use Rattle.std.specs.Prelude.{ℕ, ◌*◌, ◌^◌, ◌≤◌, ◌<◌, ◌≡◌, Bool, List, Float}
use Rattle.binary32.specs.Same.{Same}
use Rattle.layout.specs.declared.MultidimensionalLut.{MultidimensionalLut}
use Rattle.layout.specs.Layout.{IsLayout, entries}
use Rattle.lookup.specs.Idle.{fourth_on, active}
use Rattle.demands.specs.Demand.{Answer, Shares}

-- two rules give the same answers, for every accepted layout and every table whose entries are from 0 to 1
abbrev pub SameAnswers : Answer → Answer → Type 0
SameAnswers first second = (lut : MultidimensionalLut) → IsLayout lut → (table : List Float) → Shares table (entries lut)
    → (xs : List Float) (o : ℕ) → o < lut.output_inks → Same (first lut table xs o) (second lut table xs o)

-- the count of reads of n inks, whose weights are ws, last ink first: 2 for one ink, 4 for two; for three and more 6 times 2 to the
-- power k, with k the number of inks from the fourth on whose weight is not skipped
pub record ReadsOf (skip : Float → Bool) (n : ℕ) (ws : List Float) (count : ℕ) : Type 0 where
  pub one : n ≡ 1 → count ≡ 2
  pub two : n ≡ 2 → count ≡ 4
  pub more : 3 ≤ n → count ≡ 6 * 2 ^ active skip (fourth_on ws)

-- no count is above
abbrev pub most_reads : ℕ
most_reads = 24_576
