-- A cube method on a table of three inks: the corners of three cells, what is refused, and what a call leaves in the answer buffer. Definitions only.
use Rattle.std.specs.Prelude.{ℕ, ◌+◌, ◌*◌, ◌≡◌, Bool, cond, not, ◌&&◌, ◌||◌, List, [], ◌∷◌, ltb, eqb, Float, length, get_or}
use Rattle.std.specs.Float.{nan}
use Rattle.lists.specs.Buffer.{left}
use Rattle.cell.specs.declared.Cell.{Cell}
pub use Rattle.cell.specs.Rule.{node}
use Rattle.layout.specs.Order.{index}
use Rattle.layout.specs.Layout.{total}
use Rattle.cubes.specs.Blends.{Eight, Blend}

-- three inks of one size
abbrev pub sizes : ℕ → List ℕ
sizes g = g ∷ g ∷ g ∷ []

-- where the m entries of a corner's node start: nodes in ICC.1's order, coordinates last ink first
abbrev pub starts : Cell → Cell → Cell → ℕ → ℕ → Eight ℕ
starts cx cy cz g m i j k = index (sizes g) (node cz k ∷ node cy j ∷ node cx i ∷ []) * m

-- one output of the corners, whose entries start at p
abbrev pub entries_at : Eight ℕ → List Float → ℕ → Eight Float
entries_at p cube output i j k = get_or cube (p i j k + output) nan

-- the answer at an output
unfoldable pub answer_at : Blend → Cell → Cell → Cell → ℕ → ℕ → List Float → ℕ → Float
answer_at blend cx cy cz g m cube output = blend (entries_at (starts cx cy cz g m) cube output) cx.w cy.w cz.w

-- both nodes are among the lines 0 to g - 1
unfoldable pub on_grid : Cell → ℕ → Bool
on_grid c g = ltb c.x g && ltb c.x_n g

-- 2 m is not 3 or 4, 3 the size is 0, 6 a short table, 8 a short answer buffer, 10 a node past the last line: the first that applies, and 0 where none does
unfoldable pub refusal : Cell → Cell → Cell → ℕ → ℕ → ℕ → ℕ → ℕ
refusal cx cy cz g m entries room =
    cond (not (eqb m 3 || eqb m 4)) 2
    (cond (eqb g 0) 3
    (cond (ltb entries (total (sizes g) m)) 6
    (cond (ltb room m) 8
    (cond (not (on_grid cx g && on_grid cy g && on_grid cz g)) 10
    0))))

-- what a cube method owes: its number r, and the answer buffer afterwards, `now`, which was `old`
pub record Blended (blend : Blend) (cx cy cz : Cell) (g m : ℕ) (cube old : List Float) (r : ℕ) (now : List Float) : Type 0 where
  pub number : r ≡ refusal cx cy cz g m (length cube) (length old)
  pub entries : now ≡ left r (answer_at blend cx cy cz g m cube) m old
