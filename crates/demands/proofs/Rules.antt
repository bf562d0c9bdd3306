-- With entries from 0 to 1 every ink may take the rule of inks 1 to 4: the answer is the same, with zeros of both signs counting as equal. The rule of inks 5 and up has
-- another upper node only where the weight is +0.
-- Assumes nothing.
use Prim.Native.Nat.{ℕ, ◌≤◌, ◌<◌}
use mathlib.Core.Path.{◌≡◌, refl, sym, ap, ap₂, ◌∙◌}
use mathlib.Core.Bool.{Bool, true, false, cond}
use mathlib.Core.List.{List, [], ◌∷◌}
use mathlib.Core.Logic.{⊎_elim}
use native.Mathlib.Decide.{dec_le}
use native.Mathlib.Omega.{arith}
use lib.Ieee.{Float, nan}
use lib.ListN.{length, get_or}
use borrow.Author.Tests.{lt-ltb}
use Rattle.binary32.specs.Same.{plain, Same}
use Rattle.binary32.specs.Range.{Share}
use Rattle.binary32.proofs.Units.{Number}
use Rattle.binary32.proofs.Held.{Held, share-held}
use Rattle.binary32.proofs.Signs.{lerp-same}
use Rattle.binary32.proofs.Nodes.{lerp-zero}
use Rattle.cell.specs.declared.Cell.{Cell}
use Rattle.cell.specs.Rule.{cell_low, cell_high, ink_cell}
use Rattle.cell.proofs.Laws.{Alike}
use Rattle.layout.specs.Order.{Within}
use Rattle.lookup.specs.Lookup.{Grid, node, part, lookup, never}
use Rattle.lookup.specs.Table.{cells}
use Rattle.demands.proofs.Each.{All, all_map, Each, each_map, Weights}
use Rattle.lookup.proofs.More.{lookup-more}
use Rattle.demands.proofs.Lookups.{lookup-held}
use Rattle.demands.proofs.InkCells.{Sized, Rule, Sound, cells_by, by-ink, low, low-sound, ink-sound, ink-alike, lows, node-below, length-cells, cells-within, cells-shares}

-- the entries of a grid are from 0 to 1
abbrev pub Shared : List ℕ → Grid → Type 0
Shared gs f = (ks : List ℕ) → Within gs ks → Share (f ks)

-- ---- by any rule: what a lookup in such a grid asks of its cells

module _ (rule : Rule) (sound : Sound rule) (gs : List ℕ) (sized : All Sized gs) (few : length gs ≤ 1000) (f : Grid) (shares : Shared gs f) (xs : List Float) where
  pub entries : Each (λ ks. Held 0 (f ks)) (cells_by rule gs xs)
  entries = each_map (Within gs) (λ ks. Held 0 (f ks)) (cells_by rule gs xs) (λ ks w. share-held (f ks) (shares ks w)) (cells-within rule sound gs xs sized)

  pub weights : Weights (Held 0) (cells_by rule gs xs)
  weights = all_map (λ c. Share c.w) (λ c. Held 0 c.w) (cells_by rule gs xs) (λ c. share-held c.w) (cells-shares rule sound gs xs sized)

  pub few-cells : length (cells_by rule gs xs) ≤ 1000
  few-cells = omega (arith, length-cells rule gs xs)

  number : Number (lookup f (cells_by rule gs xs))
  number = (lookup-held never f (cells_by rule gs xs) few-cells entries weights).number

-- ---- both rules

-- two cells that entries from 0 to 1 cannot tell apart, each above the cells of the other inks: the answers are the same where those in each part are
above : (f : Grid) (g : ℕ) (c d : Cell) (cs ds : List Cell) → Alike c d → 3 ≤ length cs → 3 ≤ length ds
    → ((b : Bool) → node c b < g) → ((b : Bool) → node d b < g)
    → ((k : ℕ) → k < g → Number (lookup (part f k) cs)) → ((k : ℕ) → k < g → Number (lookup (part f k) ds))
    → ((k : ℕ) → k < g → Same (lookup (part f k) cs) (lookup (part f k) ds))
    → Same (lookup f (c ∷ cs)) (lookup f (d ∷ ds))
above f g c d cs ds alike three three' c-in d-in numbers numbers' same =
    let to : (k l : ℕ) → k ≡ l → l < g → Same (lookup (part f k) cs) (lookup (part f l) ds) = λ k l e h. ap (λ (k : ℕ). plain (lookup (part f k) cs)) e ∙ same l h in
    let lower = to c.x d.x alike.lower (d-in false) in
    ap plain (lookup-more never f c cs three)
    ∙ ⊎_elim
    (λ e. lerp-same _ _ _ _ c.w d.w lower (to c.x_n d.x_n e (d-in true)) (ap plain alike.weight))
    (λ z.
    lerp-zero _ _ c.w (numbers c.x (c-in false)) (numbers c.x_n (c-in true)) (ap plain (alike.weight ∙ z))
    ∙ lower
    ∙ sym (lerp-zero _ _ d.w (numbers' d.x (d-in false)) (numbers' d.x_n (d-in true)) (ap plain z)))
    alike.upper
    ∙ sym (ap plain (lookup-more never f d ds three'))

module _ (xs : List Float) where
  -- the first four inks take the rule of inks 1 to 4 anyway
  first-four : (gs : List ℕ) → length gs ≤ 4 → cells_by ink_cell gs xs ≡ lows gs xs
  unfolding ink_cell
  first-four [] h = refl
  first-four (g ∷ gs) h =
      let x = get_or xs (length gs) nan in
      ap₂ (λ (b : Bool) (cs : List Cell). cond b (cell_low x g) (cell_high x g) ∷ cs) (lt-ltb (length gs) 4 h) (first-four gs (omega arith))

  by-low : (gs : List ℕ) → All Sized gs → length gs ≤ 1000 → (f : Grid) → Shared gs f → Same (lookup f (cells_by ink_cell gs xs)) (lookup f (lows gs xs))
  unfolding Within
  by-low [] sized few f shares = refl
  by-low (g ∷ gs) sized few f shares = elim (dec_le 3 (length gs)) [
    | yes three ↦
        let i = length gs in
        let x = get_or xs i nan in
        let byte = sized.0.1 in
        let inside : (k : ℕ) → k < g → Shared gs (part f k) = λ k h ks w. shares (k ∷ ks) (h, w) in
        above f g (ink_cell i g x) (cell_low x g) (cells_by ink_cell gs xs) (lows gs xs) (ink-alike i g x byte)
        (omega (arith, length-cells ink_cell gs xs)) (omega (arith, length-cells low gs xs))
        (node-below g _ sized.0.0 (ink-sound.on-grid i g x byte)) (node-below g _ sized.0.0 (low-sound.on-grid i g x byte))
        (λ k h. number ink_cell ink-sound gs sized.1 (omega arith) (part f k) (inside k h) xs) (λ k h. number low low-sound gs sized.1 (omega arith) (part f k) (inside k h) xs)
        (λ k h. by-low gs sized.1 (omega arith) (part f k) (inside k h))
    | no h ↦ ap (λ (cs : List Cell). plain (lookup f cs)) (first-four (g ∷ gs) (omega arith))
  ]

pub rules-same : (gs : List ℕ) → All Sized gs → length gs ≤ 1000 → (f : Grid) → Shared gs f → (xs : List Float) → Same (lookup f (cells gs xs)) (lookup f (lows gs xs))
rules-same gs sized few f shares xs = ap (λ (cs : List Cell). plain (lookup f cs)) (by-ink gs xs) ∙ by-low xs gs sized few f shares
