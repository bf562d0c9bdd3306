-- The cells of the inputs, for any sizes from 1 to 255. By either rule they lie within the grid and their weights are from 0 to 1. With the rule of inks 1 to 4 for
-- every ink, an ink on a grid line has that line and a weight of +0, and leaving one ink out leaves out its cell.
-- Assumes nothing.
use Prim.Native.Nat.{ℕ, zero, suc, ◌+◌, ◌-◌, ◌≤◌, ◌<◌}
use mathlib.Core.Path.{◌≡◌, refl, sym, ap, ap₂, ◌∙◌}
use mathlib.Core.Bool.{Bool, true, false}
use mathlib.Core.List.{List, [], ◌∷◌, reverse}
use mathlib.Core.Logic.{inl}
use native.Mathlib.Nat.{le_refl}
use native.Mathlib.Omega.{arith}
use lib.Ieee.{Float, nan}
use lib.ListN.{length, get_or, take}
use lib.Seq.{take-length}
use Rattle.binary32.specs.Numbers.{plus_zero}
use Rattle.binary32.specs.Range.{Share}
use Rattle.cell.specs.declared.Cell.{Cell}
use Rattle.cell.specs.Rule.{OnGrid, line, product_of, cell_low, cell_high, ink_cell}
use Rattle.cell.proofs.Laws.{Alike, rules-alike, low-on-grid, high-on-grid, low-share, high-share, low-line, product-line}
use Rattle.lists.proofs.Lists.{reverse-next}
use Rattle.layout.specs.Order.{Within}
use Rattle.lookup.specs.Lookup.{node}
use Rattle.lookup.specs.Table.{cells}
use Rattle.grid_slab.specs.Slab.{without}
use Rattle.demands.proofs.Each.{either_way, All, Each, each_map, Weights, lowers}
use Rattle.grid_slab.proofs.Without.{length_without, get_or-without-below, get_or-without-from}

-- a size that a layout accepts
abbrev pub Sized : ℕ → Type 0
Sized g = (0 < g) × (g < 256)

-- ---- the cells by any rule for ink i, counted from 0

abbrev pub Rule : Type 0
Rule = ℕ → ℕ → Float → Cell

abbrev pub cells_by : Rule → List ℕ → List Float → List Cell
cells_by rule [] xs = []
cells_by rule (g ∷ gs) xs = rule (length gs) g (get_or xs (length gs) nan) ∷ cells_by rule gs xs

pub by-ink : (gs : List ℕ) (xs : List Float) → cells gs xs ≡ cells_by ink_cell gs xs
unfolding cells
by-ink [] xs = refl
by-ink (g ∷ gs) xs = ap (λ (cs : List Cell). ink_cell (length gs) g (get_or xs (length gs) nan) ∷ cs) (by-ink gs xs)

pub length-cells : (rule : Rule) (gs : List ℕ) (xs : List Float) → length (cells_by rule gs xs) ≡ length gs
length-cells rule [] xs = refl
length-cells rule (g ∷ gs) xs = ap suc (length-cells rule gs xs)

-- the rule of inks 1 to 4
abbrev pub low : Rule
low i g x = cell_low x g

pub node-below : (g : ℕ) (c : Cell) → 0 < g → OnGrid (g - 1) c → (b : Bool) → node c b < g
node-below g c some on true = omega arith
node-below g c some on false = omega arith

-- a rule whose cells lie within the grid, with weights from 0 to 1
pub record Sound (rule : Rule) : Type 0 where
  pub on-grid : (i g : ℕ) (x : Float) → g < 256 → OnGrid (g - 1) (rule i g x)
  pub share : (i g : ℕ) (x : Float) → g < 256 → Share (rule i g x).w

module _ (rule : Rule) (sound : Sound rule) where
  pub cells-within : (gs : List ℕ) (xs : List Float) → All Sized gs → Each (Within gs) (cells_by rule gs xs)
  unfolding Within
  cells-within [] xs s = tt
  cells-within (g ∷ gs) xs s = λ b.
      let x = get_or xs (length gs) nan in
      let c = rule (length gs) g x in
      each_map (Within gs) (λ ks. Within (g ∷ gs) (node c b ∷ ks)) (cells_by rule gs xs) (λ ks w. (node-below g c s.0.0 (sound.on-grid (length gs) g x s.0.1) b, w)) (cells-within gs xs s.1)

  pub cells-shares : (gs : List ℕ) (xs : List Float) → All Sized gs → Weights Share (cells_by rule gs xs)
  cells-shares [] xs s = tt
  cells-shares (g ∷ gs) xs s = (sound.share (length gs) g (get_or xs (length gs) nan) s.0.1, cells-shares gs xs s.1)

pub low-sound : Sound low
low-sound = record { on-grid = λ i g x byte. low-on-grid x g byte; share = λ i g x byte. low-share x g byte }

-- what holds by both rules
by-rule : (P : Cell → Type 0) (i g : ℕ) (x : Float) → P (cell_low x g) → P (cell_high x g) → P (ink_cell i g x)
unfolding ink_cell
by-rule P i g x p q = search (either_way P)

pub ink-sound : Sound ink_cell
ink-sound =
    record {
      on-grid = λ i g x byte. by-rule (OnGrid (g - 1)) i g x (low-on-grid x g byte) (high-on-grid x g byte);
      share = λ i g x byte. by-rule (λ c. Share c.w) i g x (low-share x g byte) (high-share x g byte);
    }

pub ink-alike : (i g : ℕ) (x : Float) → g < 256 → Alike (ink_cell i g x) (cell_low x g)
ink-alike i g x byte = by-rule (λ c. Alike c (cell_low x g)) i g x (record { lower = refl; weight = refl; upper = inl refl }) (rules-alike x g byte)

-- ---- every ink by the rule of inks 1 to 4

abbrev pub lows : List ℕ → List Float → List Cell
lows = cells_by low

-- on grid line k
pub low_stands : (g : ℕ) (x : Float) (k : ℕ) → g < 256 → product_of x g ≡ line k → ((cell_low x g).x ≡ k) × ((cell_low x g).w ≡ plus_zero)
low_stands g x k byte on = let c = low-line k (omega (arith, product-line x g k byte on)) x g on in (ap (λ (c : Cell). c.x) c, ap (λ (c : Cell). c.w) c)

-- the cell of ink i, counted from 0, stands at place p from the end
pub lows-at : (gs : List ℕ) (xs : List Float) (p i : ℕ) (none : Cell) → p + suc i ≡ length gs → get_or (lows gs xs) p none ≡ cell_low (get_or xs i nan) (get_or gs p 0)
lows-at [] xs p i none e = absurd (omega arith)
lows-at (g ∷ gs) xs zero i none e = let same : length gs ≡ i = omega arith in ap (λ (k : ℕ). cell_low (get_or xs k nan) g) same
lows-at (g ∷ gs) xs (suc p) i none e = lows-at gs xs p i none (omega arith)

-- only the first inputs count
lows-same : (gs : List ℕ) (xs ys : List Float) → ((i : ℕ) → i < length gs → get_or xs i nan ≡ get_or ys i nan) → lows gs xs ≡ lows gs ys
lows-same [] xs ys h = refl
lows-same (g ∷ gs) xs ys h = ap₂ (λ (x : Float) (cs : List Cell). cell_low x g ∷ cs) (h (length gs) (le_refl _)) (lows-same gs xs ys (λ i l. h i (omega arith)))

-- without ink i the inks above it move down by one, and their cells stay
pub lows-without : (gs : List ℕ) (xs : List Float) (p i : ℕ) → p + suc i ≡ length gs → lows (without p gs) (without i xs) ≡ without p (lows gs xs)
unfolding without
lows-without [] xs p i e = absurd (omega arith)
lows-without (g ∷ gs) xs zero i e = lows-same gs (without i xs) xs (λ k h. get_or-without-below i xs k nan (omega arith))
lows-without (g ∷ gs) xs (suc p) i e =
    let l = length (without p gs) in
    let len : suc l ≡ length gs = length_without p gs (omega arith) in
    let head : get_or (without i xs) l nan ≡ get_or xs (length gs) nan = get_or-without-from i xs l nan (omega arith) ∙ ap (λ (k : ℕ). get_or xs k nan) len in
    ap₂ (λ (x : Float) (cs : List Cell). cell_low x g ∷ cs) head (lows-without gs xs p i (omega arith))

-- ---- all inks on grid lines: `lines` are listed first ink first

abbrev pub OnLines : List ℕ → List Float → List ℕ → Type 0
OnLines [] xs lines = Unit {0}
OnLines (g ∷ gs) xs lines = (product_of (get_or xs (length gs) nan) g ≡ line (get_or lines (length gs) 0)) × OnLines gs xs lines

pub on-lines : (gs : List ℕ) (xs : List Float) (lines : List ℕ)
    → ((p i : ℕ) → p + suc i ≡ length gs → product_of (get_or xs i nan) (get_or gs p 0) ≡ line (get_or lines i 0))
    → OnLines gs xs lines
on-lines [] xs lines h = tt
on-lines (g ∷ gs) xs lines h = (h 0 (length gs) (omega arith), on-lines gs xs lines (λ p i e. h (suc p) i (omega arith)))

module _ (xs : List Float) (lines : List ℕ) where
  lows-lowers : (gs : List ℕ) → All Sized gs → OnLines gs xs lines → length gs ≤ length lines → lowers (lows gs xs) ≡ reverse (take (length gs) lines)
  lows-lowers [] s on h = refl
  lows-lowers (g ∷ gs) s on h =
      ap₂ (λ (k : ℕ) (ks : List ℕ). k ∷ ks) (low_stands g (get_or xs (length gs) nan) (get_or lines (length gs) 0) s.0.1 on.0).0 (lows-lowers gs s.1 on.1 (omega arith))
      ∙ sym (reverse-next lines (length gs) h)

  pub lows-node : (gs : List ℕ) → All Sized gs → OnLines gs xs lines → length lines ≡ length gs → lowers (lows gs xs) ≡ reverse lines
  lows-node gs s on e = lows-lowers gs s on (omega arith) ∙ ap (λ (k : ℕ). reverse (take k lines)) (sym e) ∙ ap reverse (take-length lines)

  pub lows-zeros : (gs : List ℕ) → All Sized gs → OnLines gs xs lines → Weights (λ w. w ≡ plus_zero) (lows gs xs)
  lows-zeros [] s on = tt
  lows-zeros (g ∷ gs) s on = ((low_stands g (get_or xs (length gs) nan) (get_or lines (length gs) 0) s.0.1 on.0).1, lows-zeros gs s.1 on.1)
