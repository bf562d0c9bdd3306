-- Demand 3 over the inputs, for any sizes from 1 to 255 and any grid function with entries from 0 to 1.
-- Assumes nothing.
use Prim.Native.Nat.{ℕ, suc, ◌+◌, ◌≤◌, ◌<◌}
use mathlib.Core.Path.{◌≡◌, sym, ap, ap₂, ◌∙◌, subst}
use mathlib.Core.List.{List, reverse}
use native.Mathlib.Omega.{arith}
use lib.Ieee.{Float, nan}
use lib.ListN.{length, get_or}
use Rattle.binary32.specs.Numbers.{plus_zero}
use Rattle.binary32.specs.Same.{plain, Same}
use Rattle.binary32.proofs.Held.{Held}
use Rattle.cell.specs.declared.Cell.{Cell}
use Rattle.cell.specs.Rule.{line, product_of, cell_low}
use Rattle.layout.specs.Order.{Within}
use Rattle.lookup.specs.Lookup.{Grid, lookup}
use Rattle.lookup.specs.Table.{cells}
use Rattle.grid_slab.specs.Slab.{insert, without}
use Rattle.demands.proofs.Each.{All, all_map, all-at, Each, each-lowers, Weights}
use Rattle.demands.proofs.Lines.{Zero, lookup-node, lookup-cut}
use Rattle.demands.proofs.InkCells.{Sized, OnLines, low, low-sound, lows, length-cells, cells-within, low_stands, lows-at, lows-node, lows-zeros, lows-without}
use Rattle.demands.proofs.Rules.{Shared, entries, weights, few-cells, rules-same}
use Rattle.cell.proofs.Laws.{product-line}

-- line k of an ink on it is a line of its grid
pub line-in : (g : ℕ) (x : Float) (k : ℕ) → Sized g → product_of x g ≡ line k → k < g
line-in g x k s on = omega (arith, product-line x g k s.1 on)

module _ (gs : List ℕ) (sized : All Sized gs) (few : length gs ≤ 1000) (f : Grid) (shares : Shared gs f) (xs : List Float) where
  few-lows : length (lows gs xs) ≤ 1000
  few-lows = few-cells low low-sound gs sized few f shares xs

  low-entries : Each (λ ks. Held 0 (f ks)) (lows gs xs)
  low-entries = entries low low-sound gs sized few f shares xs

  low-weights : Weights (Held 0) (lows gs xs)
  low-weights = weights low low-sound gs sized few f shares xs

  -- all inks on grid lines: the entry at the node
  module _ (lines : List ℕ) (on : OnLines gs xs lines) (len : length lines ≡ length gs) where
    pub node_in : Within gs (reverse lines)
    node_in = subst (Within gs) (lows-node xs lines gs sized on len) (each-lowers (Within gs) (lows gs xs) (cells-within low low-sound gs xs sized))

    pub node-answer : Same (lookup f (cells gs xs)) (f (reverse lines))
    node-answer =
        rules-same gs sized few f shares xs
        ∙ lookup-node f (lows gs xs) few-lows low-entries low-weights
        (all_map (λ c. c.w ≡ plus_zero) (λ c. Zero c.w) (lows gs xs) (λ c e. ap plain e) (lows-zeros xs lines gs sized on))
        ∙ ap (λ (ks : List ℕ). plain (f ks)) (lows-node xs lines gs sized on len)

  -- ink i, counted from 0, with at least three before it, is on line k: the lookup of the other inks, in the grid where ink i stands on that line
  pub cut-answer : (p i k : ℕ) → p + suc i ≡ length gs → 3 ≤ i
      → product_of (get_or xs i nan) (get_or gs p 0) ≡ line k
      → Same (lookup f (cells gs xs)) (lookup (λ ks. f (insert p k ks)) (lows (without p gs) (without i xs)))
  cut-answer p i k e three on =
      let cs = lows gs xs in
      let none : Cell = record { x = 0; x_n = 0; w = nan } in
      let at : get_or cs p none ≡ cell_low (get_or xs i nan) (get_or gs p 0) = lows-at gs xs p i none e in
      let stands = low_stands (get_or gs p 0) (get_or xs i nan) k (all-at Sized gs p 0 (omega arith) sized).1 on in
      rules-same gs sized few f shares xs
      ∙ lookup-cut f cs p none (omega (arith, length-cells low gs xs)) few-lows low-entries low-weights (ap (λ (c : Cell). plain c.w) at ∙ ap plain stands.1)
      ∙ ap₂ (λ (l : ℕ) (rest : List Cell). plain (lookup (λ ks. f (insert p l ks)) rest)) (ap (λ (c : Cell). c.x) at ∙ stands.0) (sym (lows-without gs xs p i e))
