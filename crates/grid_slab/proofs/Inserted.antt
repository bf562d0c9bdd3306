-- A node's coordinates with one more put in, for any sizes: their order and their place in the grid; and a table written out node by node.
-- Assumes nothing.
use Prim.Native.Nat.{ℕ, zero, suc, ◌+◌, ◌*◌, ◌/◌, ◌%◌, ◌<◌}
use mathlib.Core.Path.{◌≡◌, sym, ap, ap₂, ◌∙◌, subst}
use mathlib.Core.List.{List, [], ◌∷◌}
use native.Mathlib.Nat.{le_of_suc-le-suc, not-suc-le-zero, mul_comm, mul-suc, mul-le-mul_left, mod-lt, div-lt_iff_lt-mul}
use native.Mathlib.Decide.{dec_lt}
use native.Mathlib.Omega.{arith}
use lib.Arith.{digits_div, digits_mod}
use lib.Ieee.{Float, nan}
use lib.Ieee.Positive.{first_pos}
use lib.ListN.{length, get_or}
use Rattle.lists.specs.Lists.{tabulate, product}
use Rattle.lists.proofs.Lists.{get_or-tabulate}
use Rattle.layout.specs.Order.{index, Within, node_at}
use Rattle.layout.proofs.Order.{entries-within, index-injective, node-within, node-back}
use Rattle.lookup.specs.Lookup.{Grid}
use Rattle.grid_slab.specs.Slab.{insert, without}

-- ---- coordinates with k put in at place p

-- they are those of a node in the whole grid
pub insert-within : (gs ks : List ℕ) (p k : ℕ) → p < length gs → k < get_or gs p 0 → Within (without p gs) ks → Within gs (insert p k ks)
unfolding insert without Within
insert-within [] ks p k h l w = absurd (not-suc-le-zero h)
insert-within (g ∷ gs) ks zero k h l w = (l, w)
insert-within (g ∷ gs) [] (suc p) k h l w = absurd w
insert-within (g ∷ gs) (x ∷ ks) (suc p) k h l w = (w.0, insert-within gs ks p k (le_of_suc-le-suc h) l w.1)

-- and without it a node of the whole grid is one of the smaller grid
pub without-within : (gs ks : List ℕ) (p : ℕ) → Within gs ks → Within (without p gs) (without p ks)
unfolding without Within
without-within [] [] p w = tt
without-within [] (x ∷ ks) p w = absurd w
without-within (g ∷ gs) [] p w = absurd w
without-within (g ∷ gs) (x ∷ ks) zero w = w.1
without-within (g ∷ gs) (x ∷ ks) (suc p) w = (w.0, without-within gs ks p w.1)

-- two numbers of one head and of rests in the order of a and b
lower-rest : (g x y a b : ℕ) → x < g → a < b → x + g * a < y + g * b
lower-rest g x y a b h l = omega (arith, mul-suc g a, mul-le-mul_left g l)

-- and they keep their order
pub insert-order : (gs ks js : List ℕ) (p k : ℕ) → p < length gs → k < get_or gs p 0 → Within (without p gs) ks → Within (without p gs) js
    → index (without p gs) ks < index (without p gs) js → index gs (insert p k ks) < index gs (insert p k js)
unfolding insert without Within index
insert-order [] ks js p k h l w v o = absurd (not-suc-le-zero h)
insert-order (g ∷ gs) ks js zero k h l w v o = lower-rest g k k (index gs ks) (index gs js) l o
insert-order (g ∷ gs) [] js (suc p) k h l w v o = absurd w
insert-order (g ∷ gs) (x ∷ ks) [] (suc p) k h l w v o = absurd v
insert-order (g ∷ gs) (x ∷ ks) (y ∷ js) (suc p) k h l w v o =
    let a = index (without p gs) ks in
    let b = index (without p gs) js in
    elim (dec_lt a b) [
      | yes r ↦ lower-rest g x y (index gs (insert p k ks)) (index gs (insert p k js)) w.0 (insert-order gs ks js p k (le_of_suc-le-suc h) l w.1 v.1 r)
      | no r ↦ elim (dec_lt b a) [
        | yes s ↦ absurd (omega (arith, lower-rest g y x b a v.0 s))
        | no s ↦
            let same : a ≡ b = omega arith in
            let rests : index gs (insert p k ks) ≡ index gs (insert p k js) = ap (λ (l : List ℕ). index gs (insert p k l)) (index-injective (without p gs) ks js w.1 v.1 same) in
            omega (arith, ap (λ (n : ℕ). g * n) same, ap (λ (n : ℕ). g * n) rests)
      ]
    ]

-- ---- a table of m entries for each node of a grid of the sizes gs: entry e is output e % m of node e / m

abbrev pub table_of : List ℕ → ℕ → (ℕ → Grid) → List Float
table_of gs m f = tabulate (product gs * m) (λ e. f (e % m) (node_at gs (e / m)))

module _ (gs : List ℕ) (m : ℕ) (f : ℕ → Grid) where
  -- it holds each output of each node
  pub table_at : (ks : List ℕ) (o : ℕ) → Within gs ks → o < m → get_or (table_of gs m f) (index gs ks * m + o) nan ≡ f o ks
  table_at ks o w h =
      let i = index gs ks in
      get_or-tabulate (product gs * m) _ (i * m + o) nan (omega (arith, entries-within gs ks m w))
      ∙ ap₂ f (digits_mod i h) (ap (node_at gs) (digits_div i h) ∙ node-back gs ks w)

  -- and no other entry
  pub table-all : (P : Float → Type 0) → ((ks : List ℕ) (o : ℕ) → Within gs ks → o < m → P (f o ks)) → (e : ℕ) → e < product gs * m → P (get_or (table_of gs m f) e nan)
  table-all P h e l =
      let some : 0 < m = first_pos m (product gs) (omega (arith, mul_comm m (product gs))) in
      subst P (sym (get_or-tabulate (product gs * m) _ e nan l)) (h (node_at gs (e / m)) (e % m) (node-within gs (e / m) ((div-lt_iff_lt-mul some).1 l)) (mod-lt e some))
