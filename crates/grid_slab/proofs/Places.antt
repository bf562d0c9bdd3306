-- The entries of a slab stand in the table in runs, for any sizes: `entry_place`. How many there are: `product_at`, `product-without`. Run by run: `run-entry`.
-- Assumes nothing.
use Prim.Native.Nat.{ℕ, zero, suc, ◌+◌, ◌*◌, ◌/◌, ◌%◌, ◌≤◌, ◌<◌}
use mathlib.Core.Path.{◌≡◌, sym, ap, ◌∙◌}
use mathlib.Core.List.{List, [], ◌∷◌}
use native.Mathlib.Nat.{le_of_suc-le-suc, not-suc-le-zero, mul-one, mul_comm, mul_left_comm, mul-add, suc-mul, mul-le-mul_right, le-mul_of_pos_right, div-one, mod-one, div-div-eq-div-mul, div-lt_iff_lt-mul}
use native.Mathlib.Omega.{arith}
use lib.Arith.{digits_div, digits_mod, mod-mul}
use lib.Ieee.{Float, nan}
use lib.Ieee.Positive.{first_pos}
use lib.ListN.{length, get_or, set, take, drop}
use Rattle.lists.specs.Lists.{product}
use Rattle.lists.specs.Buffer.{written}
use Rattle.lists.proofs.Buffer.{written_next}
use Rattle.layout.specs.Order.{index, node_at}
use Rattle.layout.proofs.Order.{node-number}
use Rattle.grid_slab.specs.Slab.{insert, without}
use Rattle.grid_slab.specs.declared.runs.Runs.{Runs}
use Rattle.grid_slab.specs.Runs.{place_of, cut_entry, Fit}

-- ---- how many

pub product_at : (gs : List ℕ) (p : ℕ) → p < length gs → product gs ≡ product (drop (suc p) gs) * get_or gs p 0 * product (take p gs)
unfolding product
product_at [] p h = absurd (not-suc-le-zero h)
product_at (g ∷ gs) zero h = mul_comm g (product gs) ∙ sym (mul-one (product gs * g))
product_at (g ∷ gs) (suc p) h = ap (λ (x : ℕ). g * x) (product_at gs p (le_of_suc-le-suc h)) ∙ mul_left_comm g (product (drop (suc p) gs) * get_or gs p 0) (product (take p gs))

pub product-without : (gs : List ℕ) (p : ℕ) → p < length gs → product (without p gs) ≡ product (drop (suc p) gs) * product (take p gs)
unfolding product without
product-without [] p h = absurd (not-suc-le-zero h)
product-without (g ∷ gs) zero h = sym (mul-one (product gs))
product-without (g ∷ gs) (suc p) h = ap (λ (x : ℕ). g * x) (product-without gs p (le_of_suc-le-suc h)) ∙ mul_left_comm g (product (drop (suc p) gs)) (product (take p gs))

-- ---- where

-- one more ink after ink j, of g lines: a run is g times as long
wider : (g run lines k i : ℕ) → 0 < g → 0 < run → i % g + g * place_of run lines k (i / g) ≡ place_of (g * run) lines k i
wider g run lines k i some more =
    let turn = i / g / run * lines + k in
    let rest : i % (g * run) ≡ i / g % run * g + i % g = ap (λ (x : ℕ). i % x) (mul_comm g run) ∙ mod-mul i more some in
    rw (sym (div-div-eq-div-mul i g run), rest) (omega (arith, mul-add g (turn * run) (i / g % run), mul_left_comm g turn run, mul_comm g (i / g % run)))

-- the number in the whole grid of the node with k put in at place p, from its number in the smaller one
pub node-place : (gs : List ℕ) (p k i : ℕ) → p < length gs → i < product (without p gs)
    → index gs (insert p k (node_at (without p gs) i)) ≡ place_of (product (take p gs)) (get_or gs p 0) k i
unfolding index insert without node_at product
node-place [] p k i h l = absurd (not-suc-le-zero h)
node-place (g ∷ gs) zero k i h l = rw (node-number gs i l, div-one i, mod-one i) (omega (arith, mul_comm g i, mul-one (i * g + k)))
node-place (g ∷ gs) (suc p) k i h l =
    let others = product (without p gs) in
    let some : 0 < g = first_pos g others (omega arith) in
    let below : i / g < others = (div-lt_iff_lt-mul some).1 (omega (arith, mul_comm g others)) in
    let split = product-without gs p (le_of_suc-le-suc h) ∙ mul_comm (product (drop (suc p) gs)) (product (take p gs)) in
    let more : 0 < product (take p gs) = first_pos (product (take p gs)) (product (drop (suc p) gs)) (omega (arith, split)) in
    ap (λ (x : ℕ). i % g + g * x) (node-place gs p k (i / g) (le_of_suc-le-suc h) below) ∙ wider g (product (take p gs)) (get_or gs p 0) k i some more

-- the place in the table of the slab's entry e: its m outputs count as one more ink, which varies most rapidly
pub entry_place : (gs : List ℕ) (m p k e : ℕ) → p < length gs → e < product (without p gs) * m
    → index gs (insert p k (node_at (without p gs) (e / m))) * m + e % m ≡ place_of (m * product (take p gs)) (get_or gs p 0) k e
unfolding index insert without node_at product
entry_place gs m p k e h l =
    let number = index gs (insert p k (node_at (without p gs) (e / m))) in
    let turned : number * m + e % m ≡ e % m + m * number = omega (arith, mul_comm number m) in
    turned ∙ node-place (m ∷ gs) (suc p) k e (omega arith) (omega (arith, mul_comm m (product (without p gs))))

-- ---- run t stands in the table, and has its place in the slab
pub record Stands (table slab : ℕ) (runs : Runs) (t : ℕ) : Type 0 where
  pub number : t * runs.lines + runs.k < table
  pub held : (t * runs.lines + runs.k) * runs.run + runs.run ≤ table
  pub room : t * runs.run + runs.run ≤ slab

pub stands : {table slab : ℕ} {runs : Runs} {t : ℕ} → Fit table slab runs → t < runs.turns → Stands table slab runs t
stands {table} {slab} {runs} {t} fit below =
    let number = t * runs.lines + runs.k in
    let before : suc number ≤ runs.turns * runs.lines = omega (arith, mul-le-mul_right runs.lines below, suc-mul t runs.lines, fit.on_line) in
    let held : number * runs.run + runs.run ≤ table = omega (arith, mul-le-mul_right runs.run before, suc-mul number runs.run, fit.held) in
    record {
      number = omega (arith, held, le-mul_of_pos_right number fit.some, fit.some);
      held = held;
      room = omega (arith, mul-le-mul_right runs.run below, suc-mul t runs.run, fit.room);
    }

-- its entry i
pub run-entry : (table : List Float) (runs : Runs) (t i : ℕ) → i < runs.run
    → get_or table ((t * runs.lines + runs.k) * runs.run + i) nan ≡ cut_entry table runs (t * runs.run + i)
run-entry table runs t i h = sym (λ x. get_or table ((digits_div t h x * runs.lines + runs.k) * runs.run + digits_mod t h x) nan)

-- which is the next that is written
pub entry-next : (table : List Float) (runs : Runs) (old : List Float) (t i : ℕ) (now : List Float) → i < runs.run
    → now ≡ written (cut_entry table runs) (t * runs.run + i) old
    → set now (t * runs.run + i) (get_or table ((t * runs.lines + runs.k) * runs.run + i) nan)
    ≡ written (cut_entry table runs) (t * runs.run + (i + 1)) old
entry-next table runs old t i now below so_far =
    (λ x. set (so_far x) (t * runs.run + i) (run-entry table runs t i below x))
    ∙ written_next (cut_entry table runs) (t * runs.run + i) old
    ∙ ap (λ (e : ℕ). written (cut_entry table runs) e old) (omega arith)
