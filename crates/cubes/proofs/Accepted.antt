-- What a call that is not refused has passed.
-- Assumes nothing.
use Prim.Native.Nat.{ℕ, ◌≤◌, ◌<◌}
use mathlib.Core.Path.{◌≡◌}
use mathlib.Core.Logic.{⊎_elim}
use mathlib.Core.Bool.{true, not, ◌&&◌, ◌||◌}
use native.Mathlib.Omega.{arith}
use lib.Dec.{ltb, eqb}
use borrow.Author.Tests.{ltb-true, ltb-false, not-false}
use Rattle.cell.specs.declared.Cell.{Cell}
use Rattle.layout.specs.Layout.{total}
use Rattle.outcome.proofs.Refused.{passed}
use Rattle.lists.proofs.Lists.{one_of}
use Rattle.std.proofs.lemmas.Bool.{and_parts}
use Rattle.cubes.specs.Cube.{sizes, on_grid, refusal}
use Rattle.cubes.specs.Corners.{Inside}

pub few : (m : ℕ) → (eqb m 3 || eqb m 4) ≡ true → m ≤ 4
few m h = ⊎_elim (λ e. omega arith) (λ e. omega arith) (one_of m 3 4 h)

on-grid : (c : Cell) (g : ℕ) → on_grid c g ≡ true → (c.x < g) × (c.x_n < g)
unfolding on_grid
on-grid c g h = let both = and_parts (ltb c.x g) (ltb c.x_n g) h in (ltb-true _ _ both.0, ltb-true _ _ both.1)

pub record Accepted (cx cy cz : Cell) (g m entries room : ℕ) : Type 0 where
  pub inside : Inside cx cy cz g m
  pub long : total (sizes g) m ≤ entries
  pub wide : m ≤ room

pub accepted : (cx cy cz : Cell) (g m entries room : ℕ) → refusal cx cy cz g m entries room ≡ 0 → Accepted cx cy cz g m entries room
unfolding refusal
accepted cx cy cz g m entries room h =
    let counted = passed (not (eqb m 3 || eqb m 4)) 2 _ (λ e. omega arith) h in
    let some = passed (eqb g 0) 3 _ (λ e. omega arith) counted.1 in
    let long = passed (ltb entries (total (sizes g) m)) 6 _ (λ e. omega arith) some.1 in
    let wide = passed (ltb room m) 8 _ (λ e. omega arith) long.1 in
    let lines = not-false _ (passed (not (on_grid cx g && on_grid cy g && on_grid cz g)) 10 0 (λ e. omega arith) wide.1).0 in
    let xyz = and_parts (on_grid cx g && on_grid cy g) (on_grid cz g) lines in
    let xy = and_parts (on_grid cx g) (on_grid cy g) xyz.0 in
    let x = on-grid cx g xy.0 in
    let y = on-grid cy g xy.1 in
    let z = on-grid cz g xyz.1 in
    record {
      inside = record { x = x.0; xₙ = x.1; y = y.0; yₙ = y.1; z = z.0; zₙ = z.1; few = few m (not-false _ counted.0) };
      long = ltb-false _ _ long.0;
      wide = ltb-false _ _ wide.0;
    }
