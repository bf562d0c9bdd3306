-- Cells by their steps from the lowest corner, and the plan of three inks by their steps. For the contracts of private functions alone.
-- Definitions only.
use Rattle.std.specs.Prelude.{ℕ, zero, suc, ◌+◌, ◌-◌, ◌≤◌, ◌<◌, Bool, true, false, not, cond, List, [], ◌∷◌, Float, get_or}
use Rattle.std.specs.Float.{nan}
use Rattle.std.specs.Float.Ieee.{le}
use Rattle.binary32.specs.Blend.{lerp, terms, rise}
use Rattle.binary32.specs.Range.{Below}
use Rattle.cell.specs.declared.Cell.{Cell}
use Rattle.walk.specs.declared.Axis.{Axis}
use Rattle.walk.specs.declared.Plan.{Plan}
use Rattle.walk.specs.Blocks.{at}

-- a cell whose lower node is the part's start
abbrev pub step_cell : ℕ → Float → Cell
step_cell d t = record { x = 0; x_n = d; w = t }

-- ink i of an array, counted from 0, and its cell
abbrev pub axis : List Axis → ℕ → Axis
axis axes i = get_or axes i (record { step = 0; w = nan })

abbrev pub cell_of : Axis → Cell
cell_of a = step_cell a.step a.w

-- k inks from `first` on, counted from 0, last ink first
abbrev pub steps_at : List Axis → ℕ → ℕ → List Cell
steps_at axes first zero = []
steps_at axes first (suc k) = cell_of (axis axes (first + k)) ∷ steps_at axes first k

-- cells by their steps, and how far their lower nodes stand together
abbrev pub stepped : List Cell → List Cell
stepped [] = []
stepped (c ∷ cs) = step_cell (c.x_n - c.x) c.w ∷ stepped cs

abbrev pub lows : List Cell → ℕ
lows [] = 0
lows (c ∷ cs) = c.x + lows cs

-- each weight is from 0 up and below 1
abbrev pub Weighed : List Axis → ℕ → Type 0
Weighed axes n = (i : ℕ) → i < n → Below 1 (axis axes i).w

-- ---- three inks

-- where a corner of the cube stands: at the lower (false) or the upper (true) node of ink 1, 2 and 3, whose steps are dx, dy, dz
abbrev pub corner : ℕ → ℕ → ℕ → Bool → Bool → Bool → ℕ
corner dx dy dz i j k = cond i dx 0 + cond j dy 0 + cond k dz 0

-- the plan of three inks with the steps dx, dy, dz and the weights rx, ry, rz: where an ink moves, those of a larger weight have moved
-- already
abbrev pub plan_for : ℕ → ℕ → ℕ → Float → Float → Float → Plan
plan_for dx dy dz rx ry rz =
    let to = corner dx dy dz in
    let xy = le ry rx in
    let yz = le rz ry in
    let xz = le rz rx in
    record {
      p1 = to true (not xy) (not xz);
      q1 = to false (not xy) (not xz);
      p2 = to xy true (not yz);
      q2 = to xy false (not yz);
      p3 = to xz yz true;
      q3 = to xz yz false;
      far = to true true true;
      rx = rx;
      ry = ry;
      rz = rz;
    }

abbrev pub first_three : List Axis → Plan
first_three axes = plan_for (axis axes 0).step (axis axes 1).step (axis axes 2).step (axis axes 0).w (axis axes 1).w (axis axes 2).w

-- what a plan gives at output o of the part from the lowest corner on
abbrev pub tetra_of : Plan → ℕ → List Float → Float
tetra_of p o t =
    terms (at t o)
    (rise (at t (p.q1 + o)) (at t (p.p1 + o)))
    (rise (at t (p.q2 + o)) (at t (p.p2 + o)))
    (rise (at t (p.q3 + o)) (at t (p.p3 + o)))
    p.rx p.ry p.rz

-- ink 4 of weight t above the answers of three at its nodes, or the lower of them alone
abbrev pub fourth : Bool → Float → Float → Float → Float
fourth alone lower upper t = cond alone lower (lerp lower upper t)

-- no entry of a plan stands farther than `far`
pub record Near (p : Plan) : Type 0 where
  pub to-1 : p.p1 ≤ p.far
  pub from-1 : p.q1 ≤ p.far
  pub to-2 : p.p2 ≤ p.far
  pub from-2 : p.q2 ≤ p.far
  pub to-3 : p.p3 ≤ p.far
  pub from-3 : p.q3 ≤ p.far
