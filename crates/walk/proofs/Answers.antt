-- Block by block: a block's outputs are those of the whole, and what is given so far. Assumes nothing.
use Prim.Native.Nat.{ℕ, ◌+◌, ◌-◌, ◌*◌, ◌^◌, ◌<◌, ◌≤◌}
use native.Mathlib.Omega.{arith}
use native.Mathlib.Nat.{zero-add, pow-le-pow_right, mul-le-mul_right, zero-lt-suc}
use native.Mathlib.Decide.{dec_lt}
use mathlib.Core.Path.{◌≡◌, ap, sym, subst, fun_ext, ◌∙◌}
use mathlib.Core.List.{List, ◌++◌}
use lib.Ieee.{Float, nan}
use lib.ListN.{length, get_or, take, drop}
use lib.Seq.{get_or-drop}
use Rattle.cell.specs.declared.Cell.{Cell}
use Rattle.lookup.specs.Lookup.{Grid, lookup}
use Rattle.lookup.specs.Places.{sum, reach, answer}
use Rattle.walk.specs.Walk.{above, weights_at, folded, Distant, Cornered, Folded}
use Rattle.lookup.proofs.Part.{from-drop}
use Rattle.walk.proofs.Above.{above-answer, above-above, reach-over}
use Rattle.walk.specs.declared.Axis.{Axis}
use Rattle.walk.specs.declared.Four.{Four}
use Rattle.walk.specs.Blocks.{lane, Lanes, at, Holds, Gives, Given}
use Rattle.walk.specs.Steps.{Weighed, tetra_of, first_three, axis, cell_of, steps_at}
use Rattle.walk.proofs.Tetrahedron.{plan-answers}
use Rattle.walk.proofs.Folding.{folded-above}
use Rattle.walk.proofs.Steps.{split, weights-at, length-steps, distance-reach}

-- ---- output j of the part from o on is output o + j

pub shifted : (t : List Float) (o : ℕ) (cs : List Cell) (j : ℕ) → answer (take (length t - o) (drop o t)) cs j ≡ answer t cs (o + j)
shifted t o cs j =
    ap (λ (p : List Float). answer p cs j) (from-drop t o)
    ∙ ap (λ (f : Grid). lookup f cs) (fun_ext (λ ks. get_or-drop o t (sum ks + j) nan ∙ ap (λ (n : ℕ). get_or t n nan) (place (sum ks))))
  where
    place : (s : ℕ) → o + (s + j) ≡ s + (o + j)
    place s = omega arith

-- ---- what is given so far

pub record Upto (f : ℕ → Float) (o : ℕ) (old now : List Float) : Type 0 where
  pub most : o ≤ length old + 3
  pub room : length now ≡ length old
  pub answers : (k : ℕ) → k < o → k < length old → get_or now k nan ≡ f k

module _ (f : ℕ → Float) (old : List Float) where
  pub upto-more : (o : ℕ) (now next : List Float) (g : ℕ → Float) → Upto f o old now → o < length old → Given g o now next → ((j : ℕ) → j < 4 → o + j < length now → g j ≡ f (o + j)) → Upto f (o + 4) old next
  upto-more o now next g done less given same =
      record {
        most = omega arith;
        room = given.room ∙ done.room;
        answers = λ k h few.
            elim (dec_lt k o) [
              | yes low ↦ given.before k low ∙ done.answers k low few
              | no high ↦
                  let e : k ≡ o + (k - o) = omega arith in
                  let near : k - o < 4 = omega arith in
                  let inside : o + (k - o) < length now = omega (arith, done.room) in
                  ap (λ (i : ℕ). get_or next i nan) e ∙ given.block (k - o) near inside ∙ same (k - o) near inside ∙ ap f (sym e)
            ];
      }

  pub upto_all : (o : ℕ) (now : List Float) → Upto f o old now → length old ≤ o → Gives f old now
  upto_all o now done all = record { room = done.room; answers = λ k h. done.answers k (omega arith) h }

  -- the last block
  pub upto-last : (o : ℕ) (now next : List Float) (g : ℕ → Float) → Upto f o old now → o < length old → Given g o now next → ((j : ℕ) → j < 4 → o + j < length now → g j ≡ f (o + j)) → length old ≤ o + 4 → Gives f old next
  upto-last o now next g done less given same = upto_all (o + 4) next (upto-more o now next g done less given same)

-- a block of the part from o on, given
pub block-given : (t : List Float) (cs : List Cell) (o m : ℕ) (f : Four) → Holds (answer (take (length t - o) (drop o t)) cs) (m - o) f → (j : ℕ) → j < 4 → o + j < m → lane f j ≡ answer t cs (o + j)
block-given t cs o m f holds j h less = holds j h (omega arith) ∙ shifted t o cs j

-- ---- all outputs at once

-- one block holds them
pub block-gives : (f : ℕ → Float) (old now : List Float) (g : Four) → length old ≤ 4 → Given (lane g) 0 old now → Lanes f g → Gives f old now
block-gives f old now g few given same =
    record {
      room = given.room;
      answers = λ o h.
          let zeroth = zero-add o in
          ap (λ (i : ℕ). get_or now i nan) (sym zeroth) ∙ given.block o (omega arith) (subst (λ (i : ℕ). i < length old) (sym zeroth) h) ∙ same o (omega arith);
    }

-- ---- the corners of any inks, folded

module _ (three : ℕ → List Float → Float) (axes : List Axis) (first k : ℕ) (offs : List ℕ) (distant : Distant (steps_at axes first k) k offs) where
  pub folded-block : (part : List Float) (left : ℕ) (old filled done : List Float)
      → Cornered three offs part left (length offs) old filled → Folded (weights_at axes first k) filled done
      → (f : Four) → Lanes (λ i. at done (0 + i)) f → Holds (λ j. above (three j) (steps_at axes first k) part) left f
  folded-block part left old filled done cornered fold f loaded j h less =
      loaded j h
      ∙ ap (at done) (zero-add j)
      ∙ fold.answers j h
      ∙ ap (λ (ws : List Float). folded 4 ws (at filled) j) (sym (weights-at axes first k))
      ∙ folded-above (three j) (steps_at axes first k) 4 j (at filled) part
      (λ c l. let in-k : c < 2 ^ k = subst (λ (n : ℕ). c < 2 ^ n) (length-steps axes first k) l in
      cornered.entries c j (subst (λ (n : ℕ). c < n) (sym distant.count) in-k) h less ∙ ap (λ (d : ℕ). three j (drop d part)) (distant.stand c in-k))

-- ---- three inks and more

module _ (axes : List Axis) where
  abbrev three : ℕ → List Float → Float
  three = tetra_of (first_three axes)

  abbrev far : ℕ
  far = (axis axes 0).step + (axis axes 1).step + (axis axes 2).step

  -- all the inks
  pub inks : (k : ℕ) → steps_at axes 0 (k + 3) ≡ steps_at axes 3 k ++ steps_at axes 0 3
  inks k = split axes 0 3 k

  pub inks-reach : (k : ℕ) → reach (steps_at axes 0 (k + 3)) ≡ reach (steps_at axes 3 k) + far
  inks-reach k = let e = ap reach (inks k) ∙ reach-over (steps_at axes 3 k) (steps_at axes 0 3) in omega (arith, e)

  pub above-inks : Weighed axes 3 → (k o : ℕ) (part : List Float) → above (three o) (steps_at axes 3 k) part ≡ answer part (steps_at axes 0 (k + 3)) o
  above-inks weighed k o part =
      above-answer (cell_of (axis axes 0)) (cell_of (axis axes 1)) (cell_of (axis axes 2)) o (three o)
      (λ p. plan-answers (axis axes 0).step (axis axes 1).step (axis axes 2).step (axis axes 0).w (axis axes 1).w (axis axes 2).w (weighed 0 (omega arith)) (weighed 1 (omega arith)) (weighed 2 (omega arith)) p o)
      (steps_at axes 3 k) part
      ∙ ap (λ (cs : List Cell). answer part cs o) (sym (inks k))

  pub corner-inside : (k : ℕ) (offs : List ℕ) → Distant (steps_at axes 3 k) k offs → (m n : ℕ) → reach (steps_at axes 0 (k + 3)) + m ≤ n → (c : ℕ) → c < length offs → get_or offs c 0 + far + m ≤ n
  corner-inside k offs distant m n fits c h = omega (arith, distant.stand c (subst (λ (a : ℕ). c < a) distant.count h), distance-reach (steps_at axes 3 k) c, inks-reach k)

  -- of the part from o on
  pub inks-given : Weighed axes 3 → (k : ℕ) (t : List Float) (o m : ℕ) (f : Four)
      → Holds (λ j. above (three j) (steps_at axes 3 k) (take (length t - o) (drop o t))) (m - o) f
      → (j : ℕ) → j < 4 → o + j < m → lane f j ≡ answer t (steps_at axes 0 (k + 3)) (o + j)
  inks-given weighed k t o m f holds = block-given t (steps_at axes 0 (k + 3)) o m f (λ j h less. holds j h less ∙ above-inks weighed k j (take (length t - o) (drop o t)))

  -- ---- three inks, e more, and j more

  module _ (e j : ℕ) where
    tower-inks : steps_at axes 0 (j + e + 3) ≡ steps_at axes 0 (j + (e + 3))
    tower-inks = let a : j + e + 3 ≡ j + (e + 3) = omega arith in ap (steps_at axes 0) a

    pub tower-reach : reach (steps_at axes 0 (j + (e + 3))) ≡ reach (steps_at axes (e + 3) j) + reach (steps_at axes 0 (e + 3))
    tower-reach =
        ap reach (split axes 0 (e + 3) j)
        ∙ reach-over (steps_at axes (0 + (e + 3)) j) (steps_at axes 0 (e + 3))
        ∙ ap (λ (f : ℕ). reach (steps_at axes f j) + reach (steps_at axes 0 (e + 3))) (zero-add (e + 3))

    pub top-inside : (tops : List ℕ) → Distant (steps_at axes (e + 3) j) j tops → (m n : ℕ) → reach (steps_at axes 0 (j + (e + 3))) + m ≤ n
        → (c : ℕ) → c < length tops → get_or tops c 0 + reach (steps_at axes 0 (e + 3)) + m ≤ n
    top-inside tops distant m n fits c h = omega (arith, distant.stand c (subst (λ (a : ℕ). c < a) distant.count h), distance-reach (steps_at axes (e + 3) j) c, tower-reach)

    pub tower-given : Weighed axes 3 → (t : List Float) (o m : ℕ) (f : Four)
        → Holds (λ i. above (above (three i) (steps_at axes 3 e)) (steps_at axes (e + 3) j) (take (length t - o) (drop o t))) (m - o) f
        → (i : ℕ) → i < 4 → o + i < m → lane f i ≡ answer t (steps_at axes 0 (j + (e + 3))) (o + i)
    tower-given weighed t o m f holds i h less =
        let turn : e + 3 ≡ 3 + e = omega arith in
        inks-given weighed (j + e) t o m f
        (λ a b c. holds a b c
        ∙ above-above (three a) (steps_at axes (e + 3) j) (steps_at axes 3 e) (take (length t - o) (drop o t))
        ∙ ap (λ (s : ℕ). above (three a) (steps_at axes s j ++ steps_at axes 3 e) (take (length t - o) (drop o t))) turn
        ∙ ap (λ (cs : List Cell). above (three a) cs (take (length t - o) (drop o t))) (sym (split axes 3 e j)))
        i h less
        ∙ ap (λ (cs : List Cell). answer t cs (o + i)) tower-inks

-- ---- room for all corners

pub corners-fit : (most k : ℕ) → k ≤ most → 2 ^ k ≤ 2 ^ most
corners-fit most k few = pow-le-pow_right (zero-lt-suc 1) few

pub blocks-fit : (most k : ℕ) → k ≤ most → 2 ^ k * 4 ≤ 2 ^ most * 4
blocks-fit most k few = mul-le-mul_right 4 (corners-fit most k few)

-- ---- all counts of inks
