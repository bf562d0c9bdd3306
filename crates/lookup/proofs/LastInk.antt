-- The answer of inks by the last one: it lies between the answers of the others, in the parts of the table at its two nodes.
-- Assumes nothing.
use Rattle.std.proofs.Common.{◌≡◌, ℕ, ◌-◌, ◌+◌, ◌<◌, ◌≤◌, List, [], ◌∷◌, ◌++◌}
use Rattle.std.proofs.Common.{length, get_or, take, drop, reverse, refl, sym, ap, ◌∙◌, arith, le_refl}
use mathlib.Core.Path.{fun_ext}
use Rattle.std.proofs.lemmas.List.{take_more, take_all, length-take-le, length-reverse, reverse-append}
use lib.Ieee.{Float, nan}
use Rattle.binary32.specs.Blend.{along, lerp}
use Rattle.cell.specs.declared.Cell.{Cell}
use Rattle.lookup.specs.Lookup.{Grid, part, lookup_with, lookup, never}
use Rattle.lookup.specs.Places.{within, answer}
use Rattle.lookup.proofs.Part.{from-drop, drop-within}
use Rattle.lookup.proofs.More.{lookup-more}

-- the part of s from a on, as the code has it
abbrev pub from : List Float → ℕ → List Float
from s a = take (length s - a) (drop a s)

module _ (s : List Float) (a : ℕ) (cs : List Cell) where
  -- what is looked up there
  from-rest : answer (from s a) cs 0 ≡ lookup (part (within s 0) a) cs
  from-rest = ap (λ (f : Grid). lookup f cs) (ap (λ (l : List Float). within l 0) (from-drop s a) ∙ drop-within s a 0)

  -- which is output a
  pub from-output : answer (from s a) cs 0 ≡ answer s cs a
  from-output = from-rest ∙ ap (λ (f : Grid). lookup f cs) (fun_ext (λ ks. ap (λ (n : ℕ). get_or s n nan) (omega arith)))

-- one ink after fewer than two
few : (f : Grid) (h : Cell) (cs : List Cell) → length cs < 2
    → along (lookup (part f h.x) cs) (lookup (part f h.x_n) cs) h.w ≡ lookup f (h ∷ cs)
unfolding lookup_with
few f h [] less = refl
few f h (c ∷ []) less = refl
few f h (d ∷ c ∷ cs) less = absurd (omega arith)

module _ (inks : List Cell) (d : Cell) (some : 0 < length inks) where
  abbrev last : Cell
  last = get_or inks (length inks - 1) d

  abbrev others : List Cell
  others = take (length inks - 1) inks

  -- the last ink comes first
  reverse-last : reverse inks ≡ last ∷ reverse others
  reverse-last =
      let all : length inks - 1 + 1 ≡ length inks = omega arith in
      let split : take (length inks) inks ≡ others ++ (last ∷ []) = rw all at (take_more inks (length inks - 1) d (omega arith)) in
      ap reverse (sym (take_all (length inks) inks (le_refl _)) ∙ split) ∙ reverse-append others (last ∷ [])

  -- x and y, the answers of the two parts, blended
  module _ (s : List Float) (x y : Float) (lower : x ≡ answer (from s last.x) (reverse others) 0)
      (upper : y ≡ answer (from s last.x_n) (reverse others) 0) where
    pub by_line : length others < 2 → along x y last.w ≡ answer s (reverse inks) 0
    by_line less =
        rw (reverse-last, lower, upper, from-rest s last.x (reverse others), from-rest s last.x_n (reverse others))
        (few (within s 0) last (reverse others) (simp length-reverse less))

    pub by_lerp : 4 ≤ length inks → lerp x y last.w ≡ answer s (reverse inks) 0
    by_lerp more =
        let count : length others + 1 ≡ length inks = omega (arith, length-take-le (length inks - 1) inks (omega arith)) in
        rw (reverse-last, lower, upper, from-rest s last.x (reverse others), from-rest s last.x_n (reverse others))
        (sym (lookup-more never (within s 0) last (reverse others) (simp length-reverse (omega arith))))
