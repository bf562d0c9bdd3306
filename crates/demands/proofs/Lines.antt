-- Demand 3 over cells and a grid function, for entries and weights from 0 to 1, with zeros of both signs counting as equal. On a grid line an ink's weight is 0.
-- An ink from the fourth on that stands on a line can be cut out; where all do, the answer is the entry at the node.
-- Assumes nothing.
use mathlib.Core.Path.{refl, sym, ap, ◌∙◌}
use Prim.Native.Nat.{ℕ, zero, suc, ◌+◌, ◌≤◌}
use native.Mathlib.Omega.{arith}
use mathlib.Core.Bool.{Bool, true, false}
use mathlib.Core.List.{List, [], ◌∷◌}
use lib.Dec.{lit≤}
use lib.ListN.{length, get_or}
use lib.Ieee.{Float, le}
use Rattle.binary32.specs.Numbers.{plus_zero}
use Rattle.binary32.specs.Blend.{mlaf, along, square, rise, terms, tetra}
use Rattle.binary32.specs.Same.{plain, Same}
use Rattle.binary32.proofs.Units.{U-is, E_pos, Number}
use Rattle.binary32.proofs.Near.{sub-near}
use Rattle.binary32.proofs.Held.{Held}
use Rattle.binary32.proofs.Signs.{mlaf-same, lerp-same}
use Rattle.binary32.proofs.Nodes.{mlaf-zero, lerp-zero, along-zero}
use Rattle.binary32.proofs.Means.{along-held}
use Rattle.cell.specs.declared.Cell.{Cell}
use Rattle.lookup.specs.Lookup.{Grid, node, part, lookup_with, lookup, never}
use Rattle.grid_slab.specs.Slab.{insert, without}
use Rattle.demands.proofs.Each.{either_way, Each, Weights, lowers}
use Rattle.lookup.proofs.More.{lookup-more}
use Rattle.demands.proofs.Lookups.{lookup-held}
use Rattle.grid_slab.proofs.Without.{length_without}

abbrev pub Zero : Float → Type 0
Zero w = Same w plus_zero

-- ---- two and three inks with weights of 0

square-zero : (c : Bool → Bool → Float) (v w : Float) → ((i j : Bool) → Held 0 (c i j)) → Held 0 v → Zero v → Zero w → Same (square c v w) (c false false)
square-zero c v w C hv zv zw =
    along-zero (along (c false false) (c true false) v) (along (c false true) (c true true) v) w
    (along-held 0 (c false false) (c true false) v (lit≤ tt) (C false false) (C true false) hv).number
    (along-held 0 (c false true) (c true true) v (lit≤ tt) (C false true) (C true true) hv).number zw
    ∙ along-zero (c false false) (c true false) v (C false false).number (C true false).number zv

rise-number : (p q : Float) → Held 0 p → Held 0 q → Number (rise p q)
rise-number p q P Q = (sub-near q p Q.number P.number (omega (arith, Q.top, P.bottom, U-is, E_pos)) (omega (arith, Q.bottom, P.top, U-is, E_pos))).number

terms-zero : (x y z : Float) {o r1 q1 r2 q2 r3 q3 : Float} → Held 0 o → Held 0 r1 → Held 0 q1 → Held 0 r2 → Held 0 q2 → Held 0 r3 → Held 0 q3 → Zero x → Zero y → Zero z
    → Same (terms o (rise r1 q1) (rise r2 q2) (rise r3 q3) x y z) o
terms-zero x y z {o} {r1} {q1} {r2} {q2} {r3} {q3} O R1 Q1 R2 Q2 R3 Q3 X Y Z =
    let a = mlaf o (rise r1 q1) x in
    let b = mlaf a (rise r2 q2) y in
    let first : Same a o = mlaf-zero o (rise r1 q1) x O.number (rise-number r1 q1 R1 Q1) X in
    let second : Same b o = mlaf-same a o (rise r2 q2) (rise r2 q2) y y first refl refl ∙ mlaf-zero o (rise r2 q2) y O.number (rise-number r2 q2 R2 Q2) Y in
    mlaf-same b o (rise r3 q3) (rise r3 q3) z z second refl refl ∙ mlaf-zero o (rise r3 q3) z O.number (rise-number r3 q3 R3 Q3) Z

tetra-zero : (c : Bool → Bool → Bool → Float) (x y z : Float) → ((i j k : Bool) → Held 0 (c i j k)) → Zero x → Zero y → Zero z → Same (tetra c x y z) (c false false false)
tetra-zero c x y z C X Y Z =
    let O = C false false false in
    let A = C true false false in
    let B = C false true false in
    let D = C false false true in
    let AB = C true true false in
    let AD = C true false true in
    let BD = C false true true in
    let ABD = C true true true in
    let P : Float → Type 0 = λ r. Same r (c false false false) in
    either_way P (le y x)
    (either_way P (le z y) (terms-zero x y z O O A A AB AB ABD X Y Z) (either_way P (le z x) (terms-zero x y z O O A AD ABD A AD X Y Z) (terms-zero x y z O D AD AD ABD O D X Y Z)))
    (either_way P (le z x) (terms-zero x y z O B AB O B AB ABD X Y Z) (either_way P (le z y) (terms-zero x y z O BD ABD O B B BD X Y Z) (terms-zero x y z O BD ABD D BD O D X Y Z)))

-- ---- all inks on grid lines: the entry at the node

pub lookup-node : (f : Grid) (cs : List Cell) → length cs ≤ 1000 → Each (λ ks. Held 0 (f ks)) cs → Weights (Held 0) cs → Weights Zero cs → Same (lookup f cs) (f (lowers cs))
unfolding lookup_with
lookup-node f [] n F W Z = refl
lookup-node f (c ∷ []) n F W Z = along-zero (f (c.x ∷ [])) (f (c.x_n ∷ [])) c.w (F false).number (F true).number Z.0
lookup-node f (d ∷ c ∷ []) n F W Z = square-zero (λ i j. f (node d j ∷ node c i ∷ [])) c.w d.w (λ i j. F j i) W.1.0 Z.1.0 Z.0
lookup-node f (e ∷ d ∷ c ∷ []) n F W Z = tetra-zero (λ i j k. f (node e k ∷ node d j ∷ node c i ∷ [])) c.w d.w e.w (λ i j k. F k j i) Z.1.1.0 Z.1.0 Z.0
lookup-node f (h ∷ e ∷ d ∷ c ∷ cs) n F W Z =
    let rest = e ∷ d ∷ c ∷ cs in
    lerp-zero (lookup (part f h.x) rest) (lookup (part f h.x_n) rest) h.w
    (lookup-held never (part f h.x) rest (omega arith) (F false) W.1).number
    (lookup-held never (part f h.x_n) rest (omega arith) (F true) W.1).number Z.0
    ∙ lookup-node (part f h.x) (e ∷ d ∷ c ∷ cs) (omega arith) (F false) W.1 Z.1

-- ---- one ink from the fourth on stands on a grid line: the lookup with one ink fewer, in the slab at that line

-- the cell at place p is cut out: at least three cells come after it
pub lookup-cut : (f : Grid) (cs : List Cell) (p : ℕ) (none : Cell) → p + 4 ≤ length cs → length cs ≤ 1000
    → Each (λ ks. Held 0 (f ks)) cs → Weights (Held 0) cs → Zero (get_or cs p none).w
    → Same (lookup f cs) (lookup (λ ks. f (insert p (get_or cs p none).x ks)) (without p cs))
unfolding insert without
lookup-cut f [] p none n l F W Z = absurd (omega arith)
lookup-cut f (c ∷ cs) zero none n l F W Z =
    ap plain (lookup-more never f c cs (omega arith))
    ∙ lerp-zero (lookup (part f c.x) cs) (lookup (part f c.x_n) cs) c.w
    (lookup-held never (part f c.x) cs (omega arith) (F false) W.1).number
    (lookup-held never (part f c.x_n) cs (omega arith) (F true) W.1).number Z
lookup-cut f (h ∷ cs) (suc p) none n l F W Z =
    let short = without p cs in
    let g : Grid = λ ks. f (insert (suc p) (get_or cs p none).x ks) in
    ap plain (lookup-more never f h cs (omega arith))
    ∙ lerp-same (lookup (part f h.x) cs) (lookup (part g h.x) short) (lookup (part f h.x_n) cs) (lookup (part g h.x_n) short) h.w h.w
    (lookup-cut (part f h.x) cs p none (omega arith) (omega arith) (F false) W.1 Z) (lookup-cut (part f h.x_n) cs p none (omega arith) (omega arith) (F true) W.1 Z) refl
    ∙ sym (ap plain (lookup-more never g h short (omega (arith, length_without p cs (omega arith)))))
