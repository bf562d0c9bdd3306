-- Document 02, E6, of the definition. In a table with entries from 0 to 1 the lookup that skips weights of 0 gives the lookup's answers
-- (`skipping-same`), so it meets demand 3 too (`idle-at-a-node`, `idle-on-a-line`). How many nodes it reads by a layout's record:
-- `reads_of`, `reads-most`. Assumes nothing.
use Prim.Native.Nat.{ℕ, zero, suc, ◌-◌, ◌*◌, ◌^◌, ◌≤◌}
use mathlib.Core.Path.{◌≡◌, refl, sym, ap, ◌∙◌}
use mathlib.Core.Bool.{Bool, true, false, cond, true≢false, ◌||◌, beq}
use mathlib.Core.List.{List, [], ◌∷◌}
use native.Mathlib.Nat.{mul-pos, zero-lt-suc, pow-le-pow_right}
use native.Mathlib.Decide.{dec_le}
use native.Mathlib.Omega.{arith}
use lib.Dec.{eqb}
use lib.IntN.{pos}
use lib.Ieee.{Float, nan, inf, fin, eq, up, down, level}
use lib.Ieee.Fits.{up_pos, down_pos}
use lib.ListN.{length}
use lib.Seq.{length-take-le}
use borrow.Author.Tests.{eqb-true}
use Rattle.lists.proofs.Lists.{and_left}
use Rattle.binary32.specs.Blend.{lerp}
use Rattle.binary32.specs.Same.{plain, Same}
use Rattle.binary32.proofs.Units.{Number}
use Rattle.binary32.proofs.Held.{Held}
use Rattle.binary32.proofs.Signs.{lerp-same}
use Rattle.binary32.proofs.Nodes.{lerp-zero}
use Rattle.cell.specs.declared.Cell.{Cell}
use Rattle.cell.specs.Rule.{ink_cell}
use Rattle.layout.specs.declared.MultidimensionalLut.{MultidimensionalLut}
use Rattle.layout.specs.Layout.{IsLayout, ink_sizes}
use Rattle.layout.proofs.Laws.{inks-from, inks-to, ink-count}
use Rattle.lookup.specs.Lookup.{Grid, part, lookup_with, lookup, never, idle}
use Rattle.lookup.specs.Table.{output, cells, answer_with, answer_at}
use Rattle.lookup.specs.Idle.{weights_of, reads_at, fourth_on, active}
use Rattle.lookup.proofs.Counts.{length-weights, length-cells, reads-one, reads_two, reads_three, active-most}
use Rattle.grid_slab.specs.Slab.{without, fewer}
use Rattle.grid_slab.proofs.Fewer.{fewer-outputs}
use Rattle.demands.specs.Demand.{AtANode, OnALine}
use Rattle.demands.specs.Idle.{SameAnswers, ReadsOf, most_reads}
use Rattle.demands.proofs.Each.{Each, Weights}
use Rattle.demands.proofs.Lookups.{lookup-held}
use Rattle.demands.proofs.Lines.{Zero}
use Rattle.demands.proofs.InkCells.{cells_by, by-ink, ink-sound}
use Rattle.demands.proofs.Rules as rules
use Rattle.demands.proofs.Demands.{sizes-are, few, shared, smaller-layout, smaller-shares, at-a-node, on-a-line}

-- ---- the answers

level-first : (s : Bool) (a b : ℕ) → level s a false b ≡ true → eqb a b ≡ true
level-first s a b e = and_left (eqb a b) (beq s false || eqb a 0) e

-- a weight that is skipped is a zero
zero_is : (w : Float) → idle w ≡ true → Zero w
unfolding eq
zero_is nan e = absurd (true≢false (sym e))
zero_is (inf s) e = absurd (true≢false (sym e))
zero_is (fin s zero d) e = refl
zero_is (fin s (suc m) d) e =
    let a = suc m * up d * down (pos 0) in
    let b = 0 * up (pos 0) * down d in
    absurd (omega (arith, eqb-true a b (level-first s a b e), mul-pos (mul-pos (zero-lt-suc m) (up_pos d)) (down_pos (pos 0))))

-- one ink more: where its weight is 0 the upper part counts for nothing
skip_step : (w a b a' b' : Float) (z : Bool) → idle w ≡ z → Number a → Number b → Same a a' → Same b b'
    → Same (lerp a b w) (cond z a' (lerp a' b' w))
skip_step w a b a' b' true is A B low high = lerp-zero a b w A B (zero_is w is) ∙ low
skip_step w a b a' b' false is A B low high = lerp-same a a' b b' w w low high refl

-- over cells and a grid function
skips-same : (f : Grid) (cs : List Cell) → length cs ≤ 1000 → Each (λ ks. Held 0 (f ks)) cs → Weights (Held 0) cs
    → Same (lookup f cs) (lookup_with idle f cs)
unfolding lookup_with
skips-same f [] n F W = refl
skips-same f (c ∷ []) n F W = refl
skips-same f (d ∷ c ∷ []) n F W = refl
skips-same f (e ∷ d ∷ c ∷ []) n F W = refl
skips-same f (h ∷ e ∷ d ∷ c ∷ cs) n F W =
    let rest = e ∷ d ∷ c ∷ cs in
    let lower = part f h.x in
    let upper = part f h.x_n in
    skip_step h.w (lookup lower rest) (lookup upper rest) (lookup_with idle lower rest) (lookup_with idle upper rest) (idle h.w) refl
    (lookup-held never lower rest (omega arith) (F false) W.1).number
    (lookup-held never upper rest (omega arith) (F true) W.1).number
    (skips-same (part f h.x) (e ∷ d ∷ c ∷ cs) (omega arith) (F false) W.1)
    (skips-same (part f h.x_n) (e ∷ d ∷ c ∷ cs) (omega arith) (F true) W.1)

-- for every accepted layout
pub skipping-same : SameAnswers answer_at (answer_with idle)
unfolding answer_with
skipping-same lut is table shares xs o h =
    let gs = ink_sizes lut in
    let f = output lut table o in
    let sized = sizes-are lut is in
    let in_table = shared lut is table shares o h in
    ap (λ (cs : List Cell). plain (lookup f cs)) (by-ink gs xs)
    ∙ skips-same f (cells_by ink_cell gs xs)
    (rules.few-cells ink_cell ink-sound gs sized (few lut is) f in_table xs)
    (rules.entries ink_cell ink-sound gs sized (few lut is) f in_table xs)
    (rules.weights ink_cell ink-sound gs sized (few lut is) f in_table xs)
    ∙ ap (λ (cs : List Cell). plain (lookup_with idle f cs)) (sym (by-ink gs xs))

-- ---- demand 3

-- all inks on grid lines
pub idle-at-a-node : AtANode (answer_with idle)
idle-at-a-node lut is table shares xs accepted lines len on o h =
    sym (skipping-same lut is table shares xs o h) ∙ at-a-node lut is table shares xs accepted lines len on o h

-- one ink from the fourth on, on a grid line
pub idle-on-a-line : OnALine (answer_with idle)
idle-on-a-line lut is table shares xs accepted j k may on old slab cut o h =
    let laid = smaller-layout lut is table shares xs accepted j k may on in
    let smaller = smaller-shares lut is table shares xs accepted j k may on old slab cut in
    let outputs = fewer-outputs lut is (omega (arith, may)) j (omega (arith, may)) may.1 in
    sym (skipping-same lut is table shares xs o h)
    ∙ on-a-line lut is table shares xs accepted j k may on old slab cut o h
    ∙ skipping-same (fewer lut j) laid slab smaller (without (j - 1) xs) o (omega (arith, outputs))

-- ---- the reads

module _ (skip : Float → Bool) (lut : MultidimensionalLut) (is : IsLayout lut) (xs : List Float) where
  abbrev weights : List Float
  weights = weights_of (cells (ink_sizes lut) xs)

  as_many : length weights ≡ lut.input_inks
  as_many = length-weights (cells (ink_sizes lut) xs) ∙ length-cells (ink_sizes lut) xs ∙ ink-count lut is

  -- by the count of inks
  pub reads_of : ReadsOf skip lut.input_inks weights (reads_at skip lut xs)
  unfolding reads_at
  reads_of =
      record {
        one = λ n. reads-one skip weights (as_many ∙ n);
        two = λ n. reads_two skip weights (as_many ∙ n);
        more = λ n. reads_three skip weights (omega (arith, as_many));
      }

  -- twelve inks at most are from the fourth on
  doubled : active skip (fourth_on weights) ≤ 12
  doubled =
      let taken = length-take-le (length weights - 3) weights (omega arith) in
      omega (arith, active-most skip (fourth_on weights), taken, as_many, inks-to lut is)

  -- every accepted layout
  pub reads-most : reads_at skip lut xs ≤ most_reads
  reads-most = elim (dec_le 3 lut.input_inks) [
    | yes n ↦
        let power : 2 ^ active skip (fourth_on weights) ≤ 4096 = pow-le-pow_right (zero-lt-suc 1) doubled in
        omega (arith, reads_of.more n, power)
    | no n ↦ elim (dec_le 2 lut.input_inks) [
      | yes two ↦ omega (arith, reads_of.two (omega arith))
      | no one ↦ omega (arith, reads_of.one (omega (arith, inks-from lut is)))
    ]
  ]
