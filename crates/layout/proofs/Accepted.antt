-- When a layout is accepted.
-- Assumes nothing.
use Prim.Native.Nat.{ℕ, suc, ◌≤◌}
use mathlib.Core.Path.{◌≡◌, refl, sym, ap}
use mathlib.Core.Bool.{Bool, true, false, not, cond}
use mathlib.Core.List.{List}
use native.Mathlib.Omega.{arith}
use lib.Dec.{ltb}
use borrow.Author.Tests.{not-false, ltb-false, le-ltb}
use Rattle.lists.specs.Lists.{every}
use Rattle.layout.specs.Layout.{limit, total, is_count, record_of, refused_by, laid_using}
use Rattle.layout.specs.declared.MultidimensionalLut.{MultidimensionalLut}
use Rattle.layout.specs.Layout.{Laid}

-- the sizes in use and the counts pass every test
pub record Accepted (used : List ℕ) (n m : ℕ) : Type 0 where
  pub n-counts : is_count n ≡ true
  pub m-counts : is_count m ≡ true
  pub above : every (ltb 0) used ≡ true
  pub within : total used m ≤ limit

abbrev pub done : MultidimensionalLut → Laid
done lut = record { refusal = 0; lut = lut }

-- where the answer is `done`, a test that refuses did not hold
passed : (b : Bool) (k : ℕ) (rest : Laid) (lut : MultidimensionalLut) → cond b (refused_by (suc k)) rest ≡ done lut → (b ≡ false) × (rest ≡ done lut)
unfolding refused_by
passed true k rest lut h = let z : suc k ≡ 0 = ap (λ (l : Laid). l.refusal) h in absurd (omega arith)
passed false k rest lut h = (refl, h)

pub accepted-of : (used : List ℕ) (n m : ℕ) (lut : MultidimensionalLut) → laid_using used n m ≡ done lut → Accepted used n m × (lut ≡ record_of used n m)
unfolding laid_using
accepted-of used n m lut h =
    let a = passed (not (is_count n)) 0 _ lut h in
    let b = passed (not (is_count m)) 1 _ lut a.1 in
    let c = passed (not (every (ltb 0) used)) 2 _ lut b.1 in
    let d = passed (ltb limit (total used m)) 4 _ lut c.1 in (
      record {
        n-counts = not-false _ a.0;
        m-counts = not-false _ b.0;
        above = not-false _ c.0;
        within = ltb-false _ _ d.0;
      },
      sym (ap (λ (l : Laid). l.lut) d.1),
    )

-- and what passes every test is accepted
pub laid-accepted : (used : List ℕ) (n m : ℕ) → Accepted used n m → laid_using used n m ≡ done (record_of used n m)
unfolding laid_using
laid-accepted used n m ok =
    simp (ok.n-counts, ok.m-counts, ok.above, le-ltb limit (total used m) ok.within)
