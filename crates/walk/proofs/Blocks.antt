-- Blocks of four: loaded, stored, given. Assumes nothing.
use Prim.Native.Nat.{ℕ, zero, suc, ◌+◌, ◌≤◌, ◌<◌}
use native.Mathlib.Omega.{arith}
use native.Mathlib.Nat.{add-zero, not-suc-le-zero}
use native.Mathlib.Decide.{dec_lt}
use mathlib.Core.Path.{◌≡◌, refl, ap, ◌∙◌}
use mathlib.Core.List.{List}
use lib.Ieee.{Float, nan}
use lib.ListN.{length, get_or, set}
use lib.Seq.{get_or-set_same, get_or-set_other}
use Rattle.lists.specs.Buffer.{written_from}
use Rattle.lists.proofs.Buffer.{length-written-from, written-from-next}
use Rattle.walk.specs.declared.Four.{Four}
use Rattle.walk.specs.Blocks.{lane, Given}

-- ---- a stretch of a list: what is set, and what is kept

module _ {A : Type 0} (from : ℕ) (f : ℕ → A) where
  pub written-from-at : (m : ℕ) (old : List A) (k : ℕ) (d : A) → k < m → from + m ≤ length old → get_or (written_from from f m old) (from + k) d ≡ f k
  unfolding written_from
  written-from-at zero old k d h l = absurd (not-suc-le-zero h)
  written-from-at (suc m) old k d h l =
      elim (dec_lt k m) [
        | yes low ↦ get_or-set_other (written_from from f m old) (from + m) (from + k) (f m) d (λ e. omega arith) ∙ written-from-at m old k d low (omega arith)
        | no high ↦
            let last : k ≡ m = omega arith in
            rw last (get_or-set_same (written_from from f m old) (from + m) (f m) d (omega (arith, length-written-from from f m old)))
      ]

  pub written-from-before : (m : ℕ) (old : List A) (k : ℕ) (d : A) → k < from → get_or (written_from from f m old) k d ≡ get_or old k d
  unfolding written_from
  written-from-before zero old k d h = refl
  written-from-before (suc m) old k d h = get_or-set_other (written_from from f m old) (from + m) k (f m) d (λ e. omega arith) ∙ written-from-before m old k d h

-- four stores
pub stored : (s : List Float) (i : ℕ) (f : Four) → set (set (set (set s i f.a) (i + 1) f.b) (i + 2) f.c) (i + 3) f.d ≡ written_from i (lane f) 4 s
unfolding written_from
stored s i f = rw (add-zero i) refl

-- ---- a block given

pub given-block : (f : ℕ → Float) (o n : ℕ) (old now : List Float) → now ≡ written_from o f n old → o + n ≤ length old → ((k : ℕ) → k < 4 → o + k < length old → k < n) → Given f o old now
given-block f o n old now is fits all =
    record {
      room = ap length is ∙ length-written-from o f n old;
      before = λ k h. ap (λ (l : List Float). get_or l k nan) is ∙ written-from-before o f n old k nan h;
      block = λ k h less. ap (λ (l : List Float). get_or l (o + k) nan) is ∙ written-from-at o f n old k nan (all k h less) fits;
    }

pub given-next : (f : ℕ → Float) (o i : ℕ) (old now : List Float) → now ≡ written_from o f i old → set now (o + i) (f i) ≡ written_from o f (i + 1) old
given-next f o i old now is = ap (λ (l : List Float). set l (o + i) (f i)) is ∙ written-from-next o f i old
