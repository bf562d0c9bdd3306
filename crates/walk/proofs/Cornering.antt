-- The loop over the corners: a block more each turn. Assumes nothing.
use Prim.Native.Nat.{ℕ, ◌+◌, ◌-◌, ◌*◌, ◌≤◌}
use native.Mathlib.Omega.{arith}
use native.Mathlib.Decide.{dec_lt}
use mathlib.Core.Path.{◌≡◌, ap, ◌∙◌}
use mathlib.Core.List.{List}
use lib.Ieee.{Float, nan}
use lib.ListN.{length, get_or, take, drop}
use Rattle.lists.specs.Buffer.{written_from}
use Rattle.lists.proofs.Buffer.{length-written-from}
use Rattle.lookup.proofs.Part.{from-drop}
use Rattle.walk.specs.declared.Four.{Four}
use Rattle.walk.specs.Blocks.{lane, Holds}
use Rattle.walk.specs.Walk.{Cornered}
use Rattle.walk.proofs.Blocks.{written-from-at, written-from-before}

module _ (three : ℕ → List Float → Float) (offs : List ℕ) (part : List Float) (left : ℕ) (old : List Float) where
  module _ (now : List Float) (c : ℕ) (done : Cornered three offs part left c old now) where
    pub cornered-more : (f : Four) (next : List Float) → c * 4 + 4 ≤ length old
        → Holds (λ o. three o (take (length part - get_or offs c 0) (drop (get_or offs c 0) part))) left f
        → next ≡ written_from (c * 4) (lane f) 4 now
        → Cornered three offs part left (c + 1) old next
    cornered-more f next fits holds is =
        record {
          room = ap length is ∙ length-written-from (c * 4) (lane f) 4 now ∙ done.room;
          entries = λ e o h four less.
              elim (dec_lt e c) [
                | yes low ↦
                    ap (λ (l : List Float). get_or l (e * 4 + o) nan) is
                    ∙ written-from-before (c * 4) (lane f) 4 now (e * 4 + o) nan (omega arith)
                    ∙ done.entries e o low four less
                | no high ↦
                    let last : e ≡ c = omega arith in
                    rw last
                    (ap (λ (l : List Float). get_or l (c * 4 + o) nan) is
                    ∙ written-from-at (c * 4) (lane f) 4 now o nan four (omega (arith, done.room))
                    ∙ holds o four less
                    ∙ ap (three o) (from-drop part (get_or offs c 0)))
              ];
        }
