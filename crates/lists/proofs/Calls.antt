-- An array of the values that a closure gave, which keeps what it captured: `from-fn-is`, it is the list of the closure's rule.
-- Assumes nothing.
use Rattle.std.proofs.Common.{◌≡◌, ℕ, zero, suc, ◌+◌, ◌<◌, ◌≤◌, List, get_or, sym, ◌∙◌, ap, arith}
use Rattle.std.specs.Fn.{Mut, Called}
use Rattle.std.specs.Array.{IsFromFnResult, IsFromFnResultFrom}
use native.Mathlib.Decide.{dec_lt}
use lib.Seq.{ext_get_or}
use Rattle.lists.specs.Lists.{tabulate}
use Rattle.lists.proofs.Lists.{length-tabulate, get_or-tabulate}

module _ {F B : Type 0} (g : Mut F (ℕ × Unit {0}) B) (rule : F → ℕ → B) (n : ℕ)
    (calls : (p q : F) (i : ℕ) (y : B) → i < n → Called g p (i, tt) y q → (y ≡ rule p i) × (q ≡ p)) (d : B) where
  -- the entries from i on
  entries : (f : F) (ys : List B) (i m : ℕ) → i + m ≤ n → IsFromFnResultFrom g f ys i m → (k : ℕ) → i ≤ k → k < i + m → get_or ys k d ≡ rule f k
  entries f ys i zero within each k from to = absurd (omega arith)
  entries f ys i (suc m) within (q, y, at, called, rest) k from to =
      let here = calls f q i y (omega arith) called in
      elim (dec_lt i k) [
        | yes later ↦ entries q ys (i + 1) m (omega arith) rest k (omega arith) (omega arith) ∙ ap (λ (p : F). rule p k) here.1
        | no now ↦ let same : k ≡ i = omega arith in rw same (at.1 d ∙ here.0)
      ]

  pub from-fn-is : (f : F) (ys : List B) → IsFromFnResult g f ys n → ys ≡ tabulate n (rule f)
  from-fn-is f ys made =
      ext_get_or d ys (tabulate n (rule f)) (made.long ∙ sym (length-tabulate n (rule f))) (λ k l.
      let below : k < n = omega (arith, made.long) in
      entries f ys 0 n (omega arith) made.each k (omega arith) (omega arith) ∙ sym (get_or-tabulate n (rule f) k d below))
