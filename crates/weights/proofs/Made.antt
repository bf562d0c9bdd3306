-- An array that `from_fn` made by calls that leave the closure as it was is the list of the rule that they follow. Assumes nothing.
use Prim.Native.Nat.{ℕ, zero, suc, ◌+◌, ◌≤◌, ◌<◌}
use mathlib.Core.Path.{◌≡◌, sym, ◌∙◌, subst}
use mathlib.Core.List.{List}
use native.Mathlib.Decide.{dec_lt}
use native.Mathlib.Omega.{arith}
use denote.Param.Members.{Mut, Called}
use lib.ListN.{get_or}
use lib.Seq.{ext_get_or}
use Rattle.std.specs.Array.{IsFromFnResult, IsFromFnResultFrom}
use Rattle.lists.specs.Lists.{tabulate}
use Rattle.lists.proofs.Lists.{length-tabulate, get_or-tabulate}

module _
    {F B : Type 0} (g : Mut F (ℕ × Unit {0}) B) (f : F) (rule : ℕ → B) (d : B) (n : ℕ)
    (call : (i : ℕ) (y : B) (q : F) → i < n → Called g f (i, tt) y q → (y ≡ rule i) × (q ≡ f))
  where
    from : (ys : List B) (i k : ℕ) → i + k ≤ n → IsFromFnResultFrom g f ys i k → (j : ℕ) → i ≤ j → j < i + k → get_or ys j d ≡ rule j
    from ys i zero l made j low high = absurd (omega arith)
    from ys i (suc k) l made j low high =
        let here = call i made.1 made.0 (omega arith) made.3 in
        elim (dec_lt i j) [
          | yes past ↦
              let rest = subst (λ (q : F). IsFromFnResultFrom g q ys (i + 1) k) here.1 made.4 in
              from ys (i + 1) k (omega arith) rest j (omega arith) (omega arith)
          | no first ↦
              let same : j ≡ i = omega arith in
              rw same (made.2.1 d ∙ here.0)
        ]

    pub made_by : (ys : List B) → IsFromFnResult g f ys n → ys ≡ tabulate n rule
    made_by ys made =
        ext_get_or d ys (tabulate n rule) (made.long ∙ sym (length-tabulate n rule)) (λ k h.
        let below : k < n = omega (arith, made.long) in
        from ys 0 n (omega arith) made.each k (omega arith) (omega arith) ∙ sym (get_or-tabulate n rule k d below))
