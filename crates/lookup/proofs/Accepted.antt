-- What a lookup by an accepted layout's record owes is what the lookup by sizes owes, and what is owed where the layout is refused.
-- Assumes nothing.
use Prim.Native.Nat.{ℕ}
use mathlib.Core.Path.{◌≡◌, sym, ap, ◌∙◌}
use mathlib.Core.Bool.{Bool}
use mathlib.Core.List.{List}
use lib.Ieee.{Float}
use lib.ListN.{length}
use Rattle.std.specs.Prelude.{Err}
use Rattle.outcome.specs.declared.Refusal.{Refusal}
use Rattle.outcome.specs.Refused.{number_of}
use Rattle.outcome.specs.Outcome.{or_else}
use Rattle.outcome.proofs.Numbers.{not_done}
use Rattle.outcome.proofs.Refused.{refused-first}
use Rattle.lists.specs.Buffer.{left}
use Rattle.lists.proofs.Buffer.{unwritten}
use Rattle.layout.specs.Layout.{Laid, laid_in, laid_of, refused_by, LaidBy}
use Rattle.layout.proofs.BySizes.{laid-outputs}
use Rattle.lookup.specs.Table.{answer_with, refusal, refusal_by_sizes, LookedWith, LookedBySizesWith}

pub refused-laid : (skip : Float → Bool) (sizes : List ℕ) (n m : ℕ) (e : Refusal) → LaidBy sizes n m (laid_in (Err e))
    → (table inputs old : List Float) → LookedBySizesWith skip sizes n m table inputs old (number_of e) old
unfolding refused_by
refused-laid skip sizes n m e by table inputs old =
    let number = refused-first _ _ (not_done e) (ap (λ (l : Laid). l.refusal) by.answer) in
    record { number = number; entries = unwritten _ _ _ _ (not_done e) number }

pub looked-laid : (skip : Float → Bool) (sizes : List ℕ) (n m : ℕ) (laid : Laid) → LaidBy sizes n m laid → laid.refusal ≡ 0
    → (table inputs old : List Float) (r : ℕ) (now : List Float) → LookedWith skip laid.lut table inputs old r now
    → LookedBySizesWith skip sizes n m table inputs old r now
looked-laid skip sizes n m laid by zero table inputs old r now looked =
    let none : (laid_of sizes n m).refusal ≡ 0 = sym (ap (λ (l : Laid). l.refusal) by.answer) ∙ zero in
    let decided = looked.decides.found (by.accepted zero) in
    let number : r ≡ refusal_by_sizes sizes n m (length table) inputs (length old) =
    looked.number ∙ (λ i. or_else (sym none i) (refusal (decided i) (by.answer i).lut (length table) inputs (length old))) in
    record {
      number = number;
      entries = looked.entries ∙ (λ i. left (number i) (answer_with skip (by.answer i).lut table inputs) (outputs i) old);
    }
  where
    outputs : laid.lut.output_inks ≡ m
    outputs = ap (λ (l : Laid). l.lut.output_inks) by.answer ∙ laid-outputs sizes n m (sym (ap (λ (l : Laid). l.refusal) by.answer) ∙ zero)
