-- The part that is copied holds the first n sizes.
use Rattle.std.proofs.Common.{◌≡◌, ℕ, ◌≤◌, List, ◌++◌, length, get_or, take, drop, ap, ◌∙◌, arith, length-take-le, get_or-take}
use Rattle.lists.specs.Buffer.{written}
use Rattle.flash.proofs.Parts.{first-written}
use Rattle.flash.proofs.used_sizes.Goals as goal

first-copied : (xs : List ℕ) (n k : ℕ) (old part : List ℕ) → k ≡ n → n ≤ length old → n ≤ length xs → part ≡ take k xs
    → part ++ drop k old ≡ written (λ i. get_or xs i 0) n old
first-copied xs n k old part same room most copied =
    let first : part ≡ take n xs = copied ∙ ap (λ (j : ℕ). take j xs) same in
    ap (λ (j : ℕ). part ++ drop j old) same
    ∙ first-written (λ i. get_or xs i 0) n old part room (ap length first ∙ length-take-le n xs most)
    (λ i h. ap (λ (l : List ℕ). get_or l i 0) first ∙ get_or-take n xs i 0 h)

pub returns : goal.returns
returns c = first-copied _ _ _ _ _ (omega arith) c.requires (omega arith) c.copy_from_slice.ensures.after
