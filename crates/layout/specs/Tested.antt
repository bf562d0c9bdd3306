-- What the functions that lay out ask of each other and owe each other. Definitions only.
use Rattle.std.specs.Prelude.{ℕ, ◌≤◌, ◌≡◌, true, List, T, ltb, length, take}
use Rattle.std.proofs.Math.Pow.{are_bytes}
use Rattle.lists.specs.Lists.{every}
use Rattle.layout.specs.Layout.{limit, total, laid_of}

-- the sizes of a call: sixteen bytes
pub record Sixteen (sizes : List ℕ) : Type 0 where
  pub sixteen : length sizes ≡ 16
  pub bytes : T (are_bytes sizes)

-- r is the layout's number
pub record Tested (sizes : List ℕ) (n m r : ℕ) : Type 0 where
  pub known : Sixteen sizes
  pub number : r ≡ (laid_of sizes n m).refusal

-- a row of n places, of which the last holds `first`, stays within the limit
pub record Fills (sizes : List ℕ) (n first : ℕ) : Type 0 where
  pub known : Sixteen sizes
  pub few : n ≤ 15
  pub above : every (ltb 0) (take n sizes) ≡ true
  pub within : total (take n sizes) first ≤ limit
