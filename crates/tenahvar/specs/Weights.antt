-- What the weights of 8-bit codes through C owe. Definitions only.
use Rattle.std.specs.Prelude.{ℕ, ◌≡◌, List, Float}
use Rattle.lists.specs.Buffer.{left}
use Rattle.weights.specs.Rule.{ranged, weight_cell}

-- what `tenahvar_create_ranged_256` owes: its number r, and the lower nodes x, upper nodes n and weights w of all 256 codes, which were x₀, n₀ and w₀
pub record RangedInto (g : ℕ) (x₀ n₀ : List ℕ) (w₀ : List Float) (r : ℕ) (x n : List ℕ) (w : List Float) : Type 0 where
  pub number : r ≡ (ranged g).refusal
  pub lower : x ≡ left (ranged g).refusal (λ index. (weight_cell g index).x) 256 x₀
  pub upper : n ≡ left (ranged g).refusal (λ index. (weight_cell g index).x_n) 256 n₀
  pub weight : w ≡ left (ranged g).refusal (λ index. (weight_cell g index).w) 256 w₀
