-- Four neighbouring outputs as a block, and what is written of a buffer block by block. For the contracts of private functions alone.
-- Definitions only.
use Rattle.std.specs.Prelude.{ℕ, ◌+◌, ◌<◌, ◌≡◌, List, [], ◌∷◌, Float, length, get_or}
use Rattle.std.specs.Float.{nan}
use Rattle.walk.specs.declared.Four.{Four}

-- output i of a block
abbrev pub lane : Four → ℕ → Float
lane f i = get_or (f.a ∷ f.b ∷ f.c ∷ f.d ∷ []) i nan

-- the block f holds the outputs v
abbrev pub Lanes : (ℕ → Float) → Four → Type 0
Lanes v f = (k : ℕ) → k < 4 → lane f k ≡ v k

-- the same, as far as `left` of them are looked at
abbrev pub Holds : (ℕ → Float) → ℕ → Four → Type 0
Holds v left f = (o : ℕ) → o < 4 → o < left → lane f o ≡ v o

-- the entry at a place of a list
abbrev pub at : List Float → ℕ → Float
at l i = get_or l i nan

-- the entries of a buffer, `now`, which was `old`, are the answers
pub record Gives (f : ℕ → Float) (old now : List Float) : Type 0 where
  pub room : length now ≡ length old
  pub answers : (o : ℕ) → o < length old → get_or now o nan ≡ f o

-- a block written at o: what stands before it is kept
pub record Given (f : ℕ → Float) (o : ℕ) (old now : List Float) : Type 0 where
  pub room : length now ≡ length old
  pub before : (k : ℕ) → k < o → get_or now k nan ≡ get_or old k nan
  pub block : (k : ℕ) → k < 4 → o + k < length old → get_or now (o + k) nan ≡ f k
