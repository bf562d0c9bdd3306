-- Bytes as numbers. Definitions only.
use Rattle.std.specs.Prelude.{ℕ, ◌+◌, ◌*◌, ◌^◌, List, [], ◌∷◌, length, get_or}
use Rattle.lists.specs.Lists.{tabulate}

-- the number that bytes stand for, the first byte counting most
unfoldable pub big_endian : List ℕ → ℕ
big_endian [] = 0
big_endian (b ∷ bs) = b * 256 ^ length bs + big_endian bs

-- the first sixteen bytes, 0 where one is missing
abbrev pub first_sixteen : List ℕ → List ℕ
first_sixteen bytes = tabulate 16 (λ i. get_or bytes i 0)
