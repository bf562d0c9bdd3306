-- What lookups and the node reader refuse by lengths alone. Definitions only.
use Rattle.std.specs.Prelude.{ℕ, cond, not, ltb, eqb}

-- 6 a table shorter than the total and 7 not as many inputs or coordinates as inks, before others
abbrev pub length_refusal : ℕ → ℕ → ℕ → ℕ → ℕ → ℕ
length_refusal total n table given others =
    cond (ltb table total) 6
    (cond (not (eqb given n)) 7
    others)
