-- The reads that a lookup with skipping answers. Definitions only.
use Rattle.std.specs.Prelude.{ℕ, Result, Ok, Err}
use Rattle.outcome.specs.declared.Refusal.{Refusal}

-- how many nodes were read: 0 of a refused call
abbrev pub count_in : Result ℕ Refusal → ℕ
count_in (Ok count) = count
count_in (Err refusal) = 0
