-- What a call leaves in a buffer that was lent to it. Definitions only.
use Rattle.std.specs.Prelude.{ℕ, zero, suc, ◌+◌, List, set}

-- the old list with f k at each place k below m
unfoldable pub written : {A : Type 0} → (ℕ → A) → ℕ → List A → List A
written f zero old = old
written f (suc k) old = set (written f k old) k (f k)

-- the old list with f k at each place from + k, for k below m
unfoldable pub written_from : {A : Type 0} → ℕ → (ℕ → A) → ℕ → List A → List A
written_from from f zero old = old
written_from from f (suc k) old = set (written_from from f k old) (from + k) (f k)

-- after a call that gave the number r: on 0 the first m entries are set and no others, on a refusal none
abbrev pub left : {A : Type 0} → ℕ → (ℕ → A) → ℕ → List A → List A
left zero f m old = written f m old
left (suc r) f m old = old
