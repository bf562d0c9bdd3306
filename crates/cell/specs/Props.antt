-- A float lies below a number in one way: for the invariant of a private struct. No contract rests on this file.
use Rattle.std.specs.Prelude.{ℕ, true, false, Float}
use Rattle.std.specs.Float.{nan, inf, fin}
use Rattle.std.specs.Coded.{le_prop}
use Rattle.binary32.specs.Range.{Below}

pub below-prop : (n : ℕ) (p : Float) → IsProp (Below n p)
below-prop n nan = λ a b. absurd a
below-prop n (inf s) = λ a b. absurd a
below-prop n (fin true m e) = λ a b. absurd a
below-prop n (fin false m e) = le_prop
