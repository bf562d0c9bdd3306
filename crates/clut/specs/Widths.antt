-- The bytes of a width, for the contracts of private functions alone: no public statement rests on this file. Definitions only.
use Rattle.std.specs.Prelude.{ℕ}
use Rattle.clut.specs.declared.values.Width.{Width}
use Rattle.clut.specs.declared.values.Width.TheVariants.{One, Two}

abbrev pub bytes_of : Width → ℕ
bytes_of One = 1
bytes_of Two = 2
