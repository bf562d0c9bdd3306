-- The numbers of refusals. Definitions only.
use Rattle.std.specs.Prelude.{ℕ, Result, Ok, Err}
use Rattle.outcome.specs.declared.Refusal.{Refusal}
use Rattle.outcome.specs.declared.Refusal.TheVariants.{InputInks, OutputInks, ZeroSize, LargeTotal, ShortTable, InputCount, ShortAnswer, ForeignRecord, OutsideGrid, NoSuchInk, NoSuchLine, ShortElement, Precision, ShortData, NanInput, FileLength, BlockCheck, BlockNumber, BlockFilling}

-- document 01's number of a refusal; 4 is given no more
abbrev pub number_of : Refusal → ℕ
number_of InputInks = 1
number_of OutputInks = 2
number_of ZeroSize = 3
number_of LargeTotal = 5
number_of ShortTable = 6
number_of InputCount = 7
number_of ShortAnswer = 8
number_of ForeignRecord = 9
number_of OutsideGrid = 10
number_of NoSuchInk = 11
number_of NoSuchLine = 12
number_of ShortElement = 13
number_of Precision = 14
number_of ShortData = 15
number_of NanInput = 16
number_of FileLength = 17
number_of BlockCheck = 18
number_of BlockNumber = 19
number_of BlockFilling = 20

-- the number that an answer stands for: 0 is done, any other a refusal's
abbrev pub number_in : {A : Type 0} → Result A Refusal → ℕ
number_in (Ok a) = 0
number_in (Err refusal) = number_of refusal
