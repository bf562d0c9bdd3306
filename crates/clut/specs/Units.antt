-- Values of one byte or of two as numbers from 0 to 1: the data of a CLUT element (document 02, E2), and any other such data. Definitions only.
use Rattle.std.specs.Prelude.{ℕ, ◌-◌, ◌*◌, ◌^◌, ◌≡◌, Bool, cond, not, ◌||◌, List, Float, ltb, eqb, length, take, drop}
use Rattle.binary32.specs.Numbers.{unit_of}
use Rattle.lists.specs.Buffer.{left}
use Rattle.lists.specs.Bytes.{big_endian}

-- the precision is the number of bytes of a value
unfoldable pub is_precision : ℕ → Bool
is_precision precision = eqb precision 1 || eqb precision 2

-- value e of data with `width` bytes for each, the first byte counting most
unfoldable pub value_at : ℕ → List ℕ → ℕ → ℕ
value_at width bytes e = big_endian (take width (drop (width * e) bytes))

-- a value v becomes the entry v / 255 or v / 65535, rounded once
unfoldable pub entry_at : ℕ → List ℕ → ℕ → Float
entry_at width bytes e = unit_of (256 ^ width - 1) (value_at width bytes e)

-- 14, 15, 8, of the precision, the bytes of data, the count of values and the places of the buffer
unfoldable pub data_refusal : ℕ → ℕ → ℕ → ℕ → ℕ
data_refusal precision bytes count room =
    cond (not (is_precision precision)) 14
    (cond (ltb bytes (precision * count)) 15
    (cond (ltb room count) 8 0))

-- what `read_units` owes: its number r, and the buffer afterwards, `now`, which was `old`
pub record UnitsRead (bytes : List ℕ) (precision count : ℕ) (old : List Float) (r : ℕ) (now : List Float) : Type 0 where
  pub number : r ≡ data_refusal precision (length bytes) count (length old)
  pub entries : now ≡ left r (entry_at precision bytes) count old
