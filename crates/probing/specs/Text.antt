-- Numbers and answers as text, in ASCII. Definitions only.
use Rattle.std.specs.Prelude.{ℕ, zero, suc, ◌+◌, ◌/◌, ◌%◌, cond, List, [], ◌∷◌, ◌++◌, map, ltb, Float, length}
use Rattle.std.specs.Float.{binary32}
use Rattle.std.specs.Float.Ieee.{to_bits}
use Rattle.patterns.specs.Hex.{hex_of}

abbrev pub blank : ℕ
blank = 32

abbrev pub new_line : ℕ
new_line = 10

-- n in decimal, for an n below 100
abbrev pub decimal_of : ℕ → List ℕ
decimal_of n = cond (ltb n 10) ((48 + n % 10) ∷ []) ((48 + n / 10 % 10) ∷ (48 + n % 10) ∷ [])

-- the eight digits of a float's bits; a NaN has the bits 7FC00000 here
unfoldable pub bits_of : Float → List ℕ
bits_of x = hex_of (to_bits binary32 x)

-- words, each after one blank; and words separated by one blank
unfoldable pub after_blanks : List (List ℕ) → List ℕ
after_blanks [] = []
after_blanks (w ∷ ws) = blank ∷ (w ++ after_blanks ws)

abbrev pub spaced : List (List ℕ) → List ℕ
spaced [] = []
spaced (w ∷ ws) = w ++ after_blanks ws

-- "ok " and "refused "
abbrev pub ok : List ℕ
ok = 111 ∷ 107 ∷ 32 ∷ []

abbrev pub refused : List ℕ
refused = 114 ∷ 101 ∷ 102 ∷ 117 ∷ 115 ∷ 101 ∷ 100 ∷ 32 ∷ []

-- a word, a number and the end of the line
unfoldable pub head_of : List ℕ → ℕ → List ℕ
head_of word n = word ++ (decimal_of n ++ (new_line ∷ []))

-- on 0 the count of answers and a line of them, on a refusal its number
unfoldable pub report : ℕ → List Float → List ℕ
report zero answers = head_of ok (length answers) ++ (spaced (map bits_of answers) ++ (new_line ∷ []))
report (suc k) answers = head_of refused (suc k)
