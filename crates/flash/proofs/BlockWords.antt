-- A block written word by word: `block-first`, `block-next`, `block-fill`, `block_last`; its sum: `sum_first`, `sum_all`. `block-byte`: byte i of word q; `byte-same`: its words
-- alone determine it. Assumes nothing.
use Rattle.std.proofs.Common.{◌≡◌, ℕ, zero, suc, ◌+◌, ◌-◌, ◌*◌, ◌/◌, ◌%◌, ◌<◌, ◌≤◌, List, sym, refl, ap, ◌∙◌, add-zero, mod-eq_of_lt, zero-add, add-one, arith, lt-ltb}
use native.Mathlib.Decide.{dec_lt}
use Rattle.lists.specs.Buffer.{written_from}
use Rattle.lists.proofs.Buffer.{written-from-on}
use Rattle.flash.proofs.Sums.{sum_same, sum_past}
use Rattle.flash.proofs.Fours.{byte-zero}
use Rattle.flash.specs.File.{byte_of, sum_to, front, check_of, block_word, block_byte}

quotient : (q i : ℕ) → i < 4 → (4 * q + i) / 4 ≡ q
quotient q i h = omega arith

remainder : (q i : ℕ) → i < 4 → (4 * q + i) % 4 ≡ i
remainder q i h = omega arith

module _ (b : ℕ) (contents : ℕ → ℕ) where
  pub block-byte : (q i : ℕ) → i < 4 → block_byte b contents (4 * q + i) ≡ byte_of (block_word b contents q) i
  unfolding block_byte
  block-byte q i h = λ j. byte_of (block_word b contents (quotient q i h j)) (remainder q i h j)

  word_first : block_word b contents 0 ≡ b
  unfolding block_word front
  word_first = refl

  pub word_next : (j : ℕ) → j < 126 → block_word b contents (j + 1) ≡ contents j
  unfolding block_word front
  word_next j h = rw (add-one j) (simp (lt-ltb (suc j) 127 (omega arith)))

  word-last : block_word b contents 127 ≡ check_of (front b contents)
  unfolding block_word
  word-last = refl

  -- a word q of the block next to those before it
  word_more : (at q w : ℕ) (old : List ℕ) → w ≡ block_word b contents q
      → written_from (at + 4 * q) (byte_of w) 4 (written_from at (block_byte b contents) (4 * q) old) ≡ written_from at (block_byte b contents) (4 * q + 4) old
  word_more at q w old is = written-from-on at (4 * q) (byte_of w) (block_byte b contents) 4 old (λ i h. ap (λ (v : ℕ). byte_of v i) is ∙ sym (block-byte q i h))

  pub block-first : (at : ℕ) (old new : List ℕ) → new ≡ written_from at (byte_of b) 4 old → new ≡ written_from at (block_byte b contents) (4 * (0 + 1)) old
  unfolding written_from
  block-first at old new is = is ∙ ap (λ (p : ℕ). written_from p (byte_of b) 4 old) (sym (add-zero at)) ∙ word_more at 0 b old (sym word_first)

  place : (at j : ℕ) → at + 4 + 4 * j ≡ at + 4 * (j + 1)
  place at j = omega arith

  count : (j : ℕ) → 4 * (j + 1) + 4 ≡ 4 * (j + 1 + 1)
  count j = omega arith

  pub block-next : (at j w : ℕ) (old file new : List ℕ) → j < 126 → file ≡ written_from at (block_byte b contents) (4 * (j + 1)) old → w ≡ contents j
      → new ≡ written_from (at + 4 + 4 * j) (byte_of w) 4 file → new ≡ written_from at (block_byte b contents) (4 * (j + 1 + 1)) old
  block-next at j w old file new h before word is =
      is
      ∙ (λ i. written_from (place at j i) (byte_of w) 4 (before i))
      ∙ word_more at (j + 1) w old (word ∙ sym (word_next j h))
      ∙ ap (λ (k : ℕ). written_from at (block_byte b contents) k old) (count j)

  pub block_last : (at w : ℕ) (old file new : List ℕ) → file ≡ written_from at (block_byte b contents) (4 * (126 + 1)) old → w ≡ check_of (front b contents)
      → new ≡ written_from (at + 508) (byte_of w) 4 file → new ≡ written_from at (block_byte b contents) 512 old
  block_last at w old file new before word is =
      is ∙ ap (written_from (at + 508) (byte_of w) 4) before ∙ word_more at 127 w old (word ∙ sym word-last)

  -- the sum with the number alone
  pub sum_first : b < 4_294_967_296 → b ≡ sum_to (front b contents) (0 + 1) % 4_294_967_296
  unfolding sum_to front
  sum_first h = sym (ap (λ (z : ℕ). z % 4_294_967_296) (zero-add b) ∙ mod-eq_of_lt h)

  pub front-next : (j : ℕ) → front b contents (j + 1) ≡ contents j
  unfolding front
  front-next j = rw (add-one j)

  -- the words from j on are 0
  module _ (j : ℕ) (few : j ≤ 126) (none : (k : ℕ) → j ≤ k → k < 126 → contents k ≡ 0) where
    front-none : (i : ℕ) → j + 1 ≤ i → i < j + 1 + (126 - j) → front b contents i ≡ 0
    front-none i h l = let next : i ≡ i - 1 + 1 = omega arith in ap (front b contents) next ∙ front-next (i - 1) ∙ none (i - 1) (omega arith) (omega arith)

    -- and add nothing to the sum
    pub sum_all : sum_to (front b contents) (j + 1) % 4_294_967_296 ≡ check_of (front b contents)
    unfolding check_of
    sum_all =
        let all : j + 1 + (126 - j) ≡ 127 = omega arith in
        ap (λ (s : ℕ). s % 4_294_967_296) (sym (sum_past (front b contents) (j + 1) (126 - j) front-none) ∙ ap (sum_to (front b contents)) all)

    split : (i : ℕ) → 4 * (j + 1) + i ≡ 4 * (j + i / 4 + 1) + i % 4
    split i = omega arith

    byte_none : (i : ℕ) → i < 504 - 4 * j → block_byte b contents (4 * (j + 1) + i) ≡ 0
    byte_none i h =
        ap (block_byte b contents) (split i)
        ∙ block-byte (j + i / 4 + 1) (i % 4) (omega arith)
        ∙ ap (λ (w : ℕ). byte_of w (i % 4)) (word_next (j + i / 4) (omega arith) ∙ none (j + i / 4) (omega arith) (omega arith))
        ∙ byte-zero (i % 4) (omega arith)

    pub block-fill : (at from : ℕ) (old file new : List ℕ) → from ≡ at + 4 + 4 * j → file ≡ written_from at (block_byte b contents) (4 * (j + 1)) old
        → new ≡ written_from from (λ i. 0) (504 - 4 * j) file → new ≡ written_from at (block_byte b contents) (4 * (126 + 1)) old
    block-fill at from old file new here before is =
        let all : 4 * (j + 1) + (504 - 4 * j) ≡ 4 * (126 + 1) = omega arith in
        is
        ∙ (λ i. written_from ((here ∙ place at j) i) (λ k. 0) (504 - 4 * j) (before i))
        ∙ written-from-on at (4 * (j + 1)) (λ k. 0) (block_byte b contents) (504 - 4 * j) old (λ i h. sym (byte_none i h))
        ∙ ap (λ (n : ℕ). written_from at (block_byte b contents) n old) all

-- a block depends on its first 126 words alone
module _ (b : ℕ) (f g : ℕ → ℕ) (same : (j : ℕ) → j < 126 → f j ≡ g j) where
  front-same : (j : ℕ) → j < 127 → front b f j ≡ front b g j
  unfolding front
  front-same zero h = refl
  front-same (suc j) h = same j (omega arith)

  word-same : (j : ℕ) → j < 128 → block_word b f j ≡ block_word b g j
  unfolding block_word check_of
  word-same j h =
      elim (dec_lt j 127) [
        | yes low ↦ simp (lt-ltb j 127 low) (front-same j low)
        | no high ↦ let last : j ≡ 127 = omega arith in rw last (ap (λ (s : ℕ). s % 4_294_967_296) (sum_same (front b f) (front b g) 127 front-same))
      ]

  pub byte-same : (k : ℕ) → k < 512 → block_byte b f k ≡ block_byte b g k
  unfolding block_byte
  byte-same k h = ap (λ (w : ℕ). byte_of w (k % 4)) (word-same (k / 4) (omega arith))
