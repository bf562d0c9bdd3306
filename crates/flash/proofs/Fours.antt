-- Four bytes and their word. `joined_of`: the word of four bytes; `word-by`: the word at a place; `joined_back`: a word from its bytes; `byte-back`: a byte from its
-- word; `word_small`: how large a word is; `put-byte`: its bytes as the library puts them. Assumes nothing.
use Rattle.std.proofs.Common.{◌≡◌, ℕ, zero, suc, ◌+◌, ◌*◌, ◌/◌, ◌%◌, ◌<◌, List, [], ◌∷◌, get_or, sym, refl, ap, ◌∙◌, add-zero, div-one, arith}
use native.Mathlib.Nat.{div-div-eq-div-mul}
use Rattle.std.specs.Int.{w32, to_be_bytes}
use Rattle.lists.specs.Lists.{tabulate}
use Rattle.lists.specs.Bytes.{big_endian}
use Rattle.lists.proofs.Lists.{tabulate-same}
use Rattle.flash.specs.File.{word_at, byte_of}

pub joined_of : (a b c d : ℕ) → big_endian (a ∷ b ∷ c ∷ d ∷ []) ≡ a * 16_777_216 + b * 65_536 + c * 256 + d
unfolding big_endian
joined_of a b c d = omega arith

pub word-by : (file : List ℕ) (at : ℕ) → word_at file at ≡ get_or file at 0 * 16_777_216 + get_or file (at + 1) 0 * 65_536 + get_or file (at + 2) 0 * 256 + get_or file (at + 3) 0
unfolding word_at tabulate
word-by file at =
    joined_of (get_or file (at + 0) 0) (get_or file (at + 1) 0) (get_or file (at + 2) 0) (get_or file (at + 3) 0)
    ∙ ap (λ (p : ℕ). get_or file p 0 * 16_777_216 + get_or file (at + 1) 0 * 65_536 + get_or file (at + 2) 0 * 256 + get_or file (at + 3) 0) (add-zero at)

by-fours : (w : ℕ) → w < 4_294_967_296 → w / 256 / 256 / 256 % 256 * 16_777_216 + w / 256 / 256 % 256 * 65_536 + w / 256 % 256 * 256 + w % 256 ≡ w
by-fours w h = omega arith

pub joined_back : (w : ℕ) → w < 4_294_967_296 → byte_of w 0 * 16_777_216 + byte_of w 1 * 65_536 + byte_of w 2 * 256 + byte_of w 3 ≡ w
unfolding byte_of
joined_back w h =
    let two : w / 65_536 ≡ w / 256 / 256 = sym (div-div-eq-div-mul w 256 256) in
    let three : w / 16_777_216 ≡ w / 256 / 256 / 256 = sym (ap (λ (q : ℕ). q / 256) (div-div-eq-div-mul w 256 256) ∙ div-div-eq-div-mul w 65_536 256) in
    (λ k. three k % 256 * 16_777_216 + two k % 256 * 65_536 + w / 256 % 256 * 256 + div-one w k % 256) ∙ by-fours w h

-- each byte of four, by its place
module _ (a b c d : ℕ) (fa : a < 256) (fb : b < 256) (fc : c < 256) (fd : d < 256) where
  abbrev joined : ℕ
  joined = a * 16_777_216 + b * 65_536 + c * 256 + d

  first : joined / 16_777_216 % 256 ≡ a
  first = omega arith

  second : joined / 65_536 % 256 ≡ b
  second = omega arith

  third : joined / 256 % 256 ≡ c
  third = omega arith

  fourth : joined / 1 % 256 ≡ d
  fourth = omega arith

pub byte-zero : (i : ℕ) → i < 4 → byte_of 0 i ≡ 0
unfolding byte_of
byte-zero zero h = refl
byte-zero (suc zero) h = refl
byte-zero (suc (suc zero)) h = refl
byte-zero (suc (suc (suc zero))) h = refl
byte-zero (suc (suc (suc (suc i)))) h = absurd (omega arith)

module _ (file : List ℕ) (each : (i : ℕ) → get_or file i 0 < 256) where
  pub byte-back : (at i : ℕ) → i < 4 → byte_of (word_at file at) i ≡ get_or file (at + i) 0
  unfolding byte_of
  byte-back at zero h = ap (λ (w : ℕ). byte_of w 0) (word-by file at) ∙ first _ _ _ _ (each at) (each (at + 1)) (each (at + 2)) (each (at + 3)) ∙ ap (λ (p : ℕ). get_or file p 0) (sym (add-zero at))
  byte-back at (suc zero) h = ap (λ (w : ℕ). byte_of w 1) (word-by file at) ∙ second _ _ _ _ (each at) (each (at + 1)) (each (at + 2)) (each (at + 3))
  byte-back at (suc (suc zero)) h = ap (λ (w : ℕ). byte_of w 2) (word-by file at) ∙ third _ _ _ _ (each at) (each (at + 1)) (each (at + 2)) (each (at + 3))
  byte-back at (suc (suc (suc zero))) h = ap (λ (w : ℕ). byte_of w 3) (word-by file at) ∙ fourth _ _ _ _ (each at) (each (at + 1)) (each (at + 2)) (each (at + 3))
  byte-back at (suc (suc (suc (suc i)))) h = absurd (omega arith)

  pub word_small : (at : ℕ) → word_at file at < 4_294_967_296
  word_small at = let a = each at in let b = each (at + 1) in let c = each (at + 2) in let d = each (at + 3) in omega (arith, word-by file at)

-- a word by its four bytes
pub word_of : (file : List ℕ) (at w : ℕ) → w < 4_294_967_296 → ((i : ℕ) → i < 4 → get_or file (at + i) 0 ≡ byte_of w i) → word_at file at ≡ w
unfolding word_at tabulate
word_of file at w small bytes =
    joined_of (get_or file (at + 0) 0) (get_or file (at + 1) 0) (get_or file (at + 2) 0) (get_or file (at + 3) 0)
    ∙ (λ k. bytes 0 (omega arith) k * 16_777_216 + bytes 1 (omega arith) k * 65_536 + bytes 2 (omega arith) k * 256 + bytes 3 (omega arith) k)
    ∙ joined_back w small

-- four bytes that are 0
pub word-zero : (file : List ℕ) (at : ℕ) → ((i : ℕ) → i < 4 → get_or file (at + i) 0 ≡ 0) → word_at file at ≡ 0
word-zero file at bytes = word_of file at 0 (omega arith) (λ i h. bytes i h ∙ sym (byte-zero i h))

-- words of the same four bytes
pub word_same : (xs ys : List ℕ) (a b : ℕ) → ((i : ℕ) → i < 4 → get_or xs (a + i) 0 ≡ get_or ys (b + i) 0) → word_at xs a ≡ word_at ys b
unfolding word_at
word_same xs ys a b same = ap big_endian (tabulate-same 4 (λ i. get_or xs (a + i) 0) (λ i. get_or ys (b + i) 0) same)

-- ---- as the library puts a word

pub put-byte : (w i : ℕ) → i < 4 → get_or (to_be_bytes w32 w) i 0 ≡ byte_of w i
unfolding byte_of
put-byte w zero h = refl
put-byte w (suc zero) h = refl
put-byte w (suc (suc zero)) h = refl
put-byte w (suc (suc (suc zero))) h = ap (λ (v : ℕ). v % 256) (sym (div-one w))
put-byte w (suc (suc (suc (suc i)))) h = absurd (omega arith)
