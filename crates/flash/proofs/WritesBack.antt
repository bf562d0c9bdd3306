-- EVERY FILE ACCEPTED WRITES BACK TO THE SAME BYTES: `writes-back`. The file of the layout that was read, and of a table that begins with the entries that were read,
-- is the file that was read. Assumes nothing.
use Rattle.std.proofs.Common.{◌≡◌, ℕ, zero, suc, ◌+◌, ◌-◌, ◌*◌, ◌/◌, ◌%◌, ◌<◌, ◌≤◌, min, true, not, eqb, List, ◌∷◌, length, get_or, take, drop, sym, ap, ◌∙◌, subst, add-zero, arith, length-take-le, get_or-drop, get_or-take, ext_get_or, lt-ltb, eqb-true}
use native.Mathlib.Decide.{dec_lt}
use lib.ListN.{get_or-eq_default}
use borrow.Author.Tests.{not-false}
use Rattle.outcome.proofs.Refused.{neither, passed}
use Rattle.lists.proofs.Lists.{get_or-tabulate}
use Rattle.layout.specs.declared.MultidimensionalLut.{MultidimensionalLut}
use Rattle.layout.specs.Layout.{IsLayout}
use Rattle.layout.proofs.BySizes.{laid-inks, laid-outputs, laid-size}
use Rattle.layout.proofs.Facts.{Facts, facts-of, unused-at}
use Rattle.layout.proofs.Laws.{inks-to}
use Rattle.flash.specs.File.{word_at, byte_of, front, check_of, block_word, block_byte, blocks_for, file_length, contents_of, file_byte, file_of, table_file}
use Rattle.flash.specs.Refusals.{zeros, block_refusal, head_used, body_used, body_refusal, inks_in, outputs_in, sizes_in, layout_in, total_in, read_refusal}
use Rattle.flash.specs.Read.{entry_in}
use Rattle.flash.proofs.Sums.{sum_same}
use Rattle.flash.proofs.Filling.{zeros-at}
use Rattle.flash.proofs.Bodies.{rest-none}
use Rattle.flash.proofs.Files.{file-long, entry_at}
use Rattle.flash.proofs.Reading.{block_number, head-none, read_none, file-is-layout}
use Rattle.flash.proofs.Writing.{file-length, file-at}
use Rattle.flash.proofs.Fours.{byte-back, word-zero, word_same}

-- what a block that passed says
pub block_none : (file : List ℕ) (at b used : ℕ) → block_refusal file at b used ≡ 0
    → (check_of (λ j. word_at file (at + 4 * j)) ≡ word_at file (at + 508)) × (word_at file at ≡ b) × (zeros file (at + used) (508 - used) ≡ true)
unfolding block_refusal
block_none file at b used e =
    let check = passed (not (eqb (check_of (λ j. word_at file (at + 4 * j))) (word_at file (at + 508)))) 18 _ (λ z. omega arith) e in
    let number = passed (not (eqb (word_at file at) b)) 19 _ (λ z. omega arith) check.1 in
    let filling = passed (not (zeros file (at + used) (508 - used))) 20 0 (λ z. omega arith) number.1 in
    (eqb-true _ _ (not-false _ check.0), eqb-true _ _ (not-false _ number.0), not-false _ filling.0)

pub body_at : (file : List ℕ) (t k b : ℕ) → body_refusal file t k ≡ 0 → b < k → block_refusal file (512 * suc b) (suc b) (body_used (t - 126 * b)) ≡ 0
unfolding body_refusal
body_at file t zero b e h = absurd (omega arith)
body_at file t (suc k) b e h =
    let both = neither (body_refusal file t k) (block_refusal file (512 * suc k) (suc k) (body_used (t - 126 * k))) e in
    elim (dec_lt b k) [
      | yes low ↦ body_at file t k b both.0 low
      | no high ↦ let last : b ≡ k = omega arith in rw last both.1
    ]

module _ (file : List ℕ) (each : (i : ℕ) → get_or file i 0 < 256) (room : ℕ) (none : read_refusal file room ≡ 0) where
  abbrev lut : MultidimensionalLut
  lut = (layout_in file).lut

  abbrev t : ℕ
  t = total_in file

  head_passed : (512 ≤ length file) × (block_number file ≡ 0) × ((layout_in file).refusal ≡ 0)
  head_passed = head-none file (read_none file room none).0

  laid : (layout_in file).refusal ≡ 0
  laid = head_passed.2

  long : length file ≡ file_length t
  long = (rest-none file t room (read_none file room none).1).0

  bodies : body_refusal file t (blocks_for t) ≡ 0
  bodies = (rest-none file t room (read_none file room none).1).1

  is-layout : IsLayout lut
  is-layout = file-is-layout file each laid

  facts : Facts lut
  facts = facts-of lut is-layout

  abbrev head : List ℕ
  head = lut.input_inks ∷ lut.output_inks ∷ lut.grid_sizes

  inks : lut.input_inks ≡ inks_in file
  inks = laid-inks (sizes_in file) (inks_in file) (outputs_in file) laid

  fewer : inks_in file ≤ 15
  fewer = omega (arith, inks, inks-to lut is-layout)

  head-filling : (k : ℕ) → k < 508 - (6 + min (inks_in file) 16) → get_or file (0 + (6 + min (inks_in file) 16) + k) 0 ≡ 0
  unfolding head_used
  head-filling k h = zeros-at file (0 + (6 + min (inks_in file) 16)) (508 - (6 + min (inks_in file) 16)) (block_none file 0 0 _ head_passed.1).2 k h

  unused-zero : (x : ℕ) → inks_in file ≤ x → get_or lut.grid_sizes x 0 ≡ 0
  unused-zero x h =
      elim (dec_lt x 16) [
        | yes low ↦ (unused-at lut facts x low (omega (arith, inks))).size_is
        | no high ↦ get_or-eq_default lut.grid_sizes 0 (omega (arith, facts.sixteen))
      ]

  six : (x : ℕ) → 6 + x ≡ 4 + suc (suc x)
  six x = omega arith

  past : (x : ℕ) → inks_in file ≤ x → 0 + (6 + min (inks_in file) 16) + (x - min (inks_in file) 16) ≡ 4 + suc (suc x)
  past x h = omega arith

  head-is : (k : ℕ) → k < 504 → get_or head k 0 ≡ get_or file (4 + k) 0
  head-is zero h = inks
  head-is (suc zero) h = laid-outputs (sizes_in file) (inks_in file) (outputs_in file) laid
  head-is (suc (suc x)) h =
      elim (dec_lt x (inks_in file)) [
        | yes low ↦
            laid-size (sizes_in file) (inks_in file) (outputs_in file) laid x low
            ∙ get_or-tabulate 16 (λ i. get_or (drop 6 file) i 0) x 0 (omega (arith, fewer))
            ∙ get_or-drop 6 file x 0
            ∙ ap (λ (p : ℕ). get_or file p 0) (six x)
        | no high ↦
            unused-zero x (omega arith)
            ∙ sym (head-filling (x - min (inks_in file) 16) (omega arith))
            ∙ ap (λ (p : ℕ). get_or file p 0) (past x (omega arith))
      ]

  -- what a table holds that begins with the entries that were read
  module _ (bits : List ℕ) (enough : t ≤ length bits) (same : (e : ℕ) → e < t → get_or bits e 0 ≡ entry_in file e) where
    abbrev firsts : List ℕ
    firsts = take t bits

    firsts-long : length firsts ≡ t
    firsts-long = length-take-le t bits enough

    abbrev contents : ℕ → ℕ → ℕ
    contents b = contents_of head firsts b

    head-place : (j i : ℕ) → 4 + (4 * j + i) ≡ 512 * 0 + 4 * (j + 1) + i
    head-place j i = omega arith

    body-place : (b j : ℕ) → 512 * (b + 1) + 4 + 4 * j ≡ 512 * suc b + 4 * (j + 1)
    body-place b j = omega arith

    body-filling : (b k : ℕ) → b < blocks_for t → k < 508 - (4 + 4 * min 126 (t - 126 * b)) → get_or file (512 * suc b + (4 + 4 * min 126 (t - 126 * b)) + k) 0 ≡ 0
    unfolding body_used
    body-filling b k h l = zeros-at file _ _ (block_none file (512 * suc b) (suc b) _ (body_at file t (blocks_for t) b bodies h)).2 k l

    filling-place : (b j i : ℕ) → t ≤ 126 * b + j → j < 126
        → 512 * suc b + (4 + 4 * min 126 (t - 126 * b)) + (4 * j + i - 4 * min 126 (t - 126 * b)) ≡ 512 * suc b + 4 * (j + 1) + i
    filling-place b j i h l = omega arith

    content-is : (b j : ℕ) → b ≤ blocks_for t → j < 126 → contents b j ≡ word_at file (512 * b + 4 * (j + 1))
    unfolding contents_of
    content-is zero j h l =
        word_same head file (4 * j) (512 * 0 + 4 * (j + 1)) (λ i s. head-is (4 * j + i) (omega arith) ∙ ap (λ (p : ℕ). get_or file p 0) (head-place j i))
    content-is (suc b) j h l =
        elim (dec_lt (126 * b + j) t) [
          | yes low ↦ get_or-take t bits (126 * b + j) 0 low ∙ same (126 * b + j) low ∙ entry_at file b j l ∙ ap (word_at file) (body-place b j)
          | no high ↦
              get_or-eq_default firsts 0 (omega (arith, firsts-long))
              ∙ sym (word-zero file (512 * suc b + 4 * (j + 1)) (λ i s.
              ap (λ (p : ℕ). get_or file p 0) (sym (filling-place b j i (omega arith) l)) ∙ body-filling b (4 * j + i - 4 * min 126 (t - 126 * b)) h (omega arith)))
        ]

    check-is : (b : ℕ) → b ≤ blocks_for t → check_of (λ j. word_at file (512 * b + 4 * j)) ≡ word_at file (512 * b + 508)
    check-is zero h = (block_none file 0 0 _ head_passed.1).0
    check-is (suc b) h = (block_none file (512 * suc b) (suc b) _ (body_at file t (blocks_for t) b bodies h)).0

    number_is : (b : ℕ) → b ≤ blocks_for t → word_at file (512 * b) ≡ b
    number_is zero h = (block_none file 0 0 _ head_passed.1).1
    number_is (suc b) h = (block_none file (512 * suc b) (suc b) _ (body_at file t (blocks_for t) b bodies h)).1

    next : (b j : ℕ) → 512 * b + 4 * (j + 1) ≡ 512 * b + 4 * suc j
    next b j = omega arith

    front-is : (b j : ℕ) → b ≤ blocks_for t → j < 127 → front b (contents b) j ≡ word_at file (512 * b + 4 * j)
    unfolding front
    front-is b zero h l = sym (number_is b h) ∙ ap (word_at file) (sym (add-zero (512 * b)))
    front-is b (suc j) h l = content-is b j h (omega arith) ∙ ap (word_at file) (next b j)

    word-is : (b j : ℕ) → b ≤ blocks_for t → j < 128 → block_word b (contents b) j ≡ word_at file (512 * b + 4 * j)
    unfolding block_word check_of
    word-is b j h l =
        elim (dec_lt j 127) [
          | yes low ↦ simp (lt-ltb j 127 low) (front-is b j h low)
          | no high ↦
              let last : j ≡ 127 = omega arith in
              rw last (ap (λ (s : ℕ). s % 4_294_967_296) (sum_same (front b (contents b)) (λ k. word_at file (512 * b + 4 * k)) 127 (λ k low. front-is b k h low)) ∙ check-is b h)
        ]

    again : (p : ℕ) → 512 * (p / 512) + 4 * (p % 512 / 4) + p % 512 % 4 ≡ p
    again p = omega arith

    in_block : (p : ℕ) → p < file_length t → p / 512 ≤ blocks_for t
    in_block p h = omega (arith, file-long t)

    byte-is : (p : ℕ) → p < file_length t → file_byte head firsts p ≡ get_or file p 0
    unfolding file_byte block_byte
    byte-is p h =
        ap (λ (w : ℕ). byte_of w (p % 512 % 4)) (word-is (p / 512) (p % 512 / 4) (in_block p h) (omega arith))
        ∙ byte-back file each (512 * (p / 512) + 4 * (p % 512 / 4)) (p % 512 % 4) (omega arith)
        ∙ ap (λ (k : ℕ). get_or file k 0) (again p)

    pub writes-back : table_file lut bits ≡ file
    writes-back =
        let sizes = lut.grid_sizes in
        let n = lut.input_inks in
        let m = lut.output_inks in
        let whole : length (file_of sizes n m firsts) ≡ file_length t = file-length sizes n m firsts ∙ ap file_length firsts-long in
        ext_get_or 0 (file_of sizes n m firsts) file (whole ∙ sym long) (λ p h.
        let low : p < file_length t = omega arith in
        file-at sizes n m firsts p (subst (λ (k : ℕ). p < file_length k) (sym firsts-long) low) ∙ byte-is p low)
