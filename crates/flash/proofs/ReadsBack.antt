-- EVERY TABLE WRITTEN READS BACK TO THE SAME BITS: `reads-back`. Of the file of a layout's record and a table no check but 8 refuses, the layout is the record's, and
-- each entry is the table's, bit for bit. Assumes nothing.
use Rattle.std.proofs.Common.{◌≡◌, ℕ, zero, suc, ◌+◌, ◌-◌, ◌*◌, ◌/◌, ◌%◌, ◌<◌, ◌≤◌, min, Bool, true, false, cond, ltb, List, ◌∷◌, length, get_or, take, drop, sym, refl, ap, ◌∙◌, subst, le_refl, add-zero, mod-lt, zero-add, add-one, arith, length-take-le, get_or-drop, get_or-take, ext_get_or, lt-ltb, eq-eqb}
use native.Mathlib.Decide.{dec_lt}
use lib.ListN.{get_or-eq_default}
use Rattle.outcome.specs.Outcome.{or_else}
use Rattle.lists.specs.Lists.{tabulate}
use Rattle.lists.proofs.Lists.{length-tabulate, get_or-tabulate, bytes-at}
use Rattle.layout.specs.declared.MultidimensionalLut.{MultidimensionalLut}
use Rattle.layout.specs.Layout.{Laid, limit, IsLayout, laid_of, entries}
use Rattle.layout.proofs.Facts.{Facts, facts-of, laid-again, unused-at}
use Rattle.layout.proofs.Laws.{inks-to, outputs-to, entries_fit}
use Rattle.flash.specs.File.{word_at, byte_of, sum_to, front, check_of, block_word, block_byte, blocks_for, file_length, contents_of, file_of, table_file}
use Rattle.flash.specs.Refusals.{block_refusal, head_used, body_used, body_refusal, inks_in, outputs_in, sizes_in, layout_in, total_in, head_refusal, rest_refusal, read_refusal}
use Rattle.flash.specs.Read.{entry_in}
use Rattle.flash.proofs.Sums.{sum_same}
use Rattle.flash.proofs.Filling.{zeros-all}
use Rattle.flash.proofs.BlockWords.{block-byte, word_next}
use Rattle.flash.proofs.Bodies.{rest-room}
use Rattle.flash.proofs.Reading.{block_number, layout-number, rest-number}
use Rattle.flash.proofs.Files.{file-long, file-block, entry_at}
use Rattle.flash.proofs.Writing.{file-length, file-at}
use Rattle.flash.proofs.Fours.{byte-back, byte-zero, word_small, word_of}

-- a bytes file and words of 32 bits
module _ (sizes : List ℕ) (n m : ℕ) (bits : List ℕ)
    (sixteen : length sizes ≡ 16) (each : (i : ℕ) → get_or (n ∷ m ∷ sizes) i 0 < 256) (words : (i : ℕ) → get_or bits i 0 < 4_294_967_296)
    (few : blocks_for (length bits) < 4_294_967_295) where
  abbrev head : List ℕ
  head = n ∷ m ∷ sizes

  abbrev file : List ℕ
  file = file_of sizes n m bits

  abbrev contents : ℕ → ℕ → ℕ
  contents b = contents_of head bits b

  in-file : (b k : ℕ) → b ≤ blocks_for (length bits) → k < 512 → 512 * b + k < file_length (length bits)
  in-file b k h l = omega (arith, file-long (length bits))

  -- byte k of block b
  byte-in : (b k : ℕ) → b ≤ blocks_for (length bits) → k < 512 → get_or file (512 * b + k) 0 ≡ block_byte b (contents b) k
  byte-in b k h l = file-at sizes n m bits (512 * b + k) (in-file b k h l) ∙ file-block head bits b k l

  contents-small : (b j : ℕ) → contents b j < 4_294_967_296
  unfolding contents_of
  contents-small zero j = word_small head each (4 * j)
  contents-small (suc b) j = words (126 * b + j)

  front-small : (b j : ℕ) → b ≤ blocks_for (length bits) → front b (contents b) j < 4_294_967_296
  unfolding front
  front-small b zero h = omega arith
  front-small b (suc j) h = contents-small b j

  check-small : (f : ℕ → ℕ) → check_of f < 4_294_967_296
  unfolding check_of
  check-small f = mod-lt (sum_to f 127) (omega arith)

  cond_small : (c : Bool) (x y : ℕ) → x < 4_294_967_296 → y < 4_294_967_296 → cond c x y < 4_294_967_296
  cond_small true x y h l = h
  cond_small false x y h l = l

  block-small : (b j : ℕ) → b ≤ blocks_for (length bits) → block_word b (contents b) j < 4_294_967_296
  unfolding block_word
  block-small b j h = cond_small (ltb j 127) _ _ (front-small b j h) (check-small (front b (contents b)))

  place : (b j i : ℕ) → 512 * b + 4 * j + i ≡ 512 * b + (4 * j + i)
  place b j i = omega arith

  -- word j of block b
  word_in : (b j : ℕ) → b ≤ blocks_for (length bits) → j < 128 → word_at file (512 * b + 4 * j) ≡ block_word b (contents b) j
  word_in b j h l =
      word_of file (512 * b + 4 * j) (block_word b (contents b) j) (block-small b j h) (λ i s.
      ap (λ (p : ℕ). get_or file p 0) (place b j i) ∙ byte-in b (4 * j + i) h (omega arith) ∙ block-byte b (contents b) j i s)

  front-in : (b j : ℕ) → b ≤ blocks_for (length bits) → j < 127 → word_at file (512 * b + 4 * j) ≡ front b (contents b) j
  unfolding block_word
  front-in b j h l = word_in b j h (omega arith) ∙ simp (lt-ltb j 127 l)

  -- its check and its number
  check-in : (b : ℕ) → b ≤ blocks_for (length bits) → check_of (λ j. word_at file (512 * b + 4 * j)) ≡ word_at file (512 * b + 508)
  unfolding check_of block_word
  check-in b h =
      ap (λ (s : ℕ). s % 4_294_967_296) (sum_same (λ j. word_at file (512 * b + 4 * j)) (front b (contents b)) 127 (λ j l. front-in b j h l))
      ∙ sym (word_in b 127 h (omega arith))

  number_in : (b : ℕ) → b ≤ blocks_for (length bits) → word_at file (512 * b) ≡ b
  unfolding front
  number_in b h = ap (word_at file) (sym (add-zero (512 * b))) ∙ front-in b 0 h (omega arith)

  content-place : (k : ℕ) → 4 + k ≡ 4 * (k / 4 + 1) + k % 4
  content-place k = omega arith

  -- byte k of the contents, of block b
  content-in : (b k : ℕ) → b ≤ blocks_for (length bits) → k < 504 → get_or file (512 * b + (4 + k)) 0 ≡ byte_of (contents b (k / 4)) (k % 4)
  content-in b k h l =
      ap (λ (p : ℕ). get_or file (512 * b + p) 0) (content-place k)
      ∙ byte-in b (4 * (k / 4 + 1) + k % 4) h (omega arith)
      ∙ block-byte b (contents b) (k / 4 + 1) (k % 4) (omega arith)
      ∙ ap (λ (w : ℕ). byte_of w (k % 4)) (word_next b (contents b) (k / 4) (omega arith))

  passes : (b used : ℕ) → b ≤ blocks_for (length bits) → ((k : ℕ) → k < 508 - used → get_or file (512 * b + used + k) 0 ≡ 0) → block_refusal file (512 * b) b used ≡ 0
  unfolding block_refusal
  passes b used h filling = simp (eq-eqb _ _ (check-in b h), eq-eqb _ _ (number_in b h), zeros-all file (512 * b + used) (508 - used) filling)

  -- ---- block 0

  bytes-again : (k : ℕ) → 4 * (k / 4) + k % 4 ≡ k
  bytes-again k = omega arith

  head_in : (k : ℕ) → k < 504 → get_or file (4 + k) 0 ≡ get_or head k 0
  unfolding contents_of
  head_in k l =
      ap (λ (p : ℕ). get_or file p 0) (sym (zero-add (4 + k)))
      ∙ content-in 0 k (omega arith) l
      ∙ byte-back head each (4 * (k / 4)) (k % 4) (omega arith)
      ∙ ap (λ (p : ℕ). get_or head p 0) (bytes-again k)

  pub inks-in : inks_in file ≡ n
  inks-in = head_in 0 (omega arith)

  pub outputs-in : outputs_in file ≡ m
  outputs-in = head_in 1 (omega arith)

  six : (i : ℕ) → 6 + i ≡ 4 + suc (suc i)
  six i = omega arith

  pub sizes-in : sizes_in file ≡ sizes
  sizes-in =
      let byte : ℕ → ℕ = λ i. get_or (drop 6 file) i 0 in
      ext_get_or 0 (tabulate 16 byte) sizes (length-tabulate 16 byte ∙ sym sixteen) (λ i h.
      let low : i < 16 = omega (arith, length-tabulate 16 byte) in
      get_or-tabulate 16 byte i 0 low ∙ get_or-drop 6 file i 0 ∙ ap (λ (p : ℕ). get_or file p 0) (six i) ∙ head_in (suc (suc i)) (omega arith))

  module _ (unused : (i : ℕ) → i < 16 → n ≤ i → get_or sizes i 0 ≡ 0) where
    filled : (x : ℕ) → min n 16 ≤ x → get_or sizes x 0 ≡ 0
    filled x h =
        elim (dec_lt x 16) [
          | yes low ↦ unused x low (omega arith)
          | no high ↦ get_or-eq_default sizes 0 (omega arith)
        ]

    head-place : (k : ℕ) → 512 * 0 + (6 + min n 16) + k ≡ 4 + suc (suc (min n 16 + k))
    head-place k = omega arith

    pub head-passes : block_refusal file 0 0 (head_used n) ≡ 0
    unfolding head_used
    head-passes =
        passes 0 (6 + min n 16) (omega arith) (λ k h.
        ap (λ (p : ℕ). get_or file p 0) (head-place k) ∙ head_in (suc (suc (min n 16 + k))) (omega arith) ∙ filled (min n 16 + k) (omega arith))

  -- ---- the other blocks

  body-place : (b u k : ℕ) → 512 * b + (4 + u) + k ≡ 512 * b + (4 + (u + k))
  body-place b u k = omega arith

  past_all : (b t k : ℕ) → k < 508 - (4 + 4 * min 126 (t - 126 * b)) → t ≤ 126 * b + (4 * min 126 (t - 126 * b) + k) / 4
  past_all b t k h = omega arith

  block-passes : (b : ℕ) → b < blocks_for (length bits) → block_refusal file (512 * suc b) (suc b) (body_used (length bits - 126 * b)) ≡ 0
  unfolding body_used contents_of
  block-passes b h =
      let u : ℕ = 4 * min 126 (length bits - 126 * b) in
      passes (suc b) (4 + u) h (λ k l.
      ap (λ (p : ℕ). get_or file p 0) (body-place (suc b) u k)
      ∙ content-in (suc b) (u + k) h (omega arith)
      ∙ ap (λ (w : ℕ). byte_of w ((u + k) % 4)) (get_or-eq_default bits 0 (past_all b (length bits) k l))
      ∙ byte-zero ((u + k) % 4) (omega arith))

  pub body-passes : (k : ℕ) → k ≤ blocks_for (length bits) → body_refusal file (length bits) k ≡ 0
  unfolding body_refusal
  body-passes zero h = refl
  body-passes (suc k) h = λ i. or_else (body-passes k (omega arith) i) (block-passes k h i)

  -- ---- the entries

  entry_place : (b i : ℕ) → 512 * (b + 1) + 4 + 4 * i ≡ 512 * (b + 1) + 4 * (i + 1)
  entry_place b i = omega arith

  block-entry : (b i : ℕ) → b < blocks_for (length bits) → i < 126 → entry_in file (126 * b + i) ≡ get_or bits (126 * b + i) 0
  unfolding contents_of
  block-entry b i h l =
      entry_at file b i l
      ∙ ap (word_at file) (entry_place b i)
      ∙ word_in (b + 1) (i + 1) (omega arith) (omega arith)
      ∙ word_next (b + 1) (contents (b + 1)) i l
      ∙ ap (λ (c : ℕ). contents_of head bits c i) (add-one b)

  entry-again : (e : ℕ) → 126 * (e / 126) + e % 126 ≡ e
  entry-again e = omega arith

  in_blocks : (e : ℕ) → e < length bits → e / 126 < blocks_for (length bits)
  unfolding blocks_for
  in_blocks e h = omega arith

  pub entry_in_lem : (e : ℕ) → e < length bits → entry_in file e ≡ get_or bits e 0
  entry_in_lem e h =
      ap (entry_in file) (sym (entry-again e)) ∙ block-entry (e / 126) (e % 126) (in_blocks e h) (omega arith) ∙ ap (λ (k : ℕ). get_or bits k 0) (entry-again e)

-- ---- a layout's record and its table

-- what reading the file of a record and a table answers
pub record ReadBack (lut : MultidimensionalLut) (bits file : List ℕ) : Type 0 where
  pub layout : layout_in file ≡ record { refusal = 0; lut = lut }
  pub number : (room : ℕ) → read_refusal file room ≡ cond (ltb room (entries lut)) 8 0
  pub same : (e : ℕ) → e < entries lut → entry_in file e ≡ get_or bits e 0

module _ (lut : MultidimensionalLut) (is : IsLayout lut) (bits : List ℕ) (words : (i : ℕ) → get_or bits i 0 < 4_294_967_296) (enough : entries lut ≤ length bits) where
  facts : Facts lut
  facts = facts-of lut is

  abbrev firsts : List ℕ
  firsts = take (entries lut) bits

  firsts-long : length firsts ≡ entries lut
  firsts-long = length-take-le (entries lut) bits enough

  firsts-words : (i : ℕ) → get_or firsts i 0 < 4_294_967_296
  firsts-words i =
      elim (dec_lt i (entries lut)) [
        | yes low ↦ subst (λ (w : ℕ). w < 4_294_967_296) (sym (get_or-take (entries lut) bits i 0 low)) (words i)
        | no high ↦ subst (λ (w : ℕ). w < 4_294_967_296) (sym (get_or-eq_default firsts 0 (omega (arith, firsts-long)))) (omega arith)
      ]

  each-byte : (i : ℕ) → get_or (lut.input_inks ∷ lut.output_inks ∷ lut.grid_sizes) i 0 < 256
  each-byte zero = omega (arith, inks-to lut is)
  each-byte (suc zero) = omega (arith, outputs-to lut is)
  each-byte (suc (suc i)) = bytes-at lut.grid_sizes facts.bytes i

  few-blocks : (t : ℕ) → t ≤ limit → blocks_for t < 4_294_967_295
  unfolding blocks_for
  few-blocks t h = omega arith

  few-here : blocks_for (length firsts) < 4_294_967_295
  few-here = subst (λ (t : ℕ). blocks_for t < 4_294_967_295) (sym firsts-long) (few-blocks (entries lut) (entries_fit lut is))

  abbrev written-file : List ℕ
  written-file = table_file lut bits

  layout-again : layout_in written-file ≡ record { refusal = 0; lut = lut }
  layout-again =
      let n = lut.input_inks in
      let m = lut.output_inks in
      let sizes = lut.grid_sizes in
      let sizes-are = sizes-in sizes n m firsts facts.sixteen each-byte firsts-words few-here in
      let inks-are = inks-in sizes n m firsts facts.sixteen each-byte firsts-words few-here in
      let outputs-are = outputs-in sizes n m firsts facts.sixteen each-byte firsts-words few-here in
      (λ i. laid_of (sizes-are i) (inks-are i) (outputs-are i))
      ∙ laid-again lut facts

  total-again : total_in written-file ≡ length firsts
  total-again = ap (λ (l : Laid). entries l.lut) layout-again ∙ sym firsts-long

  pub reads-back : ReadBack lut bits written-file
  reads-back =
      let n = lut.input_inks in
      let m = lut.output_inks in
      let sizes = lut.grid_sizes in
      let sixteen = facts.sixteen in
      let unused : (i : ℕ) → i < 16 → n ≤ i → get_or sizes i 0 ≡ 0 = λ i low h. (unused-at lut facts i low h).size_is in
      let long : length written-file ≡ file_length (length firsts) = file-length sizes n m firsts in
      let first : block_number written-file ≡ 0 =
      ap (λ (k : ℕ). block_refusal written-file 0 0 (head_used k)) (inks-in sizes n m firsts sixteen each-byte firsts-words few-here)
      ∙ head-passes sizes n m firsts sixteen each-byte firsts-words few-here unused in
      let head-passes-all : head_refusal written-file ≡ 0 =
      sym (layout-number written-file (omega (arith, long, file-long (length firsts))) first) ∙ ap (λ (l : Laid). l.refusal) layout-again in
      record {
        layout = layout-again;
        number = λ room.
            sym (rest-number written-file room head-passes-all)
            ∙ ap (λ (t : ℕ). rest_refusal written-file t room) total-again
            ∙ rest-room written-file (length firsts) room long (body-passes sizes n m firsts sixteen each-byte firsts-words few-here (blocks_for (length firsts)) (le_refl _))
            ∙ ap (λ (t : ℕ). cond (ltb room t) 8 0) firsts-long;
        same = λ e low. entry_in_lem sizes n m firsts sixteen each-byte firsts-words few-here e (omega (arith, firsts-long)) ∙ get_or-take (entries lut) bits e 0 low;
      }
