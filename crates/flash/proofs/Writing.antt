-- What writing a table owes. `file-written`: a file written byte by byte; `write-unlaid`, `write-laid`: by a record; `lent_none`, `write-none`: what no refusal says.
-- Assumes nothing.
use Rattle.std.proofs.Common.{◌≡◌, ℕ, ◌<◌, ◌≤◌, Bool, true, not, ltb, List, ◌∷◌, length, get_or, take, sym, refl, ap, ◌∙◌, arith, ltb-false}
use borrow.Author.Tests.{not-false}
use Rattle.outcome.specs.Outcome.{Decides}
use Rattle.outcome.proofs.Refused.{passed}
use Rattle.lists.specs.Buffer.{written, left}
use Rattle.lists.proofs.Buffer.{unwritten, written_same}
use Rattle.lists.proofs.Lists.{length-tabulate, get_or-tabulate}
use Rattle.layout.specs.declared.MultidimensionalLut.{MultidimensionalLut}
use Rattle.layout.specs.Layout.{IsLayout, entries}
use Rattle.flash.specs.File.{file_length, file_byte, file_of, table_file}
use Rattle.flash.specs.Refusals.{lent_refusal, write_refusal}
use Rattle.flash.specs.Written.{TableWritten, FileWritten}

-- a file's length and bytes
module _ (sizes : List ℕ) (n m : ℕ) (bits : List ℕ) where
  pub file-length : length (file_of sizes n m bits) ≡ file_length (length bits)
  unfolding file_of
  file-length = length-tabulate (file_length (length bits)) (file_byte (n ∷ m ∷ sizes) bits)

  pub file-at : (p : ℕ) → p < file_length (length bits) → get_or (file_of sizes n m bits) p 0 ≡ file_byte (n ∷ m ∷ sizes) bits p
  unfolding file_of
  file-at p h = get_or-tabulate (file_length (length bits)) (file_byte (n ∷ m ∷ sizes) bits) p 0 h

  pub file-written : (old : List ℕ) → written (file_byte (n ∷ m ∷ sizes) bits) (file_length (length bits)) old
      ≡ written (λ p. get_or (file_of sizes n m bits) p 0) (length (file_of sizes n m bits)) old
  file-written old =
      written_same (file_byte (n ∷ m ∷ sizes) bits) (λ p. get_or (file_of sizes n m bits) p 0) (file_length (length bits)) old (λ p h. sym (file-at p h))
      ∙ ap (λ (k : ℕ). written (λ p. get_or (file_of sizes n m bits) p 0) k old) (sym file-length)

-- ---- by a record

module _ (lut : MultidimensionalLut) (bits old : List ℕ) (laid : Bool) (decides : Decides laid (IsLayout lut)) where
  pub write-unlaid : not laid ≡ true → TableWritten lut bits old 9 old
  unfolding write_refusal
  write-unlaid other =
      record {
        laid = laid;
        decides = decides;
        number = sym (simp other);
        bytes = unwritten 9 (λ p. get_or (table_file lut bits) p 0) (length (table_file lut bits)) old (λ e. omega arith) refl;
      }

  pub write-laid : laid ≡ true → (t : ℕ) → t ≡ entries lut → (r : ℕ) (now : List ℕ)
      → FileWritten lut.grid_sizes lut.input_inks lut.output_inks t bits old r now → TableWritten lut bits old r now
  unfolding write_refusal
  write-laid is t total r now wrote =
      let file : ℕ → List ℕ = λ k. file_of lut.grid_sizes lut.input_inks lut.output_inks (take k bits) in
      record {
        laid = laid;
        decides = decides;
        number = wrote.number ∙ ap (λ (k : ℕ). lent_refusal k (length bits) (length old)) total ∙ sym (simp is);
        bytes = wrote.bytes ∙ ap (λ (k : ℕ). left r (λ p. get_or (file k) p 0) (length (file k)) old) total;
      }

-- ---- what no refusal says

pub lent_none : (t table room : ℕ) → lent_refusal t table room ≡ 0 → (t ≤ table) × (file_length t ≤ room)
unfolding lent_refusal
lent_none t table room e =
    let long = passed (ltb table t) 6 _ (λ z. omega arith) e in
    let wide = passed (ltb room (file_length t)) 8 0 (λ z. omega arith) long.1 in
    (ltb-false _ _ long.0, ltb-false _ _ wide.0)

pub write-none : (lut : MultidimensionalLut) (bits old now : List ℕ) → TableWritten lut bits old 0 now
    → IsLayout lut × (entries lut ≤ length bits) × (file_length (entries lut) ≤ length old)
unfolding write_refusal
write-none lut bits old now wrote =
    let known = passed (not wrote.laid) 9 _ (λ z. omega arith) (sym wrote.number) in
    let lent = lent_none (entries lut) (length bits) (length old) known.1 in
    (wrote.decides.holds (not-false _ known.0), lent.0, lent.1)
