-- Document 02, E9, of the calls that a C caller makes. `taken-laid`: the sizes and counts that came back give the file's layout again; `writes-same-by-sizes`: a file that was
-- read is written again to the same bytes; `reads-same-by-sizes`: a file that was written gives the sizes, the counts and the table's bits again. `file-told`,
-- `table_taken`: what the exported calls owe, by what the calls below them do. Assumes nothing.
use Rattle.std.proofs.Common.{◌≡◌, ℕ, zero, suc, ◌*◌, ◌<◌, ◌≤◌, true, T, List, length, get_or, take, replicate, sym, refl, ap, ◌∙◌, subst, arith, ext_get_or}
use native.Mathlib.Decide.{dec_lt}
use lib.Pow.{are_bytes}
use lib.ListN.{get_or-replicate}
use Rattle.outcome.specs.Outcome.{or_else, on_done}
use Rattle.outcome.proofs.Decided.{accepts}
use Rattle.outcome.proofs.Refused.{neither}
use Rattle.lists.specs.Buffer.{written, left}
use Rattle.lists.proofs.Buffer.{length-written, written_at, written-past}
use Rattle.layout.specs.declared.MultidimensionalLut.{MultidimensionalLut}
use Rattle.layout.specs.Layout.{Laid, laid_of, refused_by, IsLayout, entries}
use Rattle.layout.proofs.BySizes.{laid-is-layout, laid-inks, laid-outputs, laid-size}
use Rattle.layout.proofs.Facts.{facts-of, laid-again, unused-at}
use Rattle.layout.proofs.Laws.{inks-from, inks-to, first-filling}
use Rattle.flash.specs.File.{file_length, file_of, table_file}
use Rattle.flash.specs.Refusals.{layout_in, head_refusal, read_refusal, lent_refusal, write_refusal}
use Rattle.flash.specs.Read.{FileLaid, TableRead}
use Rattle.flash.specs.Written.{TableWritten, FileWritten}
use Rattle.flash.specs.BySizes.{Told, FileTold, TableFiled, TableTaken}
use Rattle.flash.proofs.Reading.{head-none, head-number, head-layout, read_none, read_number}
use Rattle.flash.proofs.RoundTrips.{read_is, read-is-layout, writes-same, reads_same}

-- what was read through C is what `read_table` reads
pub taken-read : (file s₀ : List ℕ) (n₀ m₀ : ℕ) (t₀ : List ℕ) (r : ℕ) (s : List ℕ) (n m : ℕ) (t : List ℕ) → TableTaken file s₀ n₀ m₀ t₀ r s n m t
    → TableRead file t₀ (on_done (read_refusal file (length t₀)) (layout_in file) (refused_by (read_refusal file (length t₀)))) t
taken-read file s₀ n₀ m₀ t₀ r s n m t took = record { answer = refl; table = took.table }

-- what was written through C is what `write_table` writes
pub filed-written : (sizes : List ℕ) (n m : ℕ) → (laid_of sizes n m).refusal ≡ 0 → IsLayout (laid_of sizes n m).lut → (bits old : List ℕ) (r : ℕ) (now : List ℕ)
    → TableFiled sizes n m bits old r now → TableWritten (laid_of sizes n m).lut bits old r now
unfolding write_refusal
filed-written sizes n m none is bits old r now filed =
    record {
      laid = true;
      decides = accepts is;
      number = filed.number ∙ ap (λ (k : ℕ). or_else k (lent_refusal (entries (laid_of sizes n m).lut) (length bits) (length old))) none;
      bytes = filed.bytes;
    }

-- it leaves one outcome
pub filed-one : (sizes : List ℕ) (n m : ℕ) (bits old : List ℕ) (x y : ℕ) (now after : List ℕ) → TableFiled sizes n m bits old x now → TableFiled sizes n m bits old y after
    → (x ≡ y) × (now ≡ after)
filed-one sizes n m bits old x y now after p q =
    let file = table_file (laid_of sizes n m).lut bits in
    let number : x ≡ y = p.number ∙ sym q.number in
    (number, p.bytes ∙ ap (λ (r : ℕ). left r (λ k. get_or file k 0) (length file) old) number ∙ sym q.bytes)

-- ---- a file written without a record

module _ (sizes : List ℕ) (n m : ℕ) (none : (laid_of sizes n m).refusal ≡ 0) (is : IsLayout (laid_of sizes n m).lut) where
  abbrev made : MultidimensionalLut
  made = (laid_of sizes n m).lut

  -- the first n sizes, then zeros, are the record's
  pub used-are : written (λ i. get_or sizes i 0) n (replicate 16 0) ≡ made.grid_sizes
  used-are =
      let f : ℕ → ℕ = λ i. get_or sizes i 0 in
      let facts = facts-of made is in
      let few : n ≤ 16 = omega (arith, laid-inks sizes n m none, inks-to made is) in
      ext_get_or 0 (written f n (replicate 16 0)) made.grid_sizes (length-written f n (replicate 16 0) ∙ sym facts.sixteen) (λ i h.
      let low : i < 16 = omega (arith, length-written f n (replicate 16 0)) in
      elim (dec_lt i n) [
        | yes used ↦ written_at f n (replicate 16 0) i 0 used few ∙ sym (laid-size sizes n m none i used)
        | no past ↦
            written-past f n (replicate 16 0) i 0 (omega arith)
            ∙ get_or-replicate 16 i 0 0 low
            ∙ sym (unused-at made facts i low (omega (arith, laid-inks sizes n m none))).size_is
      ])

  -- the first filling size times the first size is the total
  pub total-by-sizes : (filling : List ℕ) → filling ≡ made.grid_filling_size → get_or filling 0 0 * get_or sizes 0 0 ≡ entries made
  total-by-sizes filling row =
      (λ i. get_or (row i) 0 0 * sym (laid-size sizes n m none 0 (omega (arith, laid-inks sizes n m none, inks-from made is))) i) ∙ first-filling made is

  pub filed-by : (t : ℕ) → t ≡ entries made → (used : List ℕ) → used ≡ made.grid_sizes → (bits old : List ℕ) (r : ℕ) (now : List ℕ)
      → FileWritten used n m t bits old r now → TableFiled sizes n m bits old r now
  filed-by t total used are bits old r now wrote =
      let inks = sym (laid-inks sizes n m none) in
      let outputs = sym (laid-outputs sizes n m none) in
      let file : 𝕀 → List ℕ = λ i. file_of (are i) (inks i) (outputs i) (take (total i) bits) in
      record {
        number = wrote.number ∙ (λ i. or_else (sym none i) (lent_refusal (total i) (length bits) (length old)));
        bytes = wrote.bytes ∙ (λ i. left r (λ p. get_or (file i) p 0) (length (file i)) old);
      }

-- ---- what is told

-- a record that is told on 0 alone
told-by : (k : ℕ) (laid other : Laid) → (k ≡ 0 → laid ≡ other) → (s₀ : List ℕ) (n₀ m₀ : ℕ) (s : List ℕ) (n m : ℕ) → Told k laid.lut s₀ n₀ m₀ s n m
    → Told k other.lut s₀ n₀ m₀ s n m
told-by zero laid other same s₀ n₀ m₀ s n m told = subst (λ (l : Laid). Told 0 l.lut s₀ n₀ m₀ s n m) (same refl) told
told-by (suc k) laid other same s₀ n₀ m₀ s n m told = record { sizes = told.sizes; inks = told.inks; outputs = told.outputs }

module _ (file : List ℕ) (laid : Laid) (s₀ : List ℕ) (n₀ m₀ : ℕ) (s : List ℕ) (n m : ℕ) (told : Told laid.refusal laid.lut s₀ n₀ m₀ s n m) where
  told_at : (k : ℕ) → laid.refusal ≡ k → (k ≡ 0 → laid ≡ layout_in file) → Told k (layout_in file).lut s₀ n₀ m₀ s n m
  told_at k is same = told-by k laid (layout_in file) same s₀ n₀ m₀ s n m (subst (λ (j : ℕ). Told j laid.lut s₀ n₀ m₀ s n m) is told)

  pub file-told : FileLaid file laid → (r : ℕ) → r ≡ laid.refusal → FileTold file s₀ n₀ m₀ r s n m
  file-told head r is =
      let number = head-number file laid head in
      record { number = is ∙ number; told = told_at (head_refusal file) number (λ e. head-layout file laid head (number ∙ e)) }

  pub table_taken : (t₀ t : List ℕ) → TableRead file t₀ laid t → (r : ℕ) → r ≡ laid.refusal → TableTaken file s₀ n₀ m₀ t₀ r s n m t
  table_taken t₀ t read r is =
      let number = read_number file t₀ laid t read in
      record { number = is ∙ number; told = told_at (read_refusal file (length t₀)) number (λ e. read_is file t₀ laid t read (number ∙ e)); table = read.table }

-- ---- read, then written

-- a file that was read through C without a refusal
pub taken-done : (file s₀ : List ℕ) (n₀ m₀ : ℕ) (t₀ s : List ℕ) (n m : ℕ) (t : List ℕ) → TableTaken file s₀ n₀ m₀ t₀ 0 s n m t
    → TableRead file t₀ (layout_in file) t × ((layout_in file).refusal ≡ 0)
taken-done file s₀ n₀ m₀ t₀ s n m t took =
    let none = sym took.number in (
      subst (λ (k : ℕ). TableRead file t₀ (on_done k (layout_in file) (refused_by k)) t) none (taken-read file s₀ n₀ m₀ t₀ 0 s n m t took),
      (head-none file (read_none file (length t₀) none).0).2,
    )

module _ (file : List ℕ) (bytes : T (are_bytes file)) (s₀ : List ℕ) (n₀ m₀ : ℕ) (t₀ s : List ℕ) (n m : ℕ) (t : List ℕ) (took : TableTaken file s₀ n₀ m₀ t₀ 0 s n m t) where
  read : TableRead file t₀ (layout_in file) t
  read = (taken-done file s₀ n₀ m₀ t₀ s n m t took).0

  laid-file : (layout_in file).refusal ≡ 0
  laid-file = (taken-done file s₀ n₀ m₀ t₀ s n m t took).1

  is-layout : IsLayout (layout_in file).lut
  is-layout = read-is-layout file t₀ (layout_in file) t read laid-file bytes

  told : Told 0 (layout_in file).lut s₀ n₀ m₀ s n m
  told = subst (λ (k : ℕ). Told k (layout_in file).lut s₀ n₀ m₀ s n m) (sym took.number) took.told

  pub taken-laid : laid_of s n m ≡ record { refusal = 0; lut = (layout_in file).lut }
  taken-laid = (λ i. laid_of (told.sizes i) (told.inks i) (told.outputs i)) ∙ laid-again (layout_in file).lut (facts-of (layout_in file).lut is-layout)

  pub writes-same-by-sizes : (buffer : List ℕ) → length file ≤ length buffer → (k : ℕ) (after : List ℕ) → TableFiled s n m t buffer k after
      → (k ≡ 0) × (take (length file) after ≡ file)
  writes-same-by-sizes buffer wide k after filed =
      let lut-is : (laid_of s n m).lut ≡ (layout_in file).lut = ap (λ (l : Laid). l.lut) taken-laid in
      let none : (laid_of s n m).refusal ≡ 0 = ap (λ (l : Laid). l.refusal) taken-laid in
      let wrote = filed-written s n m none (subst IsLayout (sym lut-is) is-layout) t buffer k after filed in
      writes-same file t₀ (layout_in file) t read laid-file bytes buffer wide k after (subst (λ (l : MultidimensionalLut). TableWritten l t buffer k after) lut-is wrote)

-- ---- written, then read

module _ (sizes : List ℕ) (sixteen : length sizes ≡ 16) (bytes : T (are_bytes sizes)) (n m : ℕ)
    (bits old now : List ℕ) (words : (i : ℕ) → get_or bits i 0 < 4_294_967_296) (filed : TableFiled sizes n m bits old 0 now) where
  abbrev lut : MultidimensionalLut
  lut = (laid_of sizes n m).lut

  laid-sizes : (laid_of sizes n m).refusal ≡ 0
  laid-sizes = (neither (laid_of sizes n m).refusal _ (sym filed.number)).0

  wrote : TableWritten lut bits old 0 now
  wrote = filed-written sizes n m laid-sizes (laid-is-layout sizes n m laid-sizes sixteen bytes) bits old 0 now filed

  pub reads-same-by-sizes : (buffer : List ℕ) → entries lut ≤ length buffer → (s₀ : List ℕ) (n₀ m₀ r : ℕ) (s : List ℕ) (n₁ m₁ : ℕ) (after : List ℕ)
      → TableTaken (take (file_length (entries lut)) now) s₀ n₀ m₀ buffer r s n₁ m₁ after
      → (r ≡ 0) × (s ≡ lut.grid_sizes) × (n₁ ≡ n) × (m₁ ≡ m) × (take (entries lut) after ≡ take (entries lut) bits)
  reads-same-by-sizes buffer wide s₀ n₀ m₀ r s n₁ m₁ after took =
      let file = take (file_length (entries lut)) now in
      let read = taken-read file s₀ n₀ m₀ buffer r s n₁ m₁ after took in
      let same = reads_same lut bits old now words wrote buffer wide _ after read in
      let none : read_refusal file (length buffer) ≡ 0 = sym (read_number file buffer _ after read) ∙ ap (λ (l : Laid). l.refusal) same.0 in
      let laid : layout_in file ≡ record { refusal = 0; lut = lut } = ap (λ (k : ℕ). on_done k (layout_in file) (refused_by k)) (sym none) ∙ same.0 in
      let of-lut = subst (λ (l : Laid). Told (read_refusal file (length buffer)) l.lut s₀ n₀ m₀ s n₁ m₁) laid took.told in
      let told : Told 0 lut s₀ n₀ m₀ s n₁ m₁ = subst (λ (k : ℕ). Told k lut s₀ n₀ m₀ s n₁ m₁) none of-lut in
      (took.number ∙ none, told.sizes, told.inks ∙ laid-inks sizes n m laid-sizes, told.outputs ∙ laid-outputs sizes n m laid-sizes, same.1)
