-- What reading a file owes, case by case. Block 0: `short-head`, where the number comes from; `head-refused`, `head-laid`, by the answer; `head-number`, the number in an
-- answer; `total_read`, `total_fits`, the total of its record. The whole: `head_first`, `rest-number`; `read-refused`, `read_done`; `read_none`, what no refusal says. Assumes nothing.
use Rattle.std.specs.Prelude.{Ok}
use Rattle.std.proofs.Common.{◌≡◌, ℕ, zero, suc, ◌+◌, ◌*◌, ◌<◌, ◌≤◌, ltb, List, length, get_or, drop, sym, refl, ap, ◌∙◌, subst, arith, get_or-drop, ltb-false, le-ltb, lt-ltb}
use Rattle.outcome.specs.Outcome.{or_else, on_done}
use Rattle.outcome.proofs.Refused.{refused-first, kept, given, neither, passed}
use Rattle.lists.specs.Buffer.{written, left}
use Rattle.lists.proofs.Buffer.{unwritten, length-left}
use Rattle.lists.proofs.Lists.{length-tabulate, tabulate-bytes}
use Rattle.layout.specs.declared.MultidimensionalLut.{MultidimensionalLut}
use Rattle.layout.specs.Layout.{Laid, limit, refused_by, laid_in, IsLayout, LaidBy, entries}
use Rattle.layout.proofs.BySizes.{laid-is-layout, laid-zeroed}
use Rattle.layout.proofs.Laws.{first-filling, entries_fit}
use Rattle.flash.specs.Refusals.{block_refusal, head_used, inks_in, outputs_in, sizes_in, layout_in, total_in, head_refusal, rest_refusal, read_refusal}
use Rattle.flash.specs.Read.{FileLaid, entry_in, TableRead}

-- the number in an answer
answer-number : (k : ℕ) (laid : Laid) → (k ≡ 0 → laid.refusal ≡ 0) → (on_done k laid (refused_by k)).refusal ≡ k
unfolding refused_by
answer-number zero laid done = done refl
answer-number (suc k) laid done = refl

module _ (file : List ℕ) where
  abbrev pub block_number : ℕ
  block_number = block_refusal file 0 0 (head_used (inks_in file))

  abbrev head : ℕ
  head = head_refusal file

  -- ---- block 0

  pub short-head : length file < 512 → 17 ≡ head
  unfolding head_refusal
  short-head h = simp (lt-ltb (length file) 512 h)

  long-head : 512 ≤ length file → head ≡ or_else block_number (layout_in file).refusal
  unfolding head_refusal
  long-head h = simp (le-ltb (length file) 512 h)

  pub layout-number : 512 ≤ length file → block_number ≡ 0 → (layout_in file).refusal ≡ head
  layout-number h none = sym (long-head h ∙ ap (λ (k : ℕ). or_else k (layout_in file).refusal) none)

  pub head-none : head ≡ 0 → (512 ≤ length file) × (block_number ≡ 0) × ((layout_in file).refusal ≡ 0)
  unfolding head_refusal
  head-none e =
      let long = passed (ltb (length file) 512) 17 _ (λ z. omega arith) e in
      let both = neither block_number _ long.1 in
      (ltb-false _ _ long.0, both.0, both.1)

  -- a refusal k
  pub head-refused : (k : ℕ) → (k ≡ 0 → ⊥) → k ≡ head → (r : Laid) → r ≡ refused_by k → FileLaid file r
  unfolding refused_by
  head-refused k refused is r zeros =
      record {
        answer = zeros ∙ ap refused_by is ∙ kept head (layout_in file) (refused_by head) refused is;
        accepted = λ none. absurd (refused (sym (ap (λ (l : Laid). l.refusal) zeros) ∙ none));
      }

  by_number : (k : ℕ) → (layout_in file).refusal ≡ k → layout_in file ≡ on_done k (layout_in file) (refused_by k)
  by_number zero e = refl
  by_number (suc k) e = laid-zeroed (sizes_in file) (inks_in file) (outputs_in file) (λ z. omega (arith, e, z)) ∙ ap refused_by e

  -- no refusal before the layout
  pub head-laid : 512 ≤ length file → block_number ≡ 0 → (r : Laid) → LaidBy (sizes_in file) (inks_in file) (outputs_in file) r → FileLaid file r
  head-laid h none r laid =
      record {
        answer = laid.answer ∙ by_number (layout_in file).refusal refl ∙ ap (λ (k : ℕ). on_done k (layout_in file) (refused_by k)) (layout-number h none);
        accepted = laid.accepted;
      }

  module _ (r : Laid) (laid : FileLaid file r) where
    pub head-number : r.refusal ≡ head
    head-number = ap (λ (l : Laid). l.refusal) laid.answer ∙ answer-number head (layout_in file) (λ e. (head-none e).2)

    pub head-layout : r.refusal ≡ 0 → r ≡ layout_in file
    head-layout none = laid.answer ∙ sym (given head (layout_in file) (refused_by head) (sym none ∙ head-number))

  -- the record has the file's total, as its first filling size and its first size give it
  pub total_read : (lut : MultidimensionalLut) → FileLaid file (laid_in (Ok lut)) → get_or lut.grid_filling_size 0 0 * get_or lut.grid_sizes 0 0 ≡ total_in file
  total_read lut laid = first-filling lut (laid.accepted refl) ∙ ap (λ (l : Laid). entries l.lut) (head-layout _ laid refl)

  pub total_fits : (lut : MultidimensionalLut) → FileLaid file (laid_in (Ok lut)) → get_or lut.grid_filling_size 0 0 * get_or lut.grid_sizes 0 0 ≤ limit
  total_fits lut laid = omega (arith, first-filling lut (laid.accepted refl), entries_fit lut (laid.accepted refl))

  -- the layout's record is a layout's, where the file is of bytes
  pub file-is-layout : ((i : ℕ) → get_or file i 0 < 256) → (layout_in file).refusal ≡ 0 → IsLayout (layout_in file).lut
  file-is-layout each none =
      let byte : ℕ → ℕ = λ i. get_or (drop 6 file) i 0 in
      laid-is-layout (sizes_in file) (inks_in file) (outputs_in file) none (length-tabulate 16 byte)
      (tabulate-bytes 16 byte (λ i. subst (λ (b : ℕ). b < 256) (sym (get_or-drop 6 file i 0)) (each (6 + i))))

  -- ---- the whole file

  module _ (room : ℕ) where
    pub head_first : (head ≡ 0 → ⊥) → head ≡ read_refusal file room
    unfolding read_refusal
    head_first refused = refused-first head _ refused refl

    pub rest-number : head ≡ 0 → rest_refusal file (total_in file) room ≡ read_refusal file room
    unfolding read_refusal
    rest-number none = sym (ap (λ (k : ℕ). or_else k (rest_refusal file (total_in file) room)) none)

    pub read_none : read_refusal file room ≡ 0 → (head ≡ 0) × (rest_refusal file (total_in file) room ≡ 0)
    unfolding read_refusal
    read_none e = neither head _ e

  module _ (old : List ℕ) where
    abbrev number : ℕ
    number = read_refusal file (length old)

    -- a refusal k
    pub read-refused : (k : ℕ) → (k ≡ 0 → ⊥) → k ≡ number → (r : Laid) → r ≡ refused_by k → TableRead file old r old
    read-refused k refused is r zeros =
        record {
          answer = zeros ∙ ap refused_by is ∙ kept number (layout_in file) (refused_by number) refused is;
          table = unwritten number (entry_in file) (total_in file) old refused is;
        }

    -- no refusal
    pub read_done : 0 ≡ number → (r : Laid) → r ≡ layout_in file → (now : List ℕ) → now ≡ written (entry_in file) (total_in file) old → TableRead file old r now
    read_done done r laid now is =
        record {
          answer = laid ∙ given number (layout_in file) (refused_by number) done;
          table = is ∙ ap (λ (k : ℕ). left k (entry_in file) (total_in file) old) done;
        }

    module _ (r : Laid) (now : List ℕ) (read : TableRead file old r now) where
      pub read_number : r.refusal ≡ number
      read_number = ap (λ (l : Laid). l.refusal) read.answer ∙ answer-number number (layout_in file) (λ e. (head-none (read_none (length old) e).0).2)

      pub read_length : length now ≡ length old
      read_length = ap length read.table ∙ length-left number (entry_in file) (total_in file) old

-- for `using`: the total of a file's record
pub ruleset totals = (total_read, total_fits)
