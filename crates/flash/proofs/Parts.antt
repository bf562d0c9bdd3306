-- A part of a list that is lent: `part-at`, what it holds; `part-rest`, what is left; `part_written`, `part-filled`, what it leaves of a buffer. Assumes nothing.
use Rattle.std.proofs.Common.{◌≡◌, ℕ, zero, suc, ◌+◌, ◌<◌, ◌≤◌, min, List, ◌++◌, length, get_or, take, drop, set, replicate, sym, refl, ap, ◌∙◌, zero-add, add-one, arith, length-take, length-drop, length-append, get_or-drop, ext_get_or}
use Rattle.std.proofs.lemmas.List.{get_or_append_left, drop_at, drop-drop}
use native.Mathlib.Decide.{dec_lt}
use lib.ListN.{get_or-eq_default, get_or-replicate, length-replicate}
use borrow.Rule.Slice.PartMut.{put_mid}
use lib.Seq.{paste}
use Rattle.std.proofs.lemmas.List.Edits.{paste_none, paste_more, paste_all}
use Rattle.std.proofs.lemmas.Slice.{put_mid-paste}
use Rattle.lists.specs.Buffer.{written, written_from}
use Rattle.lists.proofs.Buffer.{written-from-same, written_on}

-- a part of m places at most, where the rest from a place on is cut
module _ (xs part rest : List ℕ) (from m : ℕ) (cut : drop from xs ≡ part ++ rest) (long : length part ≡ min m (length (drop from xs))) where
  pub part-at : (j : ℕ) → j < m → get_or part j 0 ≡ get_or xs (from + j) 0
  part-at j h =
      elim (dec_lt j (length part)) [
        | yes low ↦ sym (get_or_append_left part rest 0 j low) ∙ ap (λ (l : List ℕ). get_or l j 0) (sym cut) ∙ get_or-drop from xs j 0
        | no high ↦ get_or-eq_default part 0 (omega arith) ∙ sym (get_or-eq_default xs 0 (omega (arith, length-drop from xs)))
      ]

  pub part-rest : rest ≡ drop (from + m) xs
  part-rest =
      let both : length part + length rest ≡ length (drop from xs) = sym (ap length cut ∙ length-append part rest) in
      elim (dec_lt (length part) m) [
        | yes less ↦
            ext_get_or 0 rest (drop (from + m) xs) (omega (arith, length-drop from xs, length-drop (from + m) xs)) (λ i h. absurd (omega (arith, length-drop from xs)))
        | no whole ↦ sym (drop_at part rest m (omega arith)) ∙ ap (drop m) (sym cut) ∙ drop-drop m from xs
      ]

pasted : (old part : List ℕ) (from n : ℕ) → from + n ≤ length old → n ≤ length part → paste old from part n ≡ written_from from (λ i. get_or part i 0) n old
unfolding written_from
pasted old part from zero fits h = sym (paste_none old from part)
pasted old part from (suc n) fits h =
    ap (paste old from part) (sym (add-one n))
    ∙ sym (paste_more old from part n 0 (omega arith) (omega arith))
    ∙ ap (λ (l : List ℕ). set l (from + n) (get_or part n 0)) (pasted old part from n (omega arith) (omega arith))

-- the part of n places holds f i at each place i
pub part_written : (f : ℕ → ℕ) (from k n : ℕ) (old part : List ℕ) → k ≡ n → from + n ≤ length old → length part ≡ n → ((i : ℕ) → i < n → get_or part i 0 ≡ f i)
    → put_mid from k old part ≡ written_from from f n old
part_written f from k n old part is fits long each =
    put_mid-paste from k old part part n refl (sym is) (sym long)
    ∙ pasted old part from n fits (omega arith)
    ∙ written-from-same from (λ i. get_or part i 0) f n old each

-- and where it is the first part, which is shown as its elements before the others
pub first-written : (f : ℕ → ℕ) (n : ℕ) (old part : List ℕ) → n ≤ length old → length part ≡ n → ((i : ℕ) → i < n → get_or part i 0 ≡ f i)
    → part ++ drop n old ≡ written f n old
unfolding written
first-written f n old part fits long each =
    ap (λ (k : ℕ). part ++ drop k old) (sym (zero-add n))
    ∙ sym (paste_all old 0 part n (sym long))
    ∙ pasted old part 0 n (omega arith) (omega arith)
    ∙ written-from-same 0 (λ i. get_or part i 0) f n old each
    ∙ written_on f f 0 n old (λ i h. ap f (sym (zero-add i)))
    ∙ ap (λ (k : ℕ). written f k old) (zero-add n)

-- the part is filled with 0
pub part-filled : (from k n : ℕ) (old part : List ℕ) → k ≡ n → from + n ≤ length old → part ≡ replicate (length (take k (drop from old))) 0
    → put_mid from k old part ≡ written_from from (λ i. 0) n old
part-filled from k n old part is fits filled =
    let long : length (take k (drop from old)) ≡ n = omega (arith, length-take k (drop from old), length-drop from old) in
    let all : part ≡ replicate n 0 = filled ∙ ap (λ (m : ℕ). replicate m 0) long in
    part_written (λ i. 0) from k n old part is fits (ap length all ∙ length-replicate n 0) (λ i h. ap (λ (l : List ℕ). get_or l i 0) all ∙ get_or-replicate n i 0 0 h)
