-- Laws of what a call leaves in a lent buffer: the length, each entry, and that nothing else determines it.
-- Assumes nothing.
use Prim.Native.Nat.{ℕ, zero, suc, ◌+◌, ◌≤◌, ◌<◌}
use mathlib.Core.Path.{◌≡◌, refl, sym, ◌∙◌}
use mathlib.Core.List.{List}
use native.Mathlib.Nat.{not-suc-le-zero, le_of_eq, add-zero, add-suc, add_assoc}
use native.Mathlib.Numerals.{add-one}
use native.Mathlib.Decide.{dec_lt}
use native.Mathlib.Omega.{arith}
use lib.ListN.{length, get_or, set, length-set}
use lib.Seq.{get_or-set_same, get_or-set_other, ext_get_or}
use Rattle.lists.specs.Lists.{tabulate}
use Rattle.lists.specs.Buffer.{written, written_from, left}
use Rattle.lists.proofs.Lists.{length-tabulate, get_or-tabulate}

module _ {A : Type 0} (f : ℕ → A) where
  pub length-written : (m : ℕ) (old : List A) → length (written f m old) ≡ length old
  unfolding written
  length-written zero old = refl
  length-written (suc m) old = simp length-set (length-written m old)

  -- a store at the next place
  pub written_next : (k : ℕ) (old : List A) → set (written f k old) k (f k) ≡ written f (k + 1) old
  unfolding written
  written_next k old = rw (add-one k)

  -- the places from m on are kept
  pub written-past : (m : ℕ) (old : List A) (k : ℕ) (d : A) → m ≤ k → get_or (written f m old) k d ≡ get_or old k d
  unfolding written
  written-past zero old k d h = refl
  written-past (suc m) old k d h = get_or-set_other (written f m old) m k (f m) d (λ e. omega arith) ∙ written-past m old k d (omega arith)

  -- the places below m are set
  pub written_at : (m : ℕ) (old : List A) (k : ℕ) (d : A) → k < m → m ≤ length old → get_or (written f m old) k d ≡ f k
  unfolding written
  written_at zero old k d h l = absurd (not-suc-le-zero h)
  written_at (suc m) old k d h l =
      elim (dec_lt k m) [
        | yes low ↦ get_or-set_other (written f m old) m k (f m) d (λ e. omega arith) ∙ written_at m old k d low (omega arith)
        | no high ↦
            let last : k ≡ m = omega arith in
            rw last (get_or-set_same (written f m old) m (f m) d (omega (arith, length-written m old)))
      ]

  -- a list of that length and with those entries is the written one
  pub written_is : (m : ℕ) (old new : List A) (d : A) → m ≤ length old → length new ≡ length old
      → ((k : ℕ) → k < m → get_or new k d ≡ f k)
      → ((k : ℕ) → m ≤ k → get_or new k d ≡ get_or old k d)
      → new ≡ written f m old
  written_is m old new d l e set_to kept =
      ext_get_or d new (written f m old) (e ∙ sym (length-written m old)) (λ k h.
      elim (dec_lt k m) [
        | yes low ↦ set_to k low ∙ sym (written_at m old k d low l)
        | no high ↦ kept k (omega arith) ∙ sym (written-past m old k d (omega arith))
      ])

  -- a list that is written at all of its places is the list of the rule
  pub written-whole : (m : ℕ) (old : List A) (d : A) → length old ≡ m → written f m old ≡ tabulate m f
  written-whole m old d e =
      ext_get_or d (written f m old) (tabulate m f) (length-written m old ∙ e ∙ sym (length-tabulate m f)) (λ k h.
      let low : k < m = omega (arith, length-written m old) in
      written_at m old k d low (le_of_eq (sym e)) ∙ sym (get_or-tabulate m f k d low))

-- it depends on the rule below m alone
pub written_same : {A : Type 0} (f g : ℕ → A) (m : ℕ) (old : List A) → ((k : ℕ) → k < m → f k ≡ g k) → written f m old ≡ written g m old
unfolding written
written_same f g zero old h = refl
written_same f g (suc m) old h = rw (written_same f g m old (λ k l. h k (omega arith)), h m (omega arith))

-- what is written over is not seen
pub written_over : {A : Type 0} (f g : ℕ → A) (m : ℕ) (old : List A) (d : A) → m ≤ length old → written g m (written f m old) ≡ written g m old
written_over f g m old d l =
    written_is g m old (written g m (written f m old)) d l (length-written g m (written f m old) ∙ length-written f m old)
    (λ k low. written_at g m (written f m old) k d low (omega (arith, length-written f m old)))
    (λ k high. written-past g m (written f m old) k d high ∙ written-past f m old k d high)

-- ---- a stretch of the list

module _ {A : Type 0} (from : ℕ) (f : ℕ → A) where
  pub length-written-from : (m : ℕ) (old : List A) → length (written_from from f m old) ≡ length old
  unfolding written_from
  length-written-from zero old = refl
  length-written-from (suc m) old = simp length-set (length-written-from m old)

  -- a store at the stretch's next place
  pub written-from-next : (k : ℕ) (old : List A) → set (written_from from f k old) (from + k) (f k) ≡ written_from from f (k + 1) old
  unfolding written_from
  written-from-next k old = rw (add-one k)

-- a stretch after the first m places
pub written_on : {A : Type 0} (f g : ℕ → A) (m k : ℕ) (old : List A) → ((i : ℕ) → i < k → f i ≡ g (m + i)) → written_from m f k (written g m old) ≡ written g (m + k) old
unfolding written_from written
written_on f g m zero old h = rw (add-zero m)
written_on f g m (suc k) old h = rw (add-suc m k, written_on f g m k old (λ i l. h i (omega arith)), h k (omega arith))

-- it depends on the rule below m alone
pub written-from-same : {A : Type 0} (from : ℕ) (f g : ℕ → A) (m : ℕ) (old : List A) → ((k : ℕ) → k < m → f k ≡ g k) → written_from from f m old ≡ written_from from g m old
unfolding written_from
written-from-same from f g zero old h = refl
written-from-same from f g (suc m) old h = rw (written-from-same from f g m old (λ k l. h k (omega arith)), h m (omega arith))

-- a stretch next to a stretch of a places
pub written-from-on : {A : Type 0} (from a : ℕ) (f g : ℕ → A) (k : ℕ) (old : List A) → ((i : ℕ) → i < k → f i ≡ g (a + i))
    → written_from (from + a) f k (written_from from g a old) ≡ written_from from g (a + k) old
unfolding written_from
written-from-on from a f g zero old h = rw (add-zero a)
written-from-on from a f g (suc k) old h =
    rw (add-suc a k) (λ i. set (written-from-on from a f g k old (λ j l. h j (omega arith)) i) (add_assoc from a k i) (h k (omega arith) i))

-- ---- a call's number

-- on a refusal the length is kept too
pub length-left : {A : Type 0} (r : ℕ) (f : ℕ → A) (m : ℕ) (old : List A) → length (left r f m old) ≡ length old
length-left zero f m old = length-written f m old
length-left (suc r) f m old = refl

-- what is not written may be another
pub left-same : {A : Type 0} (r : ℕ) (f g : ℕ → A) (m : ℕ) (old : List A) → written f m old ≡ written g m old → left r f m old ≡ left r g m old
left-same zero f g m old e = e
left-same (suc r) f g m old e = refl

-- a call that gave the refusal r, which is the number k, leaves the old list
pub unwritten : {A : Type 0} {r : ℕ} (k : ℕ) (f : ℕ → A) (m : ℕ) (old : List A) → (r ≡ 0 → ⊥) → r ≡ k → old ≡ left k f m old
unwritten zero f m old refused number = absurd (refused number)
unwritten (suc k) f m old refused number = refl
