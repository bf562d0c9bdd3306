-- Filling: `zeros-all` by its bytes, `zeros-part` by the bits that some byte has set; `zeros-at`, each byte by it. Assumes nothing.
use Rattle.std.proofs.Common.{◌≡◌, ℕ, zero, suc, ◌+◌, ◌<◌, ◌≤◌, true, ◌&&◌, eqb, List, [], ◌∷◌, length, get_or, take, drop, sym, refl, ap, ◌∙◌, arith, length-take, length-drop, get_or-drop, get_or-take, ext_get_or, eq-eqb, ne_eqb, eqb-true}
use Rattle.std.specs.List.{fold}
use Rattle.std.specs.Int.Bits.{bit_or, or_zero_l}
use Rattle.std.proofs.lemmas.Nat.{le_or_l}
use Rattle.lists.specs.Lists.{tabulate, every}
use Rattle.lists.proofs.Lists.{length-tabulate, get_or-tabulate, every_of, every-at}
use Rattle.flash.specs.Refusals.{zeros}

-- the bits of a list's bytes and of a are all 0
no-bits : (xs : List ℕ) (a : ℕ) → eqb (fold bit_or a xs) 0 ≡ (eqb 0 a && every (eqb 0) xs)
unfolding every
no-bits [] zero = refl
no-bits [] (suc a) = ne_eqb (suc a) 0 (λ e. omega arith) ∙ simp (ne_eqb 0 (suc a) (λ e. omega arith))
no-bits (x ∷ xs) zero = ap (λ (b : ℕ). eqb (fold bit_or b xs) 0) (or_zero_l x) ∙ no-bits xs x
no-bits (x ∷ xs) (suc a) =
    let some : 0 < bit_or (suc a) x = omega (arith, le_or_l (suc a) x) in
    no-bits xs (bit_or (suc a) x) ∙ simp (ne_eqb 0 (bit_or (suc a) x) (λ e. omega arith), ne_eqb 0 (suc a) (λ e. omega arith))

module _ (file : List ℕ) (from count : ℕ) where
  abbrev byte : ℕ → ℕ
  byte i = get_or file (from + i) 0

  pub zeros-all : ((k : ℕ) → k < count → byte k ≡ 0) → zeros file from count ≡ true
  unfolding zeros
  zeros-all h =
      every_of (eqb 0) (tabulate count byte) (λ i l.
      let low : i < count = omega (arith, length-tabulate count byte) in
      eq-eqb 0 _ (sym (get_or-tabulate count byte i 0 low ∙ h i low)))

  pub zeros-at : zeros file from count ≡ true → (k : ℕ) → k < count → byte k ≡ 0
  unfolding zeros
  zeros-at h k l =
      sym (get_or-tabulate count byte k 0 l) ∙ sym (eqb-true 0 _ (every-at (eqb 0) (tabulate count byte) k h (omega (arith, length-tabulate count byte))))

  part-is : (n : ℕ) → n ≡ count → from + count ≤ length file → take n (drop from file) ≡ tabulate count byte
  part-is n is fits =
      let long : length (take n (drop from file)) ≡ count = omega (arith, length-take n (drop from file), length-drop from file) in
      ext_get_or 0 (take n (drop from file)) (tabulate count byte) (long ∙ sym (length-tabulate count byte)) (λ i h.
      let low : i < n = omega arith in
      get_or-take n (drop from file) i 0 low ∙ get_or-drop from file i 0 ∙ sym (get_or-tabulate count byte i 0 (omega arith)))

  pub zeros-part : (n : ℕ) → n ≡ count → from + count ≤ length file → eqb (fold bit_or 0 (take n (drop from file))) 0 ≡ zeros file from count
  unfolding zeros
  zeros-part n is fits = ap (λ (part : List ℕ). eqb (fold bit_or 0 part) 0) (part-is n is fits) ∙ no-bits (tabulate count byte) 0
