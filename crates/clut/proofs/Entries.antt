-- A value by its bytes: `value-one`, `value-two`. Entries written one after another: `one-more`, `four-more`. Assumes nothing.
use Rattle.std.proofs.Common.{◌≡◌, ℕ, ◌+◌, ◌*◌, ◌≤◌, List, [], ◌∷◌, length, get_or, take, drop}
use Rattle.std.proofs.Common.{arith, refl, sym, ap, ◌∙◌, length-drop, get_or-drop}
use lib.Ieee.{Float}
use lib.ListN.{set}
use Rattle.lists.specs.Bytes.{big_endian}
use Rattle.lists.specs.Buffer.{written}
use Rattle.lists.proofs.Buffer.{written_next}
use Rattle.clut.specs.Units.{value_at}

one : (xs : List ℕ) → 1 ≤ length xs → big_endian (take 1 xs) ≡ get_or xs 0 0
unfolding big_endian
one [] h = absurd (omega arith)
one (x ∷ xs) h = omega arith

two : (xs : List ℕ) → 2 ≤ length xs → big_endian (take 2 xs) ≡ get_or xs 0 0 * 256 + get_or xs 1 0
unfolding big_endian
two [] h = absurd (omega arith)
two (x ∷ []) h = absurd (omega arith)
two (x ∷ (y ∷ xs)) h = omega arith

module _ (bytes : List ℕ) (e : ℕ) where
  pub value-one : 1 * e + 1 ≤ length bytes → value_at 1 bytes e ≡ get_or bytes e 0
  unfolding value_at
  value-one h =
      one (drop (1 * e) bytes) (omega (arith, length-drop (1 * e) bytes))
      ∙ get_or-drop (1 * e) bytes 0 0
      ∙ ap (λ (i : ℕ). get_or bytes i 0) (omega arith)

  pub value-two : 2 * e + 2 ≤ length bytes → value_at 2 bytes e ≡ get_or bytes (2 * e) 0 * 256 + get_or bytes (2 * e + 1) 0
  unfolding value_at
  value-two h =
      two (drop (2 * e) bytes) (omega (arith, length-drop (2 * e) bytes))
      ∙ (λ i. get_or-drop (2 * e) bytes 0 0 i * 256 + get_or-drop (2 * e) bytes 1 0 i)
      ∙ ap (λ (i : ℕ). get_or bytes i 0 * 256 + get_or bytes (2 * e + 1) 0) (omega arith)

-- ---- after e entries of a rule

module _ (f : ℕ → Float) (old : List Float) where
  pub one-more : (e next : ℕ) (now : List Float) (x : Float) → next ≡ e + 1 → now ≡ written f e old → x ≡ f e
      → set now e x ≡ written f next old
  one-more e next now x after so_far is =
      (λ i. set (so_far i) e (is i)) ∙ written_next f e old ∙ ap (λ (n : ℕ). written f n old) (sym after)

  pub four-more : (e next : ℕ) (now : List Float) (a b c d : Float) → next ≡ e + 4 → now ≡ written f e old
      → a ≡ f e → b ≡ f (e + 1) → c ≡ f (e + 2) → d ≡ f (e + 3)
      → set (set (set (set now e a) (e + 1) b) (e + 2) c) (e + 3) d ≡ written f next old
  four-more e next now a b c d after so_far p q r s =
      one-more (e + 3) next _ d (omega arith)
      (one-more (e + 2) (e + 3) _ c (omega arith)
      (one-more (e + 1) (e + 2) _ b (omega arith)
      (one-more e (e + 1) now a refl so_far p) q) r) s
