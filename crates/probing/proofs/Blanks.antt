-- Words after one blank each: one word more after the others.
-- Assumes nothing.
use Rattle.std.proofs.Common.{◌≡◌, ap, sym, ◌∙◌, ℕ, zero, suc, ◌<◌, Float}
use Rattle.std.proofs.Common.{List, [], ◌∷◌, ◌++◌, length, map, get_or, take, append_assoc, append-nil}
use Rattle.std.specs.Float.{nan}
use native.Mathlib.Nat.{not-suc-le-zero, le_of_suc-le-suc}
use Rattle.probing.specs.Text.{blank, after_blanks}

pub blanks-next : (f : Float → List ℕ) (xs : List Float) (o : ℕ) → o < length xs
    → after_blanks (map f (take (suc o) xs)) ≡ after_blanks (map f (take o xs)) ++ (blank ∷ f (get_or xs o nan))
unfolding after_blanks
blanks-next f [] o l = absurd (not-suc-le-zero l)
blanks-next f (x ∷ xs) zero l = ap (λ (t : List ℕ). blank ∷ t) (append-nil (f x))
blanks-next f (x ∷ xs) (suc o) l =
    ap (λ (t : List ℕ). blank ∷ (f x ++ t)) (blanks-next f xs o (le_of_suc-le-suc l))
    ∙ sym (append_assoc (blank ∷ f x) (after_blanks (map f (take o xs))) (blank ∷ f (get_or xs o nan)))
