-- What holds either way, of each element of a list, and at each node of the cells of a lookup.
-- Assumes nothing.
use Prim.Native.Nat.{ℕ, zero, suc, ◌<◌}
use mathlib.Core.Bool.{Bool, true, false, cond}
use mathlib.Core.List.{List, [], ◌∷◌}
use native.Mathlib.Nat.{le_refl, le_of_suc-le-suc, not-suc-le-zero}
use native.Mathlib.Omega.{arith}
use lib.ListN.{length, get_or}
use lib.Ieee.{Float}
use Rattle.lists.specs.Lists.{last_first}
use Rattle.cell.specs.declared.Cell.{Cell}
use Rattle.lookup.specs.Lookup.{node}

pub either_way : {A : Type 0} (P : A → Type 0) (b : Bool) {x y : A} → P x → P y → P (cond b x y)
either_way P true p q = p
either_way P false p q = q

-- P holds of each element
abbrev pub All : {A : Type 0} → (A → Type 0) → List A → Type 0
All P [] = Unit {0}
All P (x ∷ xs) = P x × All P xs

pub all_map : {A : Type 0} (P Q : A → Type 0) (xs : List A) → ((x : A) → P x → Q x) → All P xs → All Q xs
all_map P Q [] g h = tt
all_map P Q (x ∷ xs) g h = (g x h.0, all_map P Q xs g h.1)

pub all-last-first : (P : ℕ → Type 0) (n : ℕ) (xs : List ℕ) → ((i : ℕ) → i < n → P (get_or xs i 0)) → All P (last_first n xs)
unfolding last_first
all-last-first P zero xs h = tt
all-last-first P (suc n) xs h = (h n (le_refl (suc n)), all-last-first P n xs (λ i l. h i (omega arith)))

pub all-at : {A : Type 0} (P : A → Type 0) (xs : List A) (i : ℕ) (d : A) → i < length xs → All P xs → P (get_or xs i d)
all-at P [] i d l h = absurd (not-suc-le-zero l)
all-at P (x ∷ xs) zero d l h = h.0
all-at P (x ∷ xs) (suc i) d l h = all-at P xs i d (le_of_suc-le-suc l) h.1

-- P holds of the weight of each cell
abbrev pub Weights : (Float → Type 0) → List Cell → Type 0
Weights P = All (λ c. P c.w)

-- P holds of the coordinates of each node of the cells: each ink stands on its cell's lower or upper node
abbrev pub Each : (List ℕ → Type 0) → List Cell → Type 0
Each P [] = P []
Each P (c ∷ cs) = (b : Bool) → Each (λ ks. P (node c b ∷ ks)) cs

pub each_map : (P Q : List ℕ → Type 0) (cs : List Cell) → ((ks : List ℕ) → P ks → Q ks) → Each P cs → Each Q cs
each_map P Q [] g h = g [] h
each_map P Q (c ∷ cs) g h = λ b. each_map (λ ks. P (node c b ∷ ks)) (λ ks. Q (node c b ∷ ks)) cs (λ ks. g (node c b ∷ ks)) (h b)

-- the node where each ink stands on its lower node
abbrev pub lowers : List Cell → List ℕ
lowers [] = []
lowers (c ∷ cs) = c.x ∷ lowers cs

pub each-lowers : (P : List ℕ → Type 0) (cs : List Cell) → Each P cs → P (lowers cs)
each-lowers P [] h = h
each-lowers P (c ∷ cs) h = each-lowers (λ ks. P (c.x ∷ ks)) cs (h false)
