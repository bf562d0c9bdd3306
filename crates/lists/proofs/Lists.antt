-- Laws of the lists, tests and products of specs/Lists.antt.
-- Assumes nothing.
use mathlib.Core.Path.{◌≡◌, refl, sym, ◌∙◌, ap}
use mathlib.Core.Bool.{Bool, true, false, ◌&&◌, ◌||◌, true≢false}
use mathlib.Core.Logic.{◌⊎◌, inl, inr}
use mathlib.Core.List.{List, [], ◌∷◌, reverse, reverse-append}
use Prim.Native.Nat.{ℕ, zero, suc, ◌+◌, ◌-◌, ◌*◌, ◌≤◌, ◌<◌, suc-le-suc}
use native.Mathlib.Nat.{mul-one, one-mul, mul_comm, mul_assoc, mul-pos, le_refl, le_of_eq, le_trans, le-mul_of_pos_right, le_of_suc-le-suc, not-suc-le-zero}
use native.Mathlib.Omega.{arith}
use lib.Dec.{T, ltb, eqb, ltb→lt}
use lib.Pow.{are_bytes}
use lib.Ieee.Fits.{and_l, and_r}
use lib.Ieee.Positive.{first_pos}
use lib.ListN.{length, get_or, take, drop, set, length-drop}
use lib.Seq.{length-take-le, get_or-take, take-suc, take-length, take_all}
use borrow.Author.Tests.{ltb-true, eqb-true, lt-ltb}
use Rattle.lists.specs.Lists.{tabulate, every, some, last_first, product}

-- ---- tabulate

module _ {A : Type 0} where
  pub length-tabulate : (k : ℕ) (f : ℕ → A) → length (tabulate k f) ≡ k
  unfolding tabulate
  length-tabulate zero f = refl
  length-tabulate (suc k) f = ap suc (length-tabulate k (λ i. f (suc i)))

  pub get_or-tabulate : (k : ℕ) (f : ℕ → A) (i : ℕ) (d : A) → i < k → get_or (tabulate k f) i d ≡ f i
  unfolding tabulate
  get_or-tabulate zero f i d h = absurd (not-suc-le-zero h)
  get_or-tabulate (suc k) f zero d h = refl
  get_or-tabulate (suc k) f (suc i) d h = get_or-tabulate k (λ j. f (suc j)) i d (le_of_suc-le-suc h)

  pub tabulate-same : (k : ℕ) (f g : ℕ → A) → ((i : ℕ) → i < k → f i ≡ g i) → tabulate k f ≡ tabulate k g
  unfolding tabulate
  tabulate-same zero f g h = refl
  tabulate-same (suc k) f g h =
      let head : f 0 ≡ g 0 = h 0 (omega arith) in
      let rest : tabulate k (λ i. f (suc i)) ≡ tabulate k (λ i. g (suc i)) = tabulate-same k (λ i. f (suc i)) (λ i. g (suc i)) (λ i l. h (suc i) (suc-le-suc l)) in
      cc

  -- a store at i: the rule changes at i alone
  pub set-tabulate : (k : ℕ) (f g : ℕ → A) (i : ℕ) → ((j : ℕ) → j < k → (j ≡ i → ⊥) → f j ≡ g j) → set (tabulate k f) i (g i) ≡ tabulate k g
  unfolding tabulate
  set-tabulate zero f g i h = refl
  set-tabulate (suc k) f g zero h =
      ap (λ (l : List A). g 0 ∷ l) (tabulate-same k (λ i. f (suc i)) (λ i. g (suc i)) (λ i l. h (suc i) (suc-le-suc l) (λ e. omega arith)))
  set-tabulate (suc k) f g (suc i) h =
      let head : f 0 ≡ g 0 = h 0 (omega arith) (λ e. omega arith) in
      let rest : set (tabulate k (λ j. f (suc j))) i (g (suc i)) ≡ tabulate k (λ j. g (suc j)) = set-tabulate k (λ j. f (suc j)) (λ j. g (suc j)) i (λ j l ne. h (suc j) (suc-le-suc l) (λ e. ne (omega arith))) in
      cc

-- ---- every

pub and-true : (a b : Bool) → a ≡ true → b ≡ true → (a && b) ≡ true
and-true a b p q = rw (p, q)

pub and_left : (a b : Bool) → (a && b) ≡ true → a ≡ true
and_left true b h = refl
and_left false b h = h

pub and_right : (a b : Bool) → (a && b) ≡ true → b ≡ true
and_right true b h = h
and_right false b h = let z : true ≡ false = sym h in cc

-- a number that is one of two
pub one_of : (m a b : ℕ) → (eqb m a || eqb m b) ≡ true → (m ≡ a) ⊎ (m ≡ b)
one_of m a b = go (eqb m a) (eqb m b) refl refl
  where
    go : (x y : Bool) → eqb m a ≡ x → eqb m b ≡ y → (x || y) ≡ true → (m ≡ a) ⊎ (m ≡ b)
    go true y p q h = inl (eqb-true m a p)
    go false true p q h = inr (eqb-true m b q)
    go false false p q h = absurd (true≢false (sym h))

pub and-not : (a b : Bool) → b ≡ false → (a && b) ≡ false
and-not true b h = h
and-not false b h = refl

pub every-head : (p : ℕ → Bool) (x : ℕ) (xs : List ℕ) → every p (x ∷ xs) ≡ true → p x ≡ true
unfolding every
every-head p x xs h = and_left (p x) (every p xs) h

pub every_rest : (p : ℕ → Bool) (x : ℕ) (xs : List ℕ) → every p (x ∷ xs) ≡ true → every p xs ≡ true
unfolding every
every_rest p x xs h = and_right (p x) (every p xs) h

pub every-at : (p : ℕ → Bool) (xs : List ℕ) (i : ℕ) → every p xs ≡ true → i < length xs → p (get_or xs i 0) ≡ true
every-at p [] i h l = absurd (not-suc-le-zero l)
every-at p (x ∷ xs) zero h l = every-head p x xs h
every-at p (x ∷ xs) (suc i) h l = every-at p xs i (every_rest p x xs h) (le_of_suc-le-suc l)

pub every_of : (p : ℕ → Bool) (xs : List ℕ) → ((i : ℕ) → i < length xs → p (get_or xs i 0) ≡ true) → every p xs ≡ true
unfolding every
every_of p [] h = refl
every_of p (x ∷ xs) h = and-true (p x) (every p xs) (h 0 (suc-le-suc (omega arith))) (every_of p xs (λ i l. h (suc i) (suc-le-suc l)))

-- of the first n elements
pub first-every : (p : ℕ → Bool) (xs : List ℕ) (n : ℕ) → n ≤ length xs → ((i : ℕ) → i < n → p (get_or xs i 0) ≡ true) → every p (take n xs) ≡ true
first-every p xs n in-xs h =
    every_of p (take n xs) (λ i l.
    let below : i < n = omega (arith, length-take-le n xs in-xs) in
    rw (get_or-take n xs i 0 below) (h i below))

-- ---- some

pub neither-of : (a b : Bool) → (a || b) ≡ false → (a ≡ false) × (b ≡ false)
neither-of true b h = absurd (true≢false h)
neither-of false b h = (refl, h)

or_right : (a b : Bool) → b ≡ true → (a || b) ≡ true
or_right true b h = refl
or_right false b h = h

module _ {A : Type 0} (p : A → Bool) (none : A) where
  pub some_at : (xs : List A) (i : ℕ) → i < length xs → p (get_or xs i none) ≡ true → some p xs ≡ true
  unfolding some
  some_at [] i l h = absurd (not-suc-le-zero l)
  some_at (x ∷ xs) zero l h = simp h
  some_at (x ∷ xs) (suc i) l h = or_right (p x) (some p xs) (some_at xs i (le_of_suc-le-suc l) h)

  pub some-none : (xs : List A) → ((i : ℕ) → i < length xs → p (get_or xs i none) ≡ false) → some p xs ≡ false
  unfolding some
  some-none [] h = refl
  some-none (x ∷ xs) h = rw (h 0 (suc-le-suc (omega arith))) (some-none xs (λ i l. h (suc i) (suc-le-suc l)))

-- an entry of a list of bytes is one
pub bytes-at : (xs : List ℕ) → T (are_bytes xs) → (i : ℕ) → get_or xs i 0 < 256
bytes-at [] t i = omega arith
bytes-at (x ∷ xs) t zero = ltb→lt x 256 (and_l (ltb x 256) (are_bytes xs) t)
bytes-at (x ∷ xs) t (suc i) = bytes-at xs (and_r (ltb x 256) (are_bytes xs) t) i

-- and a list whose entries are bytes is one of bytes
pub are-bytes : (xs : List ℕ) → ((i : ℕ) → get_or xs i 0 < 256) → T (are_bytes xs)
are-bytes [] each = tt
are-bytes (x ∷ xs) each = simp (lt-ltb x 256 (each 0)) (are-bytes xs (λ i. each (suc i)))

pub tabulate-bytes : (k : ℕ) (f : ℕ → ℕ) → ((i : ℕ) → f i < 256) → T (are_bytes (tabulate k f))
unfolding tabulate
tabulate-bytes zero f each = tt
tabulate-bytes (suc k) f each = simp (lt-ltb (f 0) 256 (each 0)) (tabulate-bytes k (λ i. f (suc i)) (λ i. each (suc i)))

-- ---- the first elements, last first

pub length-last-first : (n : ℕ) (xs : List ℕ) → length (last_first n xs) ≡ n
unfolding last_first
length-last-first zero xs = refl
length-last-first (suc n) xs = ap suc (length-last-first n xs)

pub last-first-same : (n : ℕ) (xs ys : List ℕ) → ((i : ℕ) → i < n → get_or xs i 0 ≡ get_or ys i 0) → last_first n xs ≡ last_first n ys
unfolding last_first
last-first-same zero xs ys h = refl
last-first-same (suc n) xs ys h =
    let head = h n (le_refl (suc n)) in
    let rest = last-first-same n xs ys (λ i l. h i (omega arith)) in
    cc

-- the element at p is the one that p elements follow
pub last-first-at : (n : ℕ) (xs : List ℕ) (p i : ℕ) → p + suc i ≡ n → get_or (last_first n xs) p 0 ≡ get_or xs i 0
unfolding last_first
last-first-at zero xs p i e = absurd (omega arith)
last-first-at (suc n) xs zero i e = let same : n ≡ i = omega arith in rw same
last-first-at (suc n) xs (suc p) i e = last-first-at n xs p i (omega arith)

pub every-last-first : (p : ℕ → Bool) (n : ℕ) (xs : List ℕ) → ((i : ℕ) → i < n → p (get_or xs i 0) ≡ true) → every p (last_first n xs) ≡ true
unfolding every last_first
every-last-first p zero xs h = refl
every-last-first p (suc n) xs h = and-true _ _ (h n (le_refl (suc n))) (every-last-first p n xs (λ i l. h i (omega arith)))

pub reverse-next : (xs : List ℕ) (j : ℕ) → j < length xs → reverse (take (suc j) xs) ≡ get_or xs j 0 ∷ reverse (take j xs)
reverse-next xs j h = rw (take-suc xs j 0 h, reverse-append)

pub reverse-first : (n : ℕ) (xs : List ℕ) → n ≤ length xs → reverse (take n xs) ≡ last_first n xs
unfolding last_first
reverse-first zero xs h = refl
reverse-first (suc n) xs h = reverse-next xs n h ∙ ap (λ (l : List ℕ). get_or xs n 0 ∷ l) (reverse-first n xs (omega arith))

pub reverse-all : (xs : List ℕ) → reverse xs ≡ last_first (length xs) xs
reverse-all xs = ap reverse (sym (take-length xs)) ∙ reverse-first (length xs) xs (le_refl (length xs))

-- ---- product

pub product-take-suc : (xs : List ℕ) (i : ℕ) → i < length xs → product (take (suc i) xs) ≡ product (take i xs) * get_or xs i 0
unfolding product
product-take-suc [] i h = absurd (not-suc-le-zero h)
product-take-suc (x ∷ xs) zero h = mul-one x ∙ sym (one-mul x)
product-take-suc (x ∷ xs) (suc i) h =
    ap (λ (t : ℕ). x * t) (product-take-suc xs i (le_of_suc-le-suc h)) ∙ sym (mul_assoc x (product (take i xs)) (get_or xs i 0))

pub product-last-first : (n : ℕ) (xs : List ℕ) → n ≤ length xs → product (last_first n xs) ≡ product (take n xs)
unfolding last_first product
product-last-first zero xs h = refl
product-last-first (suc n) xs h =
    ap (λ (x : ℕ). get_or xs n 0 * x) (product-last-first n xs (omega arith)) ∙ mul_comm (get_or xs n 0) (product (take n xs)) ∙ sym (product-take-suc xs n h)

pub product-pos : (xs : List ℕ) → every (ltb 0) xs ≡ true → 0 < product xs
unfolding product
product-pos [] h = omega arith
product-pos (x ∷ xs) h = mul-pos (ltb-true 0 x (every-head (ltb 0) x xs h)) (product-pos xs (every_rest (ltb 0) x xs h))

-- and of a product above 0 each element is
pub product-some : (xs : List ℕ) → 0 < product xs → every (ltb 0) xs ≡ true
unfolding product every
product-some [] h = refl
product-some (x ∷ xs) h =
    and-true (ltb 0 x) (every (ltb 0) xs) (lt-ltb 0 x (first_pos x (product xs) h)) (product-some xs (first_pos (product xs) x (omega (arith, mul_comm x (product xs)))))

pub product-drop-le : (xs : List ℕ) (i : ℕ) → every (ltb 0) xs ≡ true → product (drop i xs) ≤ product xs
unfolding product
product-drop-le [] zero h = le_refl 1
product-drop-le [] (suc i) h = le_refl 1
product-drop-le (x ∷ xs) zero h = le_refl (x * product xs)
product-drop-le (x ∷ xs) (suc i) h =
    let some = ltb-true 0 x (every-head (ltb 0) x xs h) in
    le_trans (product-drop-le xs i (every_rest (ltb 0) x xs h)) (omega (arith, le-mul_of_pos_right (product xs) some, mul_comm (product xs) x))

-- ---- parts

-- all that stands from a place on is the list without what stands before it
pub rest-is : {A : Type 0} (k : ℕ) (xs : List A) → take (length xs - k) (drop k xs) ≡ drop k xs
rest-is k xs = take_all (length xs - k) (drop k xs) (le_of_eq (length-drop k xs))
