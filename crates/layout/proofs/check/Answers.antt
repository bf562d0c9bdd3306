-- At each return the tests on the way decide the definition's.
use Rattle.std.proofs.Common.{◌≡◌, ℕ, min, ◌+◌, ◌*◌, ◌≤◌, ◌<◌, Bool, true, false, cond, List, take, length, get_or, Fits, w8, ltb, refl, sym, ap, ◌∙◌, arith, rules, lt-ltb, le-ltb}
use native.Mathlib.Nat.{min-eq_right, min-le_left, mul-pos, pos_of_ne-zero}
use native.Mathlib.Decide.{dec_le}
use lib.Seq.{length-take-le}
use lib.Ieee.Positive.{first_pos}
use Rattle.lists.specs.Lists.{every, product}
use Rattle.lists.proofs.Lists.{are-bytes, product-pos, product-some}
use Rattle.layout.specs.Layout.{Laid, limit, total, is_count, refused_by, laid_using, laid_of, record_of}
use Rattle.layout.specs.Tested.{Sixteen, Tested}
use Rattle.layout.proofs.Parts.{count-from, count-to}
use Rattle.layout.proofs.check.Goals as goal

refusal-or : (b : Bool) (k : ℕ) (rest : Laid) → (cond b (refused_by k) rest).refusal ≡ cond b k rest.refusal
unfolding refused_by
refusal-or true k rest = refl
refusal-or false k rest = refl

-- ---- what the total tells, cut to one above the limit

module _ (used : List ℕ) (m cut : ℕ) (cut-is : cut ≡ min (product used * m) (limit + 1)) where
  -- some size is 0
  none : is_count m ≡ true → cut ≡ 0 → every (ltb 0) used ≡ false
  none count e = go (every (ltb 0) used) refl
    where
      go : (b : Bool) → every (ltb 0) used ≡ b → b ≡ false
      go true above = absurd (omega (arith, e, cut-is, mul-pos (product-pos used above) (count-from m count)))
      go false above = refl

  -- no size is
  some : (cut ≡ 0 → ⊥) → every (ltb 0) used ≡ true
  some ne =
      let more : 0 < total used m = omega (arith, pos_of_ne-zero ne, cut-is, min-le_left (total used m) (limit + 1)) in
      product-some used (first_pos (product used) m more)

  above-limit : limit < cut → ltb limit (total used m) ≡ true
  above-limit h = lt-ltb limit (total used m) (omega (arith, cut-is, min-le_left (total used m) (limit + 1)))

  -- a number cut to one above the limit is within the limit where the number is
  within-limit : cut ≤ limit → ltb limit (total used m) ≡ false
  within-limit h =
      le-ltb limit (total used m) (elim (dec_le (total used m) limit) [
        | yes low ↦ low
        | no high ↦ let full = min-eq_right {n = limit + 1} {m = total used m} (omega arith) in omega (arith, cut-is)
      ])

-- ---- each return

module _ (sizes : List ℕ) (n m : ℕ) (known : Sixteen sizes) where
  inks : is_count n ≡ false → Tested sizes n m 1
  unfolding laid_of laid_using refused_by
  inks fails = record { known = known; number = sym (simp fails) }

  module _ (inks-count : is_count n ≡ true) where
    outputs : is_count m ≡ false → Tested sizes n m 2
    unfolding laid_of laid_using refused_by
    outputs fails = record { known = known; number = sym (simp (inks-count, fails)) }

    module _ (outputs-count : is_count m ≡ true) where
      zero-size : every (ltb 0) (take n sizes) ≡ false → Tested sizes n m 3
      unfolding laid_of laid_using refused_by
      zero-size none = record { known = known; number = sym (simp (inks-count, outputs-count, none)) }

      -- with every test before it passed, the number is the last test's
      by_last : (b : Bool) → every (ltb 0) (take n sizes) ≡ true → ltb limit (total (take n sizes) m) ≡ b → Tested sizes n m (cond b 5 0)
      unfolding laid_of laid_using
      by_last b above is = record { known = known; number = sym (simp (inks-count, outputs-count, above) (refusal-or (ltb limit (total (take n sizes) m)) 5 (record { refusal = 0; lut = record_of (take n sizes) n m }) ∙ ap (λ (t : Bool). cond t 5 0) is)) }

-- ---- what the code knows

-- an array by value is sixteen bytes
known_by : (sizes : List ℕ) → length sizes ≡ 16 → ((i : ℕ) → Fits w8 (get_or sizes i 0)) → Sixteen sizes
known_by sizes len narrow = record { sixteen = len; bytes = are-bytes sizes (λ i. let fits = narrow i in omega arith) }

pub returns-then-not-is_count : goal.returns-then-not-is_count
returns-then-not-is_count c = inks _ _ _ (known_by _ (omega arith) (λ i. search rules)) (sym c.if-not-is_count.ensures)

pub returns-then-not-is_count-2 : goal.returns-then-not-is_count-2
returns-then-not-is_count-2 c =
    outputs _ _ _ (known_by _ (omega arith) (λ i. search rules)) (sym c.if-not-is_count.ensures) (sym c.if-not-is_count-2.ensures)

pub slice_bounds-sizes-end : goal.slice_bounds-sizes-end
slice_bounds-sizes-end c = omega (arith, count-to c.args.n (sym c.if-not-is_count.ensures))

pub slice_bounds-capped-end : goal.slice_bounds-capped-end
slice_bounds-capped-end c = sym (length-take-le c.args.n c.args.sizes (omega (arith, count-to c.args.n (sym c.if-not-is_count.ensures))))

pub capped-total-requires : goal.capped-total-requires
capped-total-requires c = omega (arith, count-to c.args.m (sym c.if-not-is_count-2.ensures))

pub returns-then-total-eq0 : goal.returns-then-total-eq0
returns-then-total-eq0 c =
    zero-size _ _ _ (known_by _ (omega arith) (λ i. search rules)) (sym c.if-not-is_count.ensures) (sym c.if-not-is_count-2.ensures)
    (none _ _ _ c.capped-total.ensures (sym c.if-not-is_count-2.ensures) c.if-total-eq0.true)

pub returns-then-total-gt-LIMIT : goal.returns-then-total-gt-LIMIT
returns-then-total-gt-LIMIT c =
    by_last _ _ _ (known_by _ (omega arith) (λ i. search rules)) (sym c.if-not-is_count.ensures) (sym c.if-not-is_count-2.ensures)
    true (some _ _ _ c.capped-total.ensures c.if-total-eq0.false) (above-limit _ _ _ c.capped-total.ensures c.if-total-gt-LIMIT.true)

pub returns : goal.returns
returns c =
    by_last _ _ _ (known_by _ (omega arith) (λ i. search rules)) (sym c.if-not-is_count.ensures) (sym c.if-not-is_count-2.ensures)
    false (some _ _ _ c.capped-total.ensures c.if-total-eq0.false) (within-limit _ _ _ c.capped-total.ensures c.if-total-gt-LIMIT.false)
