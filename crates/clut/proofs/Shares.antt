-- Every entry that is read is from 0 to 1: `entry-share`; so is each of the buffer's first entries after a reading that was not refused, of values
-- (`units-shares`) and of an element (`read-shares`).
-- Assumes nothing.
use Prim.Native.Nat.{ℕ, zero, suc, ◌+◌, ◌-◌, ◌*◌, ◌^◌, ◌≤◌, ◌<◌}
use mathlib.Core.Path.{◌≡◌, sym, ap, ◌∙◌, subst}
use mathlib.Core.List.{List}
use native.Mathlib.Nat.{lt_of_lt_of_le, pow-le-pow_right, zero-lt-suc}
use native.Mathlib.Decide.{dec_le}
use native.Mathlib.Omega.{arith}
use lib.Dec.{T}
use lib.Pow.{are_bytes}
use lib.Ieee.{Float, nan}
use lib.ListN.{length, get_or, take, drop, length-take, get_or-eq_default}
use lib.Seq.{get_or-take, get_or-drop}
use Rattle.outcome.specs.Outcome.{on_done}
use Rattle.binary32.specs.Range.{Share}
use Rattle.binary32.proofs.Ranges.{unit-share}
use Rattle.lists.specs.Buffer.{left}
use Rattle.lists.proofs.Lists.{bytes-at}
use Rattle.lists.proofs.Bytes.{big-below}
use Rattle.lists.proofs.Buffer.{written_at}
use Rattle.layout.specs.Layout.{Laid, refused_by, entries, IsLayout}
use Rattle.clut.specs.Units.{value_at, entry_at, data_refusal, UnitsRead}
use Rattle.clut.specs.Clut.{precision_of, data_of, layout_of, total_of, refusal, ClutRead}
use Rattle.clut.proofs.Reading.{clut-is-layout, clut-number, all-passed, data-holds}

-- the bytes of a value, as far as they are there
part : (n k : ℕ) (bytes : List ℕ) → ((i : ℕ) → get_or bytes i 0 < 256) → (i : ℕ) → get_or (take n (drop k bytes)) i 0 < 256
part n k bytes each i = elim (dec_le (suc i) n) [
  | yes h ↦ subst (λ (b : ℕ). b < 256) (sym (get_or-take n (drop k bytes) i 0 h ∙ get_or-drop k bytes i 0)) (each (k + i))
  | no h ↦ subst (λ (b : ℕ). b < 256) (sym (get_or-eq_default (take n (drop k bytes)) 0 (omega (arith, length-take n (drop k bytes))))) (zero-lt-suc 255)
]

pub value-below : (width : ℕ) (bytes : List ℕ) (e : ℕ) → ((i : ℕ) → get_or bytes i 0 < 256) → value_at width bytes e < 256 ^ width
unfolding value_at
value-below width bytes e each =
    let its = take width (drop (width * e) bytes) in
    lt_of_lt_of_le (big-below its (part width (width * e) bytes each)) (pow-le-pow_right (zero-lt-suc 255) (omega (arith, length-take width (drop (width * e) bytes))))

-- 256 ^ width - 1 is one of 255 and 65535
largest : (width : ℕ) → 1 ≤ width → width ≤ 2 → (1 ≤ 256 ^ width - 1) × (256 ^ width - 1 ≤ 16777216)
largest zero from to = absurd (omega arith)
largest (suc zero) from to = (omega arith, omega arith)
largest (suc (suc zero)) from to = (omega arith, omega arith)
largest (suc (suc (suc width))) from to = absurd (omega arith)

pub entry-share : (width : ℕ) (bytes : List ℕ) (e : ℕ) → 1 ≤ width → width ≤ 2 → ((i : ℕ) → get_or bytes i 0 < 256) → Share (entry_at width bytes e)
unfolding entry_at
entry-share width bytes e from to each =
    let most = largest width from to in
    unit-share (256 ^ width - 1) (value_at width bytes e) most.0 most.1 (omega (arith, value-below width bytes e each))

-- ---- after a reading of values that was not refused
pub units-shares : (bytes : List ℕ) → ((i : ℕ) → get_or bytes i 0 < 256) → (precision count : ℕ) (old now : List Float) → UnitsRead bytes precision count old 0 now
    → (e : ℕ) → e < count → Share (get_or now e nan)
units-shares bytes each precision count old now read e h =
    let holds = data-holds _ _ _ _ (sym read.number) in
    subst Share (sym (ap (λ (l : List Float). get_or l e nan) read.entries ∙ written_at (entry_at precision bytes) count old e nan h holds.1.1))
    (entry-share precision bytes e holds.0.0 holds.0.1 each)

-- ---- after a reading of an element that was not refused
module _ (element : List ℕ) (bytes : T (are_bytes element)) (n m : ℕ) (old : List Float) (r : Laid) (now : List Float) (read : ClutRead element n m old r now) (done : r.refusal ≡ 0) where
  accepted : refusal element n m (length old) ≡ 0
  accepted = sym (clut-number element n m old r now read) ∙ done

  checks : ((layout_of element n m).refusal ≡ 0) × (data_refusal (precision_of element) (length (data_of element)) (total_of element n m) (length old) ≡ 0)
  checks = all-passed element n m (length old) accepted

  pub read-laid : r ≡ layout_of element n m
  read-laid = read.answer ∙ ap (λ (k : ℕ). on_done k (layout_of element n m) (refused_by k)) accepted

  pub read-is-layout : IsLayout r.lut
  read-is-layout = subst IsLayout (ap (λ (l : Laid). l.lut) (sym read-laid)) (clut-is-layout element n m (bytes-at element bytes) checks.0)

  pub read-shares : (e : ℕ) → e < entries r.lut → Share (get_or now e nan)
  read-shares e h =
      let f = entry_at (precision_of element) (data_of element) in
      units-shares (data_of element) (λ i. subst (λ (b : ℕ). b < 256) (sym (get_or-drop 20 element i 0)) (bytes-at element bytes (20 + i))) (precision_of element) (total_of element n m) old now
      (record { number = sym checks.1; entries = read.table ∙ ap (λ (k : ℕ). left k f (total_of element n m) old) accepted })
      e (subst (λ (l : Laid). e < entries l.lut) read-laid h)
