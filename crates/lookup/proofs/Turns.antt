-- A loop that sets one entry of a buffer a turn. Assumes nothing.
use Prim.Native.Nat.{ℕ, ◌+◌, ◌-◌, ◌*◌, ◌≤◌, ◌<◌}
use mathlib.Core.Path.{◌≡◌, refl, ap, ap₂, ◌∙◌}
use mathlib.Core.List.{List}
use native.Mathlib.Omega.{arith}
use lib.Ieee.{Float}
use lib.ListN.{length, set, length-set}
use mir.Syntax.{w64}
use mir.Val.{Fits}
use Rattle.lists.specs.Buffer.{written}
use Rattle.lists.proofs.Buffer.{length-written, written_next}
use Rattle.lookup.proofs.Room.{Room}

-- after o of m turns the buffer, which was `old`, is `now`
pub record Turned {A : Type 0} (f : ℕ → A) (m : ℕ) (old now : List A) (o : ℕ) : Type 0 where
  pub most : o ≤ m
  pub room : length now ≡ length old
  pub set_to : now ≡ written f o old

-- the turn at place o of a buffer of n entries: the place is there, the next one fits, and one turn fewer is left
pub record Turn (m o n : ℕ) : Type 0 where
  pub bytes : Fits w64 (o * 4)
  pub inside : o < n
  pub next : Fits w64 (o + 1)
  pub fewer : m - (o + 1) < m - o

module _ {A : Type 0} (f : ℕ → A) (m : ℕ) (old : List A) where
  pub turned_none : Turned f m old old 0
  unfolding written
  turned_none = record { most = omega arith; room = refl; set_to = refl }

  module _ (now : List A) (o : ℕ) (turned : Turned f m old now o) where
    pub a_turn : o < m → m ≤ length old → Room (length old) → Turn m o (length now)
    a_turn less enough room = record { bytes = omega arith; inside = omega arith; next = omega arith; fewer = omega arith }

    pub turned_more : o < m → (v : A) → v ≡ f o → Turned f m old (set now o v) (o + 1)
    turned_more less v is =
        record {
          most = omega arith;
          room = simp length-set turned.room;
          set_to = ap₂ (λ (l : List A) (x : A). set l o x) turned.set_to is ∙ written_next f o old;
        }

    pub turned-all : m ≤ o → now ≡ written f m old
    turned-all all = let same : o ≡ m = omega arith in turned.set_to ∙ ap (λ (k : ℕ). written f k old) same

-- a buffer that was written is as long as before
pub same-room : (f : ℕ → Float) (m : ℕ) (old now : List Float) → now ≡ written f m old → length now ≡ length old
same-room f m old now e = ap length e ∙ length-written f m old
