-- A part of the table. Assumes nothing.
use Prim.Native.Nat.{ℕ, ◌+◌, ◌-◌}
use native.Mathlib.Nat.{add_assoc, le_of_eq}
use mathlib.Core.Path.{◌≡◌, ap, sym, fun_ext, ◌∙◌}
use mathlib.Core.List.{List, ◌∷◌}
use lib.Ieee.{Float, nan}
use lib.ListN.{length, get_or, take, drop, length-drop}
use lib.Seq.{take_all, get_or-drop}
use Rattle.lookup.specs.Places.{sum, within}

-- as the code has it
pub from-drop : (part : List Float) (a : ℕ) → take (length part - a) (drop a part) ≡ drop a part
from-drop part a = take_all (length part - a) (drop a part) (le_of_eq (length-drop a part))

pub from-length : (part : List Float) (a : ℕ) → length (take (length part - a) (drop a part)) ≡ length part - a
from-length part a = ap length (from-drop part a) ∙ length-drop a part

-- a node that stands a entries further
pub drop-within : (part : List Float) (a o : ℕ) → within (drop a part) o ≡ (λ ks. within part o (a ∷ ks))
drop-within part a o =
    fun_ext (λ ks. get_or-drop a part (sum ks + o) nan ∙ ap (λ (n : ℕ). get_or part n nan) (sym (add_assoc a (sum ks) o)))
