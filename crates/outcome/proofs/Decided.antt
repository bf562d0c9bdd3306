-- A Bool that decides a claim is one Bool; `refuses`, `accepts`: what a test that failed, or passed, decides. Assumes nothing.
use Prim.Native.Nat.{ℕ}
use mathlib.Core.Path.{◌≡◌, refl, sym}
use mathlib.Core.Bool.{Bool, true, false, not}
use native.Mathlib.Omega.{arith}
use Rattle.outcome.specs.Outcome.{Decides}

pub decided : {Claim : Type 0} (x y : Bool) → Decides x Claim → Decides y Claim → x ≡ y
decided true y p q = sym (q.found (p.holds refl))
decided false true p q = p.found (q.holds refl)
decided false false p q = refl

pub refuses : {Claim : Type 0} → (Claim → ⊥) → Decides false Claim
refuses fails = record { holds = λ e. absurd (let z : ◌≡◌ {A = ℕ} 0 1 = cc in omega arith); found = λ claim. absurd (fails claim) }

pub accepts : {Claim : Type 0} → Claim → Decides true Claim
accepts claim = record { holds = λ e. claim; found = λ c. refl }

pub not-both : (b : Bool) → not b ≡ true → b ≡ true → ⊥
not-both true p q = let z : ◌≡◌ {A = ℕ} 0 1 = cc in omega arith
not-both false p q = let z : ◌≡◌ {A = ℕ} 0 1 = cc in omega arith
