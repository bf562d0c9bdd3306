-- That a function's statement leaves one outcome, its result and what stands behind each lent `&mut` as it returns, and that two functions have the same. A NaN
-- has no payload here.
-- What a number says of an outcome: 0 is done, any other a refusal.
-- Definitions only.
use Rattle.std.specs.Prelude.{ℕ, zero, suc, ◌≡◌, Bool, true, List}
use borrow.Fn.Kinds.{ParamKind, ResultKind, Out, Dens, ended_of, res_t}
use contract.Lifetimes.{Lfts}
use denote.Triple.Clauses.{Lasts, at_exit}

-- At the same arguments a, an outcome that satisfies the first reading of an `ensures` and one that satisfies the second are equal: what is seen of the
-- results x and y, and the last values ws and vs.
abbrev pub AgreeSeen : (n : ℕ) (ps : List (ParamKind n)) (r : ResultKind n) (Seen : Lfts n → Type 0) (seen : (κs : Lfts n) → (res_t r κs).Denot → Seen κs) → Out n ps r → Out n ps r → Type 0
AgreeSeen n ps r Seen seen First Second =
    (κs : Lfts n) (a : Dens κs ps) (x y : (res_t r κs).Denot) (ws vs : Lasts (ended_of n ps r) κs a)
    → First κs a x (at_exit (ended_of n ps r) κs a ws)
    → Second κs a y (at_exit (ended_of n ps r) κs a vs)
    → (seen κs x ≡ seen κs y) × (ws ≡ vs)

-- Two functions of the same parameters have the same outcomes. A result is seen whole. (Of a part that is handed back only its entries are seen,
-- `λ κs z. z.now`: a statement fixes no pointer.)
abbrev pub Agree : (n : ℕ) (ps : List (ParamKind n)) (r : ResultKind n) → Out n ps r → Out n ps r → Type 0
Agree n ps r First Second = AgreeSeen n ps r (λ κs. (res_t r κs).Denot) (λ κs z. z) First Second

-- A statement that agrees with itself leaves one outcome.
abbrev pub OneOutcomeSeen : (n : ℕ) (ps : List (ParamKind n)) (r : ResultKind n) (Seen : Lfts n → Type 0) (seen : (κs : Lfts n) → (res_t r κs).Denot → Seen κs) → Out n ps r → Type 0
OneOutcomeSeen n ps r Seen seen Post = AgreeSeen n ps r Seen seen Post Post

abbrev pub OneOutcome : (n : ℕ) (ps : List (ParamKind n)) (r : ResultKind n) → Out n ps r → Type 0
OneOutcome n ps r Post = Agree n ps r Post Post

-- b is true exactly when the claim holds
pub record Decides (b : Bool) (Claim : Type 0) : Type 0 where
  pub holds : b ≡ true → Claim
  pub found : Claim → b ≡ true

-- the first number where it is a refusal, else the second
abbrev pub or_else : ℕ → ℕ → ℕ
or_else zero second = second
or_else (suc r) second = suc r

-- what a lent place holds after a call with the number r: the new value on 0, the old one on a refusal
abbrev pub on_done : {A : Type 0} → ℕ → A → A → A
on_done zero new old = new
on_done (suc r) new old = old
