-- Each test is the definition's.
use Rattle.std.proofs.Common.{◌≡◌, ℕ, ◌+◌, ◌*◌, Bool, cond, sym, ap, ◌∙◌, le-ltb, lt-ltb}
use Rattle.std.proofs.lemmas.Result.{err_from_is_err_and}
use Rattle.outcome.specs.Refused.{number_of}
use Rattle.outcome.proofs.Numbers.{not_done}
use Rattle.flash.specs.File.{blocks_for, file_length}
use Rattle.flash.specs.Refusals.{body_refusal}
use Rattle.flash.proofs.Bodies.{rest-length, rest-body, rest-room}
use Rattle.flash.proofs.check.check_rest.Goals as goal
use Rattle.flash.proofs.check.check_rest.Goals.{After-blocks_for-count}

whole : (c : After-blocks_for-count) → 512 * (1 + c.blocks_for-count.result) ≡ file_length c.args.total
unfolding file_length
whole c = ap (λ (b : ℕ). 512 * (1 + b)) c.blocks_for-count.ensures.value

body : (c : After-blocks_for-count) (r : ℕ) →
    let a = c.args in r ≡ body_refusal a.file.now a.total c.blocks_for-count.result → r ≡ body_refusal a.file.now a.total (blocks_for a.total)
body c r is = is ∙ ap (body_refusal c.args.file.now c.args.total) c.blocks_for-count.ensures.value

pub returns-then-file-count : goal.returns-then-file-count
returns-then-file-count c = rest-length _ _ _ (λ e. c.if-file-count.true (e ∙ sym (whole (goal.at.returns-then-file-count c).After-blocks_for-count)))

pub returns-in_err-check_body : goal.returns-in_err-check_body
returns-in_err-check_body c =
    let counted = (goal.at.returns-in_err-check_body c).After-blocks_for-count in
    let e = c.in_err-check_body.field-0.0 in
    let p = err_from_is_err_and c.from_residual.result c.from_residual.ensures.1 in
    rw (p.1, p.2) (rest-body _ _ _ (c.if-file-count.false ∙ whole counted) (number_of e) (body counted (number_of e) c.in_err-check_body.ensures) (not_done e))

pub returns-then-room-total : goal.returns-then-room-total
returns-then-room-total c =
    let counted = (goal.at.returns-then-room-total c).After-blocks_for-count in
    sym
    (rest-room _ _ _ (c.if-file-count.false ∙ whole counted) (sym (body counted 0 c.in_ok-check_body.ensures))
    ∙ ap (λ (b : Bool). cond b 8 0) (lt-ltb _ _ c.if-room-total.true))

pub returns : goal.returns
returns c =
    let counted = (goal.at.returns c).After-blocks_for-count in
    sym
    (rest-room _ _ _ (c.if-file-count.false ∙ whole counted) (sym (body counted 0 c.in_ok-check_body.ensures))
    ∙ ap (λ (b : Bool). cond b 8 0) (le-ltb _ _ c.if-room-total.false))
