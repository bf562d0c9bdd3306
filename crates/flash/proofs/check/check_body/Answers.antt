-- What a block gives is what the blocks up to it give.
use Rattle.std.proofs.Common.{◌≡◌, ℕ, ◌+◌, ◌*◌, sym, ap, ◌∙◌, arith}
use Rattle.std.proofs.lemmas.Result.{err_from_is_err_and}
use Rattle.outcome.specs.Refused.{number_of}
use Rattle.outcome.proofs.Numbers.{not_done}
use Rattle.flash.specs.Refusals.{block_refusal, body_refusal}
use Rattle.flash.proofs.Bodies.{body-none, body-next, body-stops}
use Rattle.flash.proofs.check.check_body.Goals as goal
use Rattle.flash.proofs.check.check_body.Goals.{After-check_block}

next : (c : After-check_block) (r : ℕ) →
    let a = c.args in
    let k = c.loop-k.k in r ≡ block_refusal a.file.now (512 * (k + 1)) (k + 1) c.body_used-used.result → r ≡ body_refusal a.file.now a.total (k + 1)
next c r is =
    let a = c.args in
    let k = c.loop-k.k in
    body-next a.file.now a.total k r c.loop-k.invariant (is ∙ ap (block_refusal a.file.now (512 * (k + 1)) (k + 1)) c.body_used-used.ensures.0)

pub loop-k-init : goal.loop-k-init
loop-k-init c = body-none _ _

pub returns-in_err-check_block : goal.returns-in_err-check_block
returns-in_err-check_block c =
    let a = c.args in
    let e = c.in_err-check_block.field-0.0 in
    let here = next (goal.at.returns-in_err-check_block c).After-check_block (number_of e) c.in_err-check_block.ensures in
    let p = err_from_is_err_and c.from_residual.result c.from_residual.ensures.1 in
    rw (p.1, p.2) (here ∙ sym (body-stops a.file.now a.total (c.loop-k.k + 1) a.count (omega arith) (λ z. not_done e (here ∙ z))))

pub loop-k-preserved : goal.loop-k-preserved
loop-k-preserved c = sym (next (goal.at.loop-k-preserved c).After-check_block 0 c.in_ok-check_block.ensures)

pub returns : goal.returns
returns c =
    let last : c.loop-k.k ≡ c.args.count = omega arith in
    sym (ap (body_refusal c.args.file.now c.args.total) (sym last) ∙ c.loop-k.invariant)
