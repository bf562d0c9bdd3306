use Rattle.std.proofs.Common.{◌≡◌, ℕ, ◌+◌, ◌*◌, ◌%◌, refl, ap, ◌∙◌, arith}
use Rattle.flash.specs.File.{word_at, sum_to, check_of}
use Rattle.flash.proofs.Sums.{check-next}
use Rattle.flash.proofs.words.sum.Goals as goal

pub loop-j-init : goal.loop-j-init
unfolding sum_to
loop-j-init c = refl

pub loop-j-preserved : goal.loop-j-preserved
loop-j-preserved c =
    check-next (λ k. word_at c.args.file.now (c.args.at + 4 * k)) c.loop-j.j c.loop-j.sum c.word-sum.result _ c.loop-j.invariant c.word-sum.ensures refl

pub returns : goal.returns
unfolding check_of
returns c =
    let all : c.loop-j.j ≡ 127 = omega arith in
    c.loop-j.invariant ∙ ap (λ (j : ℕ). sum_to (λ k. word_at c.args.file.now (c.args.at + 4 * k)) j % 4_294_967_296) all
