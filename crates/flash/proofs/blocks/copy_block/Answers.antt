use Rattle.std.proofs.Common.{◌+◌, ◌*◌, set, refl, ◌∙◌}
use Rattle.lists.specs.Buffer.{written}
use Rattle.lists.proofs.Buffer.{written_next}
use Rattle.flash.specs.File.{word_at}
use Rattle.flash.proofs.blocks.copy_block.Goals as goal

pub loop-e-init : goal.loop-e-init
unfolding written
loop-e-init c = refl

pub loop-e-preserved : goal.loop-e-preserved
loop-e-preserved c =
    let a = c.args in
    (λ i. set (c.loop-e.invariant i) c.loop-e.e (c.word.ensures i)) ∙ written_next (λ e. word_at a.file.now (a.at + 4 * e)) c.loop-e.e a.bits.now
