use Rattle.std.proofs.Common.{ℕ, ◌-◌, ◌*◌, drop, sym, ap, ◌∙◌, arith, length-take}
use Rattle.lists.specs.Buffer.{written}
use Rattle.flash.specs.Read.{entry_in}
use Rattle.flash.proofs.Files.{file-long, copy-next, copy-end, copy-none}
use Rattle.flash.proofs.blocks.copy_all.Goals as goal

pub loop-k-init : goal.loop-k-init
unfolding written
loop-k-init c = ap (λ (n : ℕ). written (entry_in c.args.file.now) n c.args.bits.now) (sym (copy-none c.args.total))

pub copy_block-requires : goal.copy_block-requires
copy_block-requires c =
    let a = c.args in
    omega (arith, length-take (c.min-end.result - 126 * c.loop-k.k) (drop (126 * c.loop-k.k) c.loop-k.bits), file-long a.total, c.requires.1, c.blocks_for-k-end.ensures.value)

pub loop-k-preserved : goal.loop-k-preserved
loop-k-preserved c =
    let a = c.args in
    let l = c.loop-k in
    copy-next a.file.now a.bits.now l.k a.total _ l.bits _ (omega arith) (omega arith) (omega arith) l.invariant c.copy_block.ensures

pub returns : goal.returns
returns c = c.loop-k.invariant ∙ ap (λ (n : ℕ). written (entry_in c.args.file.now) n c.args.bits.now) (copy-end c.args.total c.loop-k.k (omega (arith, c.blocks_for-k-end.ensures.value)))
