-- Each part of the number is the definition's.
use Rattle.std.proofs.Common.{◌≡◌, ℕ, List, refl, sym, ap, ◌∙◌, subst, arith}
use Rattle.lists.specs.Bytes.{first_sixteen}
use Rattle.lists.proofs.Lists.{rest-is}
use Rattle.layout.specs.Layout.{laid_in, LaidBy}
use Rattle.flash.specs.Refusals.{block_refusal, inks_in, outputs_in}
use Rattle.flash.proofs.Reading.{block_number, short-head, head-refused, head-laid}
use Rattle.flash.proofs.file_layout.Goals as goal
use Rattle.flash.proofs.file_layout.Goals.{After-head_used}

-- what block 0 gives is what the definition says of its sizes in use
block-is : (c : After-head_used) (r : ℕ) → r ≡ block_refusal c.args.file.now 0 0 c.head_used.result → r ≡ block_number c.args.file.now
block-is c r is = is ∙ ap (block_refusal c.args.file.now 0 0) c.head_used.ensures.0

pub returns-then-file-lt512 : goal.returns-then-file-lt512
returns-then-file-lt512 c = head-refused c.args.file.now 17 (λ e. omega arith) (short-head c.args.file.now c.if-file-lt512.true) _ refl

pub returns : goal.returns
returns c =
    let file = c.args.file.now in
    head-laid file c.if-file-lt512.false (sym (block-is (goal.at.returns c).After-head_used 0 c.in_ok-check_block.ensures)) _
    (subst (λ (sizes : List ℕ). LaidBy sizes (inks_in file) (outputs_in file) (laid_in c.layout.result)) (c.first_16.ensures ∙ ap first_sixteen (rest-is 6 file)) c.layout.ensures)
