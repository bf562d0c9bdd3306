-- Each way out returns what `cond` picks where the tests are as that way found them.
use lib.Ieee.{of_bits}
use Rattle.std.proofs.Common.{sym, ◌∙◌}
use Rattle.cell.specs.Rule.{ink_of, clip_of}
use Rattle.cell.proofs.Said.{differs-is}
use Rattle.cell.proofs.clip.Goals as goal

pub returns-then-x : goal.returns-then-x
unfolding clip_of
returns-then-x c = simp (sym (differs-is c.args.x) ∙ c.if-x.true)

pub returns-then-x-2 : goal.returns-then-x-2
unfolding clip_of ink_of of_bits
returns-then-x-2 c = simp (sym (differs-is c.args.x) ∙ c.if-x.false, c.if-x-2.true)

pub returns-then-x-3 : goal.returns-then-x-3
unfolding clip_of ink_of of_bits
returns-then-x-3 c = simp (sym (differs-is c.args.x) ∙ c.if-x.false, c.if-x-2.false, c.if-x-3.true)

pub returns : goal.returns
unfolding clip_of ink_of of_bits
returns c = simp (sym (differs-is c.args.x) ∙ c.if-x.false, c.if-x-2.false, c.if-x-3.false)
