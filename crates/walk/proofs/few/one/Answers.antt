-- `walk::few::one`: one block, or output by output.
use Rattle.std.proofs.Common.{◌≡◌, ◌+◌, ◌∙◌, rules}
use Rattle.binary32.specs.Blend.{along}
use Rattle.walk.specs.Blocks.{lane, at}
use Rattle.walk.proofs.Pairs.{one-ink}
use Rattle.walk.proofs.Answers.{block-gives}
use Rattle.walk.proofs.few.one.Goals as goal

pub returns-then-not-one_block : goal.returns-then-not-one_block
returns-then-not-one_block c =
    record {
      room = c.each.auto.out;
      answers = λ o h.
          let e = c.each.ensures o h in
          let given : at c.each.new.out o ≡ along (at c.args.part.now (c.args.c.x + o)) (at c.args.part.now (c.args.c.x_n + o)) c.args.c.w = search rules in
          given ∙ one-ink c.args.part.now o c.args.c;
    }

pub returns : goal.returns
returns c =
    block-gives _ _ _ _ (c.one_block.ensures c.if-not-one_block.false).0 c.give.ensures
    (λ o h. let e = c.with-f.ensures o h in
    let given : lane c.with-f.result o ≡ along (lane c.load.result o) (lane c.load-2.result o) c.args.c.w = search rules in
    cc (c.load.ensures o h, c.load-2.ensures o h, one-ink c.args.part.now o c.args.c))
