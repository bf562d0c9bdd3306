-- `walk::few::two`: one block, or output by output.
use Rattle.std.proofs.Common.{◌≡◌, ◌+◌, ◌∙◌, rules}
use Rattle.binary32.specs.Blend.{along}
use Rattle.walk.specs.Blocks.{lane, at}
use Rattle.walk.proofs.Pairs.{two-inks}
use Rattle.walk.proofs.Answers.{block-gives}
use Rattle.walk.proofs.few.two.Goals as goal

pub returns-then-not-one_block : goal.returns-then-not-one_block
returns-then-not-one_block c =
    record {
      room = c.each.auto.out;
      answers = λ o h.
          let e = c.each.ensures o h in
          let a = c.args in
          let given : at c.each.new.out o ≡ along (along (at a.part.now (a.d.x + a.c.x + o)) (at a.part.now (a.d.x + a.c.x_n + o)) a.c.w) (along (at a.part.now (a.d.x_n + a.c.x + o)) (at a.part.now (a.d.x_n + a.c.x_n + o)) a.c.w) a.d.w = search rules in
          given ∙ two-inks c.args.part.now o c.args.c c.args.d;
    }

pub returns : goal.returns
returns c =
    block-gives _ _ _ _ (c.one_block.ensures c.if-not-one_block.false).0 c.give.ensures
    (λ o h. let e = c.with.ensures o h in
    let f = c.with-below.ensures o h in
    let g = c.with-above.ensures o h in
    let given : lane c.with.result o ≡ along (lane c.with-below.result o) (lane c.with-above.result o) c.args.d.w = search rules in
    let below : lane c.with-below.result o ≡ along (lane c.load.result o) (lane c.load-2.result o) c.args.c.w = search rules in
    let above : lane c.with-above.result o ≡ along (lane c.load-3.result o) (lane c.load-4.result o) c.args.c.w = search rules in
    cc (c.load.ensures o h, c.load-2.ensures o h, c.load-3.ensures o h, c.load-4.ensures o h, two-inks c.args.part.now o c.args.c c.args.d))
