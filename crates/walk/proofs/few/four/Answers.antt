-- `walk::few::four`: one block, or output by output.
use Rattle.std.proofs.Common.{◌≡◌, ◌∙◌, ◌-◌, ℕ, List, Bool, false, Float, take, drop, length, rules}
use Rattle.binary32.specs.Blend.{lerp}
use Rattle.lookup.proofs.Part.{from-drop}
use Rattle.walk.specs.Blocks.{lane, at}
use Rattle.walk.specs.declared.Plan.{Plan}
use Rattle.walk.specs.Steps.{tetra_of, fourth}
use Rattle.walk.proofs.Answers.{block-gives}
use Rattle.walk.proofs.few.four.Goals as goal

-- ink 4 is not skipped
both : (p : Plan) (o : ℕ) (t : List Float) (h : ℕ) (w : Float) (alone : Bool) → alone ≡ false
    → lerp (tetra_of p o t) (tetra_of p o (take (length t - h) (drop h t))) w ≡ fourth alone (tetra_of p o t) (tetra_of p o (drop h t)) w
both p o t h w alone off = rw (off, from-drop t h)

pub returns-then-not-one_block : goal.returns-then-not-one_block
returns-then-not-one_block c =
    record {
      room = c.each.auto.out;
      answers = λ o h.
          let e = c.each.ensures o h in
          let a = c.args in
          let given : at c.each.new.out o ≡ lerp (tetra_of a.p o a.t.now) (tetra_of a.p o (take (length a.t.now - a.h) (drop a.h a.t.now))) a.w = search rules in
          given ∙ both a.p o a.t.now a.h a.w a.alone c.if-alone.false;
    }

pub returns : goal.returns
returns c =
    block-gives _ _ _ _ (c.one_block.ensures c.if-not-one_block.false).0 c.give.ensures
    (λ o h. let e = c.with-f.ensures o h in
    let a = c.args in
    let given : lane c.with-f.result o ≡ lerp (lane c.tetra4.result o) (lane c.tetra4-2.result o) c.args.w = search rules in
    cc (c.tetra4.ensures o h, c.tetra4-2.ensures o h, both a.p o a.t.now a.h a.w a.alone c.if-alone.false))
