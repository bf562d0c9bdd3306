-- `probing::asked`: an accepted layout's record has the counts that were asked.
use Rattle.std.proofs.Common.{sym, ap, ◌∙◌, replicate}
use Rattle.layout.specs.Layout.{Laid, laid_of}
use Rattle.layout.proofs.BySizes.{laid-inks}
use Rattle.layout.proofs.Laws.{inks-to, outputs-to}
use Rattle.probing.proofs.asked.Goals as goal

pub returns : goal.returns
returns c =
    let laid = c.layout.ensures in
    let answer = laid.answer ∙ (λ i. laid_of (replicate 16 (c.byte_at-g.ensures i)) (c.byte_at-n.ensures i) (c.byte_at-m.ensures i)) in
    record {
      answer = answer;
      layout = laid.accepted;
      inks = λ h. (
        ap (λ (l : Laid). l.lut.input_inks) answer ∙ laid-inks _ _ _ (ap (λ (l : Laid). l.refusal) (sym answer) ∙ h),
        inks-to _ (laid.accepted h),
      );
      outputs = λ h. outputs-to _ (laid.accepted h);
    }
