-- `Report::push_spaced`: one answer more is one blank and its digits more.
use Rattle.std.proofs.Common.{ℕ, ◌<◌, ap, sym, ◌∙◌, add-one, arith}
use Rattle.std.proofs.Common.{List, [], ◌∷◌, ◌++◌, length, get_or, append-nil, append_assoc, length-append}
use Rattle.std.specs.Float.{nan}
use Rattle.probing.specs.Text.{blank, bits_of, after_blanks}
use Rattle.probing.proofs.Blanks.{blanks-next}
use Rattle.probing.proofs.text.Report.push_spaced.Goals as goal

pub loop-x-init : goal.loop-x-init
unfolding after_blanks
loop-x-init c = (sym (append-nil _), omega arith)

pub loop-x-preserved : goal.loop-x-preserved
loop-x-preserved c =
    let others = c.in-Some.others.now in
    let here : c.loop-x.x-index < length others = c.loop-x-test.true in
    let word = bits_of (get_or others c.loop-x.x-index nan) in
    let with_blank = c.push.ensures ∙ ap (λ (t : List ℕ). t ++ (blank ∷ [])) c.loop-x.invariant.0 in (
      rw (add-one, blanks-next bits_of others c.loop-x.x-index)
          (simp append_assoc at (c.push_bits-in-loop-x.ensures.bits ∙ ap (λ (t : List ℕ). t ++ word) with_blank)),
      omega (arith, ap length c.push.ensures, length-append c.loop-x.self (blank ∷ [])),
    )
