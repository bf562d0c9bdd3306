-- Past the last word there is none: the filling is written as 0, and adds nothing to the sum.
use Rattle.std.proofs.Common.{◌≡◌, ℕ, ◌+◌, ◌-◌, ◌*◌, ◌<◌, ◌≤◌, length, get_or, sym, refl, ap, ◌∙◌, arith}
use lib.ListN.{get_or-eq_default}
use Rattle.flash.specs.File.{front}
use Rattle.flash.proofs.Sums.{check-next}
use Rattle.flash.proofs.Parts.{part-filled}
use Rattle.flash.proofs.BlockWords.{block-first, block-next, block-fill, block_last, sum_first, sum_all, front-next}
use Rattle.flash.proofs.blocks.put_block.Goals as goal

pub loop-j-init : goal.loop-j-init
loop-j-init c =
    let a = c.args in
    let contents : ℕ → ℕ = λ k. get_or a.words.now k 0 in
    record { put = block-first a.number contents a.at a.file.now _ c.put.ensures; summed = sum_first a.number contents c.ranges.number.fits }

pub loop-j-preserved : goal.loop-j-preserved
loop-j-preserved c =
    let a = c.args in
    let l = c.loop-j in
    let contents : ℕ → ℕ = λ k. get_or a.words.now k 0 in
    record {
      put = block-next a.number contents a.at l.j (contents l.j) a.file.now l.file _ (omega arith) l.invariant.put refl c.put-in-loop-j.ensures;
      summed = check-next (front a.number contents) (l.j + 1) l.sum (contents l.j) _ l.invariant.summed (sym (front-next a.number contents l.j)) refl;
    }

pub returns : goal.returns
returns c =
    let a = c.args in
    let l = c.loop-j in
    let contents : ℕ → ℕ = λ k. get_or a.words.now k 0 in
    let last : l.j ≡ length a.words.now = omega arith in
    let few : l.j ≤ 126 = omega arith in
    let none : (k : ℕ) → l.j ≤ k → k < 126 → contents k ≡ 0 = λ k h s. get_or-eq_default a.words.now 0 (omega arith) in
    block_last a.number contents a.at l.sum a.file.now _ _
    (block-fill a.number contents l.j few none a.at _ a.file.now l.file _ (ap (λ (j : ℕ). a.at + 4 + 4 * j) (sym last)) l.invariant.put
    (part-filled _ _ (504 - 4 * l.j) l.file c.fill.new.self (omega arith) (omega arith) (c.fill.ensures.after (λ y e. e))))
    (l.invariant.summed ∙ sum_all a.number contents l.j few none)
    c.put-2.ensures
