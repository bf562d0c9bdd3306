-- Each test is the definition's.
use Rattle.std.proofs.Common.{◌≡◌, ◌+◌, ◌*◌, true, eqb, sym, ◌∙◌, eq-eqb, ne_eqb}
use Rattle.flash.specs.File.{word_at, check_of}
use Rattle.flash.specs.Refusals.{block_refusal}
use Rattle.flash.proofs.check.check_block.Goals as goal
use Rattle.flash.proofs.check.check_block.Goals.{Else-sum-word, Else-word-number}

check-is : (c : Else-sum-word) → let a = c.args in eqb (check_of (λ j. word_at a.file.now (a.at + 4 * j))) (word_at a.file.now (a.at + 508)) ≡ true
check-is c = eq-eqb _ _ (sym c.sum.ensures ∙ c.if-sum-word.false ∙ c.word.ensures)

number_is : (c : Else-word-number) → let a = c.args in eqb (word_at a.file.now a.at) a.number ≡ true
number_is c = eq-eqb _ _ (sym c.word-2.ensures ∙ c.if-word-number.false)

pub returns-then-sum-word : goal.returns-then-sum-word
unfolding block_refusal
returns-then-sum-word c = simp (sym c.sum.ensures, sym c.word.ensures, ne_eqb _ _ c.if-sum-word.true)

pub returns-then-word-number : goal.returns-then-word-number
unfolding block_refusal
returns-then-word-number c = let p = goal.at.returns-then-word-number c in simp (check-is p.Else-sum-word, sym c.word-2.ensures, ne_eqb _ _ c.if-word-number.true)

pub returns-then-not-all_zero : goal.returns-then-not-all_zero
unfolding block_refusal
returns-then-not-all_zero c =
    let p = goal.at.returns-then-not-all_zero c in
    simp (check-is p.Else-sum-word, number_is p.Else-word-number, sym c.all_zero.ensures, c.if-not-all_zero.true)

pub returns : goal.returns
unfolding block_refusal
returns c = let p = goal.at.returns c in simp (check-is p.Else-sum-word, number_is p.Else-word-number, sym c.all_zero.ensures, c.if-not-all_zero.false)
