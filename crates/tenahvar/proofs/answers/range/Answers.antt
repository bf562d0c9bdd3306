use Rattle.std.proofs.Common.{◌≡◌, ◌<◌, refl, arith}
use Rattle.lists.specs.Buffer.{written}
use Rattle.std.proofs.lemmas.Result.{err_from_is_err_and}
use Rattle.cell.specs.declared.Cell.{Cell}
use Rattle.tenahvar.proofs.Codes.{given-cell, none-written, code-next, codes_all, some_size}
use Rattle.tenahvar.proofs.answers.range.Goals as goal

pub loop-code-init : goal.loop-code-init
unfolding written
loop-code-init c = record { sized = λ none. absurd (omega arith); lower = refl; upper = refl; weight = refl }

pub returns-in_err-c : goal.returns-in_err-c
returns-in_err-c c =
    let p = err_from_is_err_and c.from_residual.result c.from_residual.ensures.1 in
    let at = c.loop-code in
    rw (p.1, p.2) (none-written _ at.code _ _ _ _ at.invariant.sized c.in_err-c.ensures _ _ _ at.invariant.lower at.invariant.upper at.invariant.weight)

pub loop-code-preserved : goal.loop-code-preserved
loop-code-preserved c =
    let at = c.loop-code in
    let is = c.in_ok-c.ensures in
    record {
      sized = λ some. (given-cell _ at.code c.in_ok-c.c is).0;
      lower = code-next (λ (d : Cell). d.x) _ at.code _ _ _ is at.invariant.lower;
      upper = code-next (λ (d : Cell). d.x_n) _ at.code _ _ _ is at.invariant.upper;
      weight = code-next (λ (d : Cell). d.w) _ at.code _ _ _ is at.invariant.weight;
    }

pub returns : goal.returns
returns c =
    let at = c.loop-code in
    let last : at.code ≡ 256 = omega arith in
    let some : 0 < c.args.g = at.invariant.sized (omega arith) in
    record {
      number = some_size _ some;
      lower = codes_all (λ (d : Cell). d.x) _ at.code _ _ some last at.invariant.lower;
      upper = codes_all (λ (d : Cell). d.x_n) _ at.code _ _ some last at.invariant.upper;
      weight = codes_all (λ (d : Cell). d.w) _ at.code _ _ some last at.invariant.weight;
    }
