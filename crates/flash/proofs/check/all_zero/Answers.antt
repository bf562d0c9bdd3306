use Rattle.std.proofs.Common.{◌≡◌, ℕ, ◌+◌, ◌-◌, eqb, take, drop, ap, ◌∙◌, arith, rules}
use Rattle.std.specs.List.{fold}
use Rattle.std.specs.Int.Bits.{bit_or}
use Rattle.flash.proofs.Filling.{zeros-part}
use Rattle.flash.proofs.check.all_zero.Goals as goal

pub returns : goal.returns
returns c =
    let a = c.args in
    let all : c.fold.result ≡ fold bit_or 0 (take (a.from + a.count - a.from) (drop a.from a.file.now)) = search rules in
    ap (λ (bits : ℕ). eqb bits 0) all ∙ zeros-part a.file.now a.from a.count _ (omega arith) c.requires
