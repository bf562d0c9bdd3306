-- The last word's third and fourth bytes are filling.
use Rattle.std.proofs.Common.{◌≡◌, ℕ, ◌+◌, ◌*◌, ◌≤◌, List, [], ◌∷◌, get_or, sym, ◌∙◌, arith}
use lib.ListN.{get_or-eq_default}
use Rattle.lists.specs.Lists.{tabulate}
use Rattle.flash.proofs.Fours.{word-by}
use Rattle.flash.proofs.blocks.Head.words.Goals as goal

pub returns : goal.returns
unfolding tabulate
returns c =
    let a = c.args.self.now in
    let head : List ℕ = a.n ∷ a.m ∷ a.sizes in
    let past : (i : ℕ) → 16 ≤ i → get_or a.sizes i 0 ≡ 0 = λ i h. get_or-eq_default a.sizes 0 (omega arith) in
    λ i. (c.from_be_bytes.ensures ∙ sym (word-by head 0)) i
    ∷ (c.from_be_bytes-2.ensures ∙ sym (word-by head 4)) i
    ∷ (c.from_be_bytes-3.ensures ∙ sym (word-by head 8)) i
    ∷ (c.from_be_bytes-4.ensures ∙ sym (word-by head 12)) i
    ∷ (c.from_be_bytes-5.ensures ∙ sym (word-by head 16 ∙ (λ k. get_or a.sizes 14 0 * 16_777_216 + get_or a.sizes 15 0 * 65_536 + past 16 (omega arith) k * 256 + past 17 (omega arith) k))) i
    ∷ []
