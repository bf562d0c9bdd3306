-- The total, as the definition has it.
use Rattle.std.proofs.Common.{◌∙◌}
use Rattle.layout.proofs.Laws.{first-filling}
use Rattle.nodes.proofs.check.lengths.Goals as goal

pub returns : goal.returns
returns c =
    let is = c.if-not-is_layout.false in
    let lut = c.args.lut in
    let total = c.entry_count.ensures ∙ first-filling lut (c.is_layout.ensures.holds is) in
    record {
      laid = c.is_layout.result;
      decides = c.is_layout.ensures;
      number = c.check_lengths.ensures ∙ rw (total, is);
    }
