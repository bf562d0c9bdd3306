use Rattle.std.proofs.Common.{sym, ◌∙◌}
use Rattle.flash.proofs.Fours.{word-by}
use Rattle.flash.proofs.words.word.Goals as goal

pub returns : goal.returns
returns c = c.from_be_bytes.ensures ∙ sym (word-by c.args.file.now c.args.at)
