-- The record that is told and the table are those of the reading.
use Rattle.std.proofs.Common.{◌∙◌}
use Rattle.flash.proofs.BySizes.{table_taken}
use Rattle.tenahvar.proofs.Laid.{number-of-laid}
use Rattle.tenahvar.proofs.files.tenahvar_read_table.Goals as goal

pub returns : goal.returns
returns c =
    table_taken _ _ _ _ _ _ _ _ c.tell.ensures.told _ _ c.read_table.ensures _ (c.number.ensures ∙ c.tell.ensures.number ∙ number-of-laid c.read_table.result)
