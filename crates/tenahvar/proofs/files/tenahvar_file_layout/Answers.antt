-- The record that is told is the file's.
use Rattle.std.proofs.Common.{◌∙◌}
use Rattle.flash.proofs.BySizes.{file-told}
use Rattle.tenahvar.proofs.Laid.{number-of-laid}
use Rattle.tenahvar.proofs.files.tenahvar_file_layout.Goals as goal

pub returns : goal.returns
returns c =
    file-told _ _ _ _ _ _ _ _ c.tell.ensures.told c.file_layout.ensures _ (c.number.ensures ∙ c.tell.ensures.number ∙ number-of-laid c.file_layout.result)
