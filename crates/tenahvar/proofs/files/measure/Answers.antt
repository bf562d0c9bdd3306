-- A refused layout's number, or the length of its record's file.
use Rattle.std.proofs.Common.{ap, ◌∙◌}
use Rattle.std.proofs.lemmas.Result.{err_from_is_err_and}
use Rattle.outcome.proofs.Numbers.{not_done}
use Rattle.outcome.proofs.Refused.{kept, given}
use Rattle.layout.specs.Layout.{Laid, entries}
use Rattle.tenahvar.proofs.Laid.{refused-number, accepted-number}
use Rattle.std.proofs.Common.{refl, arith, w32}
use borrow.Author.Rules.{Fits-under}
use Rattle.layout.proofs.Laws.{first-filling, entries_fit}
use Rattle.flash.specs.File.{file_length}
use Rattle.tenahvar.proofs.files.measure.Goals as goal

pub returns-in_err-filed : goal.returns-in_err-filed
returns-in_err-filed c =
    let p = err_from_is_err_and c.from_residual.result c.from_residual.ensures.1 in
    let refused = not_done c.in_err-filed.field-0.0 in
    let number = refused-number _ _ _ _ c.in_err-filed.ensures in
    rw (p.1, p.2) (record { number = number; bytes = kept _ _ _ refused number })

pub overflow_cast-entry_count : goal.overflow_cast-entry_count
overflow_cast-entry_count c =
    let is = c.in_ok-filed.ensures.accepted refl in
    Fits-under w32 _ 4_294_967_296 (omega (arith, c.entry_count.ensures ∙ first-filling _ is, entries_fit _ is)) tt

pub returns : goal.returns
returns c =
    let laid = c.in_ok-filed.ensures in
    let done = accepted-number _ _ _ _ laid in
    record {
      number = done;
      bytes =
          c.file_length.ensures
          ∙ ap file_length (c.entry_count.ensures ∙ first-filling _ (laid.accepted refl))
          ∙ ap (λ (l : Laid). file_length (entries l.lut)) laid.answer
          ∙ given _ _ _ done;
    }
