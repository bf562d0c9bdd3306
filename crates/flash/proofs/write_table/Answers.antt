use mathlib.Core.Bool.{not}
use Rattle.std.proofs.Common.{◌≡◌, ap, ◌∙◌, arith, w8}
use borrow.Author.Rules.{Fits-under}
use Rattle.layout.specs.Layout.{IsLayout, entries}
use Rattle.layout.proofs.Laws.{first-filling, entries_fit, inks-to, outputs-to}
use Rattle.flash.proofs.Writing.{write-unlaid, write-laid}
use Rattle.flash.proofs.write_table.Goals as goal
use Rattle.flash.proofs.write_table.Goals.{After-entry_count-total}

is-layout : (c : After-entry_count-total) → IsLayout c.args.lut
is-layout c = c.is_layout.ensures.holds c.if-not-is_layout.false

total-is : (c : After-entry_count-total) → c.entry_count-total.result ≡ entries c.args.lut
total-is c = c.entry_count-total.ensures ∙ first-filling _ (is-layout c)

pub returns-then-not-is_layout : goal.returns-then-not-is_layout
returns-then-not-is_layout c = let a = c.args in write-unlaid a.lut a.bits.now a.file.now _ c.is_layout.ensures (ap not c.if-not-is_layout.true)

pub overflow_cast-n : goal.overflow_cast-n
overflow_cast-n c = Fits-under w8 _ 16 (omega (arith, inks-to _ (is-layout (goal.at.overflow_cast-n c).After-entry_count-total))) tt

pub overflow_cast-m : goal.overflow_cast-m
overflow_cast-m c = Fits-under w8 _ 16 (omega (arith, outputs-to _ (is-layout (goal.at.overflow_cast-m c).After-entry_count-total))) tt

pub write_file-requires : goal.write_file-requires
write_file-requires c = let p = (goal.at.write_file-requires c).After-entry_count-total in omega (arith, total-is p, entries_fit _ (is-layout p))

pub returns : goal.returns
returns c =
    let a = c.args in
    write-laid a.lut a.bits.now a.file.now _ c.is_layout.ensures c.if-not-is_layout.false _ (total-is (goal.at.returns c).After-entry_count-total) _ _ c.write_file.ensures
