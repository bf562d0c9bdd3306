-- Each test is the definition's, and the part that is lent is the first total entries.
use Rattle.std.proofs.Common.{◌≡◌, ℕ, ◌≤◌, true, false, ltb, length, get_or, take, sym, refl, ◌∙◌, subst, arith, length-take-le, le-ltb, lt-ltb}
use Rattle.lists.proofs.Buffer.{unwritten}
use Rattle.flash.specs.File.{file_length, file_of}
use Rattle.flash.specs.Refusals.{lent_refusal}
use Rattle.flash.proofs.Writing.{file-written}
use Rattle.flash.proofs.write_file.Goals as goal

pub returns-then-bits-total : goal.returns-then-bits-total
unfolding lent_refusal
returns-then-bits-total c =
    let a = c.args in
    let whole = file_of a.head.now.sizes a.head.now.n a.head.now.m (take a.total a.bits.now) in
    record { number = sym (simp (lt-ltb _ _ c.if-bits-total.true)); bytes = unwritten 6 (λ p. get_or whole p 0) (length whole) a.file.now (λ e. omega arith) refl }

pub returns-then-file-file_length : goal.returns-then-file-file_length
unfolding lent_refusal
returns-then-file-file_length c =
    let a = c.args in
    let whole = file_of a.head.now.sizes a.head.now.n a.head.now.m (take a.total a.bits.now) in
    let enough : ltb (length a.bits.now) a.total ≡ false = le-ltb _ _ c.if-bits-total.false in
    let short : ltb (length a.file.now) (file_length a.total) ≡ true = lt-ltb _ _ (omega (arith, c.file_length.ensures)) in
    record { number = sym (simp (enough, short)); bytes = unwritten 8 (λ p. get_or whole p 0) (length whole) a.file.now (λ e. omega arith) refl }

pub put_all-requires : goal.put_all-requires
put_all-requires c =
    let a = c.args in
    let long : length (take a.total a.bits.now) ≡ a.total = length-take-le a.total a.bits.now c.if-bits-total.false in
    (omega arith, subst (λ (t : ℕ). file_length t ≤ length a.file.now) (sym long) (omega (arith, c.file_length.ensures)))

pub returns : goal.returns
unfolding lent_refusal
returns c =
    let a = c.args in
    let h = a.head.now in
    let enough : ltb (length a.bits.now) a.total ≡ false = le-ltb _ _ c.if-bits-total.false in
    let room : ltb (length a.file.now) (file_length a.total) ≡ false = le-ltb _ _ (omega (arith, c.file_length.ensures)) in
    record { number = sym (simp (enough, room)); bytes = c.put_all.ensures ∙ file-written h.sizes h.n h.m (take a.total a.bits.now) a.file.now }
