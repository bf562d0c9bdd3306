-- Each part of the number is the definition's, and what was checked is what is copied.
use Rattle.std.proofs.Common.{◌≡◌, ℕ, ◌≤◌, length, refl, sym, ap, ◌∙◌, le_of_eq, arith}
use Rattle.std.proofs.lemmas.Result.{err_from_is_err_and}
use Rattle.outcome.specs.Refused.{number_of}
use Rattle.outcome.proofs.Numbers.{not_done}
use Rattle.layout.specs.Layout.{limit, refused_by}
use Rattle.lists.specs.Buffer.{written}
use Rattle.flash.specs.Refusals.{total_in, head_refusal, rest_refusal, read_refusal}
use Rattle.flash.specs.Read.{entry_in}
use Rattle.flash.proofs.Bodies.{rest-none}
use Rattle.flash.proofs.Reading.{head-number, head-layout, total_read, total_fits, head_first, rest-number, read-refused, read_done}
use Rattle.flash.proofs.read_table.Goals as goal
use Rattle.flash.proofs.read_table.Goals.{After-entry_count-total}

within : (c : After-entry_count-total) → c.entry_count-total.result ≤ limit
within c = omega (arith, c.entry_count-total.ensures, total_fits _ c.in_ok-lut.lut c.in_ok-lut.ensures)

total-is : (c : After-entry_count-total) → c.entry_count-total.result ≡ total_in c.args.file.now
total-is c = c.entry_count-total.ensures ∙ total_read _ c.in_ok-lut.lut c.in_ok-lut.ensures

-- what the rest gives is what the whole file gives
number_is : (c : After-entry_count-total) (r : ℕ) →
    let a = c.args in r ≡ rest_refusal a.file.now c.entry_count-total.result (length a.bits.now) → r ≡ read_refusal a.file.now (length a.bits.now)
number_is c r is =
    let a = c.args in
    is
    ∙ ap (λ (t : ℕ). rest_refusal a.file.now t (length a.bits.now)) (total-is c)
    ∙ rest-number a.file.now (length a.bits.now) (sym (head-number _ _ c.in_ok-lut.ensures))

pub returns-in_err-lut : goal.returns-in_err-lut
unfolding refused_by
returns-in_err-lut c =
    let a = c.args in
    let e = c.in_err-lut.field-0.0 in
    let here : number_of e ≡ head_refusal a.file.now = head-number _ _ c.in_err-lut.ensures in
    let p = err_from_is_err_and c.from_residual.result c.from_residual.ensures.1 in
    rw (p.1, p.2) (read-refused a.file.now a.bits.now (number_of e) (not_done e) (here ∙ head_first a.file.now (length a.bits.now) (λ z. not_done e (here ∙ z))) _ refl)

pub returns-in_err-check_rest : goal.returns-in_err-check_rest
returns-in_err-check_rest c =
    let a = c.args in
    let e = c.in_err-check_rest.field-0.0 in
    let here = number_is (goal.at.returns-in_err-check_rest c).After-entry_count-total (number_of e) c.in_err-check_rest.ensures in
    let p = err_from_is_err_and c.from_residual-in_err-check_rest.result c.from_residual-in_err-check_rest.ensures.1 in
    rw (p.1, p.2) (read-refused a.file.now a.bits.now (number_of e) (not_done e) here _ refl)

pub copy_all-requires : goal.copy_all-requires
copy_all-requires c =
    let rest = rest-none _ _ _ (sym c.in_ok-check_rest.ensures) in
    (within (goal.at.copy_all-requires c).After-entry_count-total, le_of_eq (sym rest.0), rest.2)

pub returns : goal.returns
returns c =
    let a = c.args in
    let p = (goal.at.returns c).After-entry_count-total in
    read_done a.file.now a.bits.now (number_is p 0 c.in_ok-check_rest.ensures) _ (head-layout _ _ c.in_ok-lut.ensures refl) _
    (c.copy_all.ensures ∙ ap (λ (t : ℕ). written (entry_in a.file.now) t a.bits.now) (total-is p))
