-- Each public function asks nothing of its caller, and its statement leaves one outcome. Entries are bits here: NaN payloads are determined too. Assumes nothing.
use Rattle.std.proofs.Common.{◌≡◌, ℕ, Bool, List, length, get_or, sym, refl, ap, ◌∙◌}
use Rattle.outcome.specs.Outcome.{OneOutcome}
use Rattle.outcome.specs.Refused.{number_in}
use Rattle.outcome.proofs.Decided.{decided}
use Rattle.outcome.proofs.Numbers.{same_done}
use Rattle.lists.specs.Buffer.{left}
use Rattle.layout.proofs.Unique.{same_laid}
use Rattle.flash.specs.File.{table_file}
use Rattle.flash.specs.Refusals.{write_refusal}
use Rattle.flash.proofs.file_length.Kinds as file-length-kinds
use Rattle.flash.proofs.file_length.Reads as file-length-reads
use Rattle.flash.proofs.file_layout.Kinds as file-layout-kinds
use Rattle.flash.proofs.file_layout.Reads as file-layout-reads
use Rattle.flash.proofs.read_table.Kinds as read-table-kinds
use Rattle.flash.proofs.read_table.Reads as read-table-reads
use Rattle.flash.proofs.BySizes.{filed-one}
use Rattle.flash.proofs.write_by_sizes.Kinds as write-by-sizes-kinds
use Rattle.flash.proofs.write_by_sizes.Reads as write-by-sizes-reads
use Rattle.flash.proofs.write_table.Kinds as write-table-kinds
use Rattle.flash.proofs.write_table.Reads as write-table-reads

pub file-length-unique : OneOutcome 0 file-length-kinds.ps file-length-kinds.r file-length-reads.Post
file-length-unique κs a x y ws vs p q = (p ∙ sym q, refl)

pub file-layout-unique : OneOutcome 1 file-layout-kinds.ps file-layout-kinds.r file-layout-reads.Post
file-layout-unique κs a x y ws vs p q = (same_laid x y (p.answer ∙ sym q.answer), refl)

pub read-table-unique : OneOutcome 2 read-table-kinds.ps read-table-kinds.r read-table-reads.Post
read-table-unique κs a x y ws vs p q =
    let table = p.table ∙ sym q.table in
    (same_laid x y (p.answer ∙ sym q.answer), λ i. (tt, (table i, tt)))

pub write-table-unique : OneOutcome 2 write-table-kinds.ps write-table-kinds.r write-table-reads.Post
write-table-unique κs a x y ws vs p q =
    let lut = a.0 in
    let bits = a.1.0.now in
    let old = a.1.1.0.now in
    let number : number_in x ≡ number_in y =
    p.number ∙ ap (λ (b : Bool). write_refusal b lut (length bits) (length old)) (decided p.laid q.laid p.decides q.decides) ∙ sym q.number in
    let now : ws.1.1.0 ≡ vs.1.1.0 =
    p.bytes ∙ ap (λ (r : ℕ). left r (λ k. get_or (table_file lut bits) k 0) (length (table_file lut bits)) old) number ∙ sym q.bytes in
    (same_done x y number, ap (λ (l : List ℕ). (tt, (tt, (l, tt)))) now)

pub write-by-sizes-unique : OneOutcome 3 write-by-sizes-kinds.ps write-by-sizes-kinds.r write-by-sizes-reads.Post
write-by-sizes-unique κs a x y ws vs p q =
    let one = filed-one a.0.now a.1.0 a.1.1.0 a.1.1.1.0.now a.1.1.1.1.0.now (number_in x) (number_in y) _ _ p q in
    (same_done x y one.0, λ i. (tt, (tt, (tt, (tt, (one.1 i, tt))))))

-- no `requires`
pub file-length-asks-nothing : (κs : _) (a : _) → file-length-reads.Pre κs a
file-length-asks-nothing κs a = tt

pub file-layout-asks-nothing : (κs : _) (a : _) → file-layout-reads.Pre κs a
file-layout-asks-nothing κs a = tt

pub read-table-asks-nothing : (κs : _) (a : _) → read-table-reads.Pre κs a
read-table-asks-nothing κs a = tt

pub write-by-sizes-asks-nothing : (κs : _) (a : _) → write-by-sizes-reads.Pre κs a
write-by-sizes-asks-nothing κs a = tt

pub write-table-asks-nothing : (κs : _) (a : _) → write-table-reads.Pre κs a
write-table-asks-nothing κs a = tt
