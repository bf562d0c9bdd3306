-- Each exported function of table files asks nothing of its caller, and its statement leaves one outcome. Entries are bits here: NaN payloads are determined too.
-- Assumes nothing.
use Prim.Native.Nat.{ℕ}
use mathlib.Core.Path.{◌≡◌, sym, ◌∙◌}
use mathlib.Core.List.{List}
use Rattle.outcome.specs.Outcome.{OneOutcome}
use Rattle.layout.specs.declared.MultidimensionalLut.{MultidimensionalLut}
use Rattle.flash.specs.BySizes.{Told}
use Rattle.flash.proofs.BySizes.{filed-one}
use Rattle.tenahvar.proofs.files.tenahvar_file_length.Kinds as file-length-kinds
use Rattle.tenahvar.proofs.files.tenahvar_file_length.Reads as file-length-reads
use Rattle.tenahvar.proofs.files.tenahvar_write_table.Kinds as write-table-kinds
use Rattle.tenahvar.proofs.files.tenahvar_write_table.Reads as write-table-reads
use Rattle.tenahvar.proofs.files.tenahvar_file_layout.Kinds as file-layout-kinds
use Rattle.tenahvar.proofs.files.tenahvar_file_layout.Reads as file-layout-reads
use Rattle.tenahvar.proofs.files.tenahvar_read_table.Kinds as read-table-kinds
use Rattle.tenahvar.proofs.files.tenahvar_read_table.Reads as read-table-reads

pub tenahvar-file-length-unique : OneOutcome 2 file-length-kinds.ps file-length-kinds.r file-length-reads.Post
tenahvar-file-length-unique κs a x y ws vs p q =
    let bytes = p.bytes ∙ sym q.bytes in
    (p.number ∙ sym q.number, λ i. (tt, (tt, (tt, (bytes i, tt)))))

pub tenahvar-write-table-unique : OneOutcome 3 write-table-kinds.ps write-table-kinds.r write-table-reads.Post
tenahvar-write-table-unique κs a x y ws vs p q =
    let one = filed-one a.0.now a.1.0 a.1.1.0 a.1.1.1.0.now a.1.1.1.1.0.now x y _ _ p q in
    (one.0, λ i. (tt, (tt, (tt, (tt, (one.1 i, tt))))))

-- sizes and counts that are told are determined
module _ (r : ℕ) (lut : MultidimensionalLut) (s₀ : List ℕ) (n₀ m₀ : ℕ) (s t : List ℕ) (n m k l : ℕ) (p : Told r lut s₀ n₀ m₀ s n m) (q : Told r lut s₀ n₀ m₀ t k l) where
  sizes-told : s ≡ t
  sizes-told = p.sizes ∙ sym q.sizes

  inks-told : n ≡ k
  inks-told = p.inks ∙ sym q.inks

  outputs-told : m ≡ l
  outputs-told = p.outputs ∙ sym q.outputs

pub tenahvar-file-layout-unique : OneOutcome 4 file-layout-kinds.ps file-layout-kinds.r file-layout-reads.Post
tenahvar-file-layout-unique κs a x y ws vs p q =
    let sizes = sizes-told _ _ _ _ _ _ _ _ _ _ _ p.told q.told in
    let inks = inks-told _ _ _ _ _ _ _ _ _ _ _ p.told q.told in
    let outputs = outputs-told _ _ _ _ _ _ _ _ _ _ _ p.told q.told in
    (p.number ∙ sym q.number, λ i. (tt, (sizes i, (inks i, (outputs i, tt)))))

pub tenahvar-read-table-unique : OneOutcome 5 read-table-kinds.ps read-table-kinds.r read-table-reads.Post
tenahvar-read-table-unique κs a x y ws vs p q =
    let sizes = sizes-told _ _ _ _ _ _ _ _ _ _ _ p.told q.told in
    let inks = inks-told _ _ _ _ _ _ _ _ _ _ _ p.told q.told in
    let outputs = outputs-told _ _ _ _ _ _ _ _ _ _ _ p.told q.told in
    let table = p.table ∙ sym q.table in
    (p.number ∙ sym q.number, λ i. (tt, (sizes i, (inks i, (outputs i, (table i, tt))))))

-- no `requires`
pub tenahvar-file-length-asks-nothing : (κs : _) (a : _) → file-length-reads.Pre κs a
tenahvar-file-length-asks-nothing κs a = tt

pub tenahvar-write-table-asks-nothing : (κs : _) (a : _) → write-table-reads.Pre κs a
tenahvar-write-table-asks-nothing κs a = tt

pub tenahvar-file-layout-asks-nothing : (κs : _) (a : _) → file-layout-reads.Pre κs a
tenahvar-file-layout-asks-nothing κs a = tt

pub tenahvar-read-table-asks-nothing : (κs : _) (a : _) → read-table-reads.Pre κs a
tenahvar-read-table-asks-nothing κs a = tt
