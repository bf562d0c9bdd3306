-- Each exported function asks nothing of its caller, and its statement leaves one outcome.
-- Assumes nothing.
use Prim.Native.Nat.{ℕ}
use mathlib.Core.Path.{◌≡◌, sym, ap, ◌∙◌}
use mathlib.Core.List.{List}
use lib.Ieee.{Float}
use Rattle.outcome.specs.Outcome.{OneOutcome}
use Rattle.layout.specs.Layout.{laid_of}
use Rattle.lookup.specs.Lookup.{idle}
use Rattle.lookup.specs.Idle.{reads_at}
use Rattle.lookup.proofs.Unique.{one-count}
use Rattle.lists.specs.Buffer.{left}
use Rattle.cell.specs.declared.Cell.{Cell}
use Rattle.cubes.specs.Blends.{Blend}
use Rattle.cubes.specs.Cube.{answer_at, Blended}
use Rattle.clut.proofs.Unique.{units-one}
use Rattle.tenahvar.proofs.tenahvar_layout.Kinds as layout-kinds
use Rattle.tenahvar.proofs.tenahvar_layout.Reads as layout-reads
use Rattle.tenahvar.proofs.tenahvar_total.Kinds as total-kinds
use Rattle.tenahvar.proofs.tenahvar_total.Reads as total-reads
use Rattle.tenahvar.proofs.tenahvar_lookup.Kinds as lookup-kinds
use Rattle.tenahvar.proofs.tenahvar_lookup.Reads as lookup-reads
use Rattle.tenahvar.proofs.tenahvar_lookup_skipping.Kinds as lookup-skipping-kinds
use Rattle.tenahvar.proofs.tenahvar_lookup_skipping.Reads as lookup-skipping-reads
use Rattle.tenahvar.proofs.tenahvar_node.Kinds as node-kinds
use Rattle.tenahvar.proofs.tenahvar_node.Reads as node-reads
use Rattle.tenahvar.proofs.tenahvar_cut_slab.Kinds as cut-slab-kinds
use Rattle.tenahvar.proofs.tenahvar_cut_slab.Reads as cut-slab-reads
use Rattle.tenahvar.proofs.tenahvar_read_clut.Kinds as read-clut-kinds
use Rattle.tenahvar.proofs.tenahvar_read_clut.Reads as read-clut-reads
use Rattle.tenahvar.proofs.tenahvar_read_units.Kinds as read-units-kinds
use Rattle.tenahvar.proofs.tenahvar_read_units.Reads as read-units-reads
use Rattle.tenahvar.proofs.tenahvar_create_ranged_256.Kinds as create-ranged-256-kinds
use Rattle.tenahvar.proofs.tenahvar_create_ranged_256.Reads as create-ranged-256-reads
use Rattle.tenahvar.proofs.tenahvar_pyramidal.Kinds as pyramidal-kinds
use Rattle.tenahvar.proofs.tenahvar_pyramidal.Reads as pyramidal-reads
use Rattle.tenahvar.proofs.tenahvar_prismatic.Kinds as prismatic-kinds
use Rattle.tenahvar.proofs.tenahvar_prismatic.Reads as prismatic-reads
use Rattle.tenahvar.proofs.tenahvar_trilinear.Kinds as trilinear-kinds
use Rattle.tenahvar.proofs.tenahvar_trilinear.Reads as trilinear-reads

pub tenahvar-layout-unique : OneOutcome 4 layout-kinds.ps layout-kinds.r layout-reads.Post
tenahvar-layout-unique κs a x y ws vs p q =
    let strides = p.strides ∙ sym q.strides in
    let filling = p.filling ∙ sym q.filling in
    let scale = p.scale ∙ sym q.scale in
    (p.number ∙ sym q.number, λ i. (tt, (tt, (tt, (strides i, (filling i, (scale i, tt)))))))

pub tenahvar-total-unique : OneOutcome 2 total-kinds.ps total-kinds.r total-reads.Post
tenahvar-total-unique κs a x y ws vs p q =
    let total = p.total ∙ sym q.total in
    (p.number ∙ sym q.number, λ i. (tt, (tt, (tt, (total i, tt)))))

pub tenahvar-lookup-unique : OneOutcome 4 lookup-kinds.ps lookup-kinds.r lookup-reads.Post
tenahvar-lookup-unique κs a x y ws vs p q =
    let entries = p.entries ∙ sym q.entries in
    (p.number ∙ sym q.number, λ i. (tt, (tt, (tt, (tt, (tt, (entries i, tt)))))))

pub tenahvar-lookup-skipping-unique : OneOutcome 5 lookup-skipping-kinds.ps lookup-skipping-kinds.r lookup-skipping-reads.Post
tenahvar-lookup-skipping-unique κs a x y ws vs p q =
    let number = p.looked.number ∙ sym q.looked.number in
    let reads = reads_at idle (laid_of a.0.now a.1.0 a.1.1.0).lut a.1.1.1.1.0.now in
    let count = one-count reads number p.counted q.counted in
    let entries = p.looked.entries ∙ sym q.looked.entries in
    (number, λ i. (tt, (tt, (tt, (tt, (tt, (entries i, (count i, tt))))))))

pub tenahvar-node-unique : OneOutcome 4 node-kinds.ps node-kinds.r node-reads.Post
tenahvar-node-unique κs a x y ws vs p q =
    let offset = p.offset ∙ sym q.offset in
    (p.number ∙ sym q.number, λ i. (tt, (tt, (tt, (tt, (tt, (offset i, tt)))))))

pub tenahvar-cut-slab-unique : OneOutcome 3 cut-slab-kinds.ps cut-slab-kinds.r cut-slab-reads.Post
tenahvar-cut-slab-unique κs a x y ws vs p q =
    let entries = p.entries ∙ sym q.entries in
    (p.number ∙ sym q.number, λ i. (tt, (tt, (tt, (tt, (tt, (tt, (entries i, tt))))))))

pub tenahvar-read-clut-unique : OneOutcome 3 read-clut-kinds.ps read-clut-kinds.r read-clut-reads.Post
tenahvar-read-clut-unique κs a x y ws vs p q =
    let sizes = p.sizes ∙ sym q.sizes in
    let table = p.table ∙ sym q.table in
    (p.number ∙ sym q.number, λ i. (tt, (tt, (tt, (sizes i, (table i, tt))))))

pub tenahvar-read-units-unique : OneOutcome 2 read-units-kinds.ps read-units-kinds.r read-units-reads.Post
tenahvar-read-units-unique κs a x y ws vs p q = let one = units-one p q in (one.0, λ i. (tt, (tt, (tt, (one.1 i, tt)))))

pub tenahvar-create-ranged-256-unique : OneOutcome 3 create-ranged-256-kinds.ps create-ranged-256-kinds.r create-ranged-256-reads.Post
tenahvar-create-ranged-256-unique κs a x y ws vs p q =
    let lower = p.lower ∙ sym q.lower in
    let upper = p.upper ∙ sym q.upper in
    let weight = p.weight ∙ sym q.weight in
    (p.number ∙ sym q.number, λ i. (tt, (lower i, (upper i, (weight i, tt)))))

-- a cube method's statement leaves one buffer
one-buffer : {blend : Blend} {cx cy cz : Cell} {g m : ℕ} {cube old : List Float} {x y : ℕ} {v w : List Float}
    → Blended blend cx cy cz g m cube old x v → Blended blend cx cy cz g m cube old y w → (x ≡ y) × (v ≡ w)
one-buffer {blend} {cx} {cy} {cz} {g} {m} {cube} {old} p q =
    let number = p.number ∙ sym q.number in
    (number, p.entries ∙ ap (λ (r : ℕ). left r (answer_at blend cx cy cz g m cube) m old) number ∙ sym q.entries)

pub tenahvar-pyramidal-unique : OneOutcome 5 pyramidal-kinds.ps pyramidal-kinds.r pyramidal-reads.Post
tenahvar-pyramidal-unique κs a x y ws vs p q = let one = one-buffer p q in (one.0, λ i. (tt, (tt, (tt, (tt, (tt, (tt, (one.1 i, tt))))))))

pub tenahvar-prismatic-unique : OneOutcome 5 prismatic-kinds.ps prismatic-kinds.r prismatic-reads.Post
tenahvar-prismatic-unique κs a x y ws vs p q = let one = one-buffer p q in (one.0, λ i. (tt, (tt, (tt, (tt, (tt, (tt, (one.1 i, tt))))))))

pub tenahvar-trilinear-unique : OneOutcome 5 trilinear-kinds.ps trilinear-kinds.r trilinear-reads.Post
tenahvar-trilinear-unique κs a x y ws vs p q = let one = one-buffer p q in (one.0, λ i. (tt, (tt, (tt, (tt, (tt, (tt, (one.1 i, tt))))))))

-- no `requires`
pub tenahvar-layout-asks-nothing : (κs : _) (a : _) → layout-reads.Pre κs a
tenahvar-layout-asks-nothing κs a = tt

pub tenahvar-total-asks-nothing : (κs : _) (a : _) → total-reads.Pre κs a
tenahvar-total-asks-nothing κs a = tt

pub tenahvar-lookup-asks-nothing : (κs : _) (a : _) → lookup-reads.Pre κs a
tenahvar-lookup-asks-nothing κs a = tt

pub tenahvar-lookup-skipping-asks-nothing : (κs : _) (a : _) → lookup-skipping-reads.Pre κs a
tenahvar-lookup-skipping-asks-nothing κs a = tt

pub tenahvar-node-asks-nothing : (κs : _) (a : _) → node-reads.Pre κs a
tenahvar-node-asks-nothing κs a = tt

pub tenahvar-cut-slab-asks-nothing : (κs : _) (a : _) → cut-slab-reads.Pre κs a
tenahvar-cut-slab-asks-nothing κs a = tt

pub tenahvar-read-clut-asks-nothing : (κs : _) (a : _) → read-clut-reads.Pre κs a
tenahvar-read-clut-asks-nothing κs a = tt

pub tenahvar-read-units-asks-nothing : (κs : _) (a : _) → read-units-reads.Pre κs a
tenahvar-read-units-asks-nothing κs a = tt

pub tenahvar-create-ranged-256-asks-nothing : (κs : _) (a : _) → create-ranged-256-reads.Pre κs a
tenahvar-create-ranged-256-asks-nothing κs a = tt

pub tenahvar-pyramidal-asks-nothing : (κs : _) (a : _) → pyramidal-reads.Pre κs a
tenahvar-pyramidal-asks-nothing κs a = tt

pub tenahvar-prismatic-asks-nothing : (κs : _) (a : _) → prismatic-reads.Pre κs a
tenahvar-prismatic-asks-nothing κs a = tt

pub tenahvar-trilinear-asks-nothing : (κs : _) (a : _) → trilinear-reads.Pre κs a
tenahvar-trilinear-asks-nothing κs a = tt
