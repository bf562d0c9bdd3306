-- Each public function asks nothing of its caller, its statement leaves one outcome, and that is the first engine's. Assumes nothing.
use mathlib.Core.Path.{sym, ap, ◌∙◌}
use mathlib.Core.List.{List}
use lib.Ieee.{Float}
use Rattle.std.specs.Prelude.{◌≡◌, ℕ, Result}
use Rattle.outcome.specs.declared.Refusal.{Refusal}
use Rattle.outcome.specs.Outcome.{OneOutcome, Agree}
use Rattle.outcome.specs.Refused.{number_in}
use Rattle.outcome.proofs.Numbers.{same_answer}
use Rattle.layout.specs.Layout.{laid_of}
use Rattle.lookup.specs.Lookup.{idle}
use Rattle.lookup.specs.Idle.{reads_at}
use Rattle.walk.specs.Count.{count_in}
use Rattle.lookup.proofs.Unique as first
use Rattle.lookup.proofs.lookup.Reads as first-lookup-reads
use Rattle.lookup.proofs.lookup_by_sizes.Reads as first-lookup-by-sizes-reads
use Rattle.walk.proofs.lookup.Kinds as lookup-kinds
use Rattle.walk.proofs.lookup.Reads as lookup-reads
use Rattle.walk.proofs.lookup_by_sizes.Kinds as lookup-by-sizes-kinds
use Rattle.walk.proofs.lookup_by_sizes.Reads as lookup-by-sizes-reads
use Rattle.walk.proofs.skipping.Kinds as skipping-kinds
use Rattle.walk.proofs.skipping.Reads as skipping-reads
use Rattle.walk.proofs.skipping_by_sizes.Kinds as skipping-by-sizes-kinds
use Rattle.walk.proofs.skipping_by_sizes.Reads as skipping-by-sizes-reads

-- answers of one number and one count
same_counted : (x y : Result ℕ Refusal) → number_in x ≡ number_in y → count_in x ≡ count_in y → x ≡ y
same_counted x y number count = same_answer x y number (λ a b p q. ap count_in (sym p) ∙ count ∙ ap count_in q)

pub lookup-unique : OneOutcome 3 lookup-kinds.ps lookup-kinds.r lookup-reads.Post
lookup-unique = first.lookup-unique

pub lookup-by-sizes-unique : OneOutcome 4 lookup-by-sizes-kinds.ps lookup-by-sizes-kinds.r lookup-by-sizes-reads.Post
lookup-by-sizes-unique = first.lookup-by-sizes-unique

-- the two engines agree, answers and refusals, for every ink count
pub engines-agree : Agree 3 lookup-kinds.ps lookup-kinds.r first-lookup-reads.Post lookup-reads.Post
engines-agree = first.lookup-unique

pub engines-agree-by-sizes : Agree 4 lookup-by-sizes-kinds.ps lookup-by-sizes-kinds.r first-lookup-by-sizes-reads.Post lookup-by-sizes-reads.Post
engines-agree-by-sizes = first.lookup-by-sizes-unique

-- the lookup with skipping: its number, its count and its buffer
pub skipping-unique : OneOutcome 3 skipping-kinds.ps skipping-kinds.r skipping-reads.Post
skipping-unique κs a x y ws vs p q =
    let number = first.one_number _ _ _ _ _ _ _ _ _ _ p.looked q.looked in
    let count = first.one-count (reads_at idle a.0 a.1.1.0.now) number p.counted q.counted in (
      same_counted x y number count,
      ap (λ (l : List Float). (tt, (tt, (tt, (l, tt))))) (first.one-buffer _ _ _ _ _ _ _ _ _ p.looked q.looked),
    )

pub skipping-by-sizes-unique : OneOutcome 4 skipping-by-sizes-kinds.ps skipping-by-sizes-kinds.r skipping-by-sizes-reads.Post
skipping-by-sizes-unique κs a x y ws vs p q =
    let number = p.looked.number ∙ sym q.looked.number in
    let reads = reads_at idle (laid_of a.0.now a.1.0 a.1.1.0).lut a.1.1.1.1.0.now in
    let count = first.one-count reads number p.counted q.counted in
    let entries = p.looked.entries ∙ sym q.looked.entries in
    (same_counted x y number count, λ i. (tt, (tt, (tt, (tt, (tt, (entries i, tt)))))))

-- no `requires`
pub lookup-asks-nothing : (κs : _) (a : _) → lookup-reads.Pre κs a
lookup-asks-nothing κs a = tt

pub lookup-by-sizes-asks-nothing : (κs : _) (a : _) → lookup-by-sizes-reads.Pre κs a
lookup-by-sizes-asks-nothing κs a = tt

pub skipping-asks-nothing : (κs : _) (a : _) → skipping-reads.Pre κs a
skipping-asks-nothing κs a = tt

pub skipping-by-sizes-asks-nothing : (κs : _) (a : _) → skipping-by-sizes-reads.Pre κs a
skipping-by-sizes-asks-nothing κs a = tt
