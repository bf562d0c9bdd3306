-- Each public function asks nothing of its caller, and its statement leaves one outcome.
-- Assumes nothing.
use mathlib.Core.Path.{◌≡◌, refl, sym, ap, ◌∙◌}
use Rattle.std.specs.Prelude.{Result, Ok, Err}
use Rattle.outcome.specs.Outcome.{OneOutcome}
use Rattle.outcome.specs.declared.Refusal.{Refusal}
use Rattle.outcome.proofs.Decided.{decided}
use Rattle.outcome.proofs.Numbers.{not_done, same_refusal, same_done}
use Rattle.layout.specs.declared.MultidimensionalLut.{MultidimensionalLut}
use Rattle.layout.specs.Layout.{Laid, laid_in, refused_by}
use Rattle.layout.proofs.layout.Kinds as layout-kinds
use Rattle.layout.proofs.layout.Reads as layout-reads
use Rattle.layout.proofs.MultidimensionalLutDefault.default.Kinds as default-kinds
use Rattle.layout.proofs.MultidimensionalLutDefault.default.Reads as default-reads
use Rattle.layout.proofs.filling_sizes.Kinds as filling-sizes-kinds
use Rattle.layout.proofs.filling_sizes.Reads as filling-sizes-reads
use Rattle.layout.proofs.is_layout.Kinds as is-layout-kinds
use Rattle.layout.proofs.is_layout.Reads as is-layout-reads
use Rattle.layout.proofs.entry_count.Kinds as entry-count-kinds
use Rattle.layout.proofs.entry_count.Reads as entry-count-reads
use Rattle.layout.proofs.check_lengths.Kinds as check-lengths-kinds
use Rattle.layout.proofs.check_lengths.Reads as check-lengths-reads
use Rattle.layout.proofs.entry_offset.Kinds as entry-offset-kinds
use Rattle.layout.proofs.entry_offset.Reads as entry-offset-reads

-- two answers that say the same are one
pub same_laid : (x y : Result MultidimensionalLut Refusal) → laid_in x ≡ laid_in y → x ≡ y
unfolding refused_by
same_laid (Ok a) (Ok b) h = ap (λ (l : Laid). Ok l.lut) h
same_laid (Ok a) (Err f) h = absurd (not_done f (sym (ap (λ (l : Laid). l.refusal) h)))
same_laid (Err e) (Ok b) h = absurd (not_done e (ap (λ (l : Laid). l.refusal) h))
same_laid (Err e) (Err f) h = ap Err (same_refusal e f (ap (λ (l : Laid). l.refusal) h))

pub layout-unique : OneOutcome 0 layout-kinds.ps layout-kinds.r layout-reads.Post
layout-unique κs a x y ws vs p q = (same_laid x y (p.answer ∙ sym q.answer), refl)

pub default-unique : OneOutcome 0 default-kinds.ps default-kinds.r default-reads.Post
default-unique κs a x y ws vs p q = (p ∙ sym q, refl)

pub filling-sizes-unique : OneOutcome 2 filling-sizes-kinds.ps filling-sizes-kinds.r filling-sizes-reads.Post
filling-sizes-unique κs a x y ws vs p q =
    let row = p.row ∙ sym q.row in
    (same_done x y (p.number ∙ sym q.number), λ i. (tt, (tt, (tt, (row i, tt)))))

pub is-layout-unique : OneOutcome 0 is-layout-kinds.ps is-layout-kinds.r is-layout-reads.Post
is-layout-unique κs a x y ws vs p q = (decided x y p q, refl)

pub entry-count-unique : OneOutcome 0 entry-count-kinds.ps entry-count-kinds.r entry-count-reads.Post
entry-count-unique κs a x y ws vs p q = (p ∙ sym q, refl)

pub check-lengths-unique : OneOutcome 0 check-lengths-kinds.ps check-lengths-kinds.r check-lengths-reads.Post
check-lengths-unique κs a x y ws vs p q = (same_done x y (p ∙ sym q), refl)

pub entry-offset-unique : OneOutcome 0 entry-offset-kinds.ps entry-offset-kinds.r entry-offset-reads.Post
entry-offset-unique κs a x y ws vs p q = ((λ i. record { 0 = (p ∙ sym q) i }), refl)

-- no `requires`
pub layout-asks-nothing : (κs : _) (a : _) → layout-reads.Pre κs a
layout-asks-nothing κs a = tt

pub default-asks-nothing : (κs : _) (a : _) → default-reads.Pre κs a
default-asks-nothing κs a = tt

pub filling-sizes-asks-nothing : (κs : _) (a : _) → filling-sizes-reads.Pre κs a
filling-sizes-asks-nothing κs a = tt

pub is-layout-asks-nothing : (κs : _) (a : _) → is-layout-reads.Pre κs a
is-layout-asks-nothing κs a = tt

pub entry-count-asks-nothing : (κs : _) (a : _) → entry-count-reads.Pre κs a
entry-count-asks-nothing κs a = tt

pub check-lengths-asks-nothing : (κs : _) (a : _) → check-lengths-reads.Pre κs a
check-lengths-asks-nothing κs a = tt

pub entry-offset-asks-nothing : (κs : _) (a : _) → entry-offset-reads.Pre κs a
entry-offset-asks-nothing κs a = tt
