-- A refused layout's number, or what writing its sizes in use gives.
use Rattle.std.proofs.Common.{◌≡◌, ℕ, ◌*◌, ◌≤◌, List, get_or, refl, sym, ◌∙◌, arith, w8}
use borrow.Author.Rules.{Fits-under}
use Rattle.outcome.proofs.Refused.{given}
use Rattle.layout.specs.declared.MultidimensionalLut.{MultidimensionalLut}
use Rattle.layout.specs.Layout.{laid_of, IsLayout, entries}
use Rattle.layout.proofs.Laws.{entries_fit, inks-to, outputs-to}
use Rattle.layout.proofs.BySizes.{laid-inks, laid-outputs}
use Rattle.flash.proofs.BySizes.{used-are, total-by-sizes, filed-by}
use Rattle.flash.proofs.write_by_sizes.Goals as goal
use Rattle.flash.proofs.write_by_sizes.Goals.{In_ok-filling_sizes}

-- a layout that is accepted
module _ (c : In_ok-filling_sizes) where
  abbrev sizes : List ℕ
  sizes = c.args.sizes.now

  abbrev n : ℕ
  n = c.args.n

  abbrev m : ℕ
  m = c.args.m

  abbrev made : MultidimensionalLut
  made = (laid_of sizes n m).lut

  none : (laid_of sizes n m).refusal ≡ 0
  none = sym c.in_ok-filling_sizes.ensures.number

  is : IsLayout made
  is = c.in_ok-filling_sizes.ensures.laid refl

  total : get_or c.filling_sizes.new.filling 0 0 * get_or sizes 0 0 ≡ entries made
  total = total-by-sizes sizes n m none is _ (c.in_ok-filling_sizes.ensures.row ∙ sym (given _ _ _ (sym none)))

  few : n ≤ 15
  few = omega (arith, laid-inks sizes n m none, inks-to made is)

  few-outputs : m ≤ 15
  few-outputs = omega (arith, laid-outputs sizes n m none, outputs-to made is)

pub overflow_cast-head : goal.overflow_cast-head
overflow_cast-head c = Fits-under w8 _ 16 (omega (arith, few (goal.at.overflow_cast-head c).In_ok-filling_sizes)) tt

pub overflow_cast-head-2 : goal.overflow_cast-head-2
overflow_cast-head-2 c = Fits-under w8 _ 16 (omega (arith, few-outputs (goal.at.overflow_cast-head-2 c).In_ok-filling_sizes)) tt

pub used_sizes-requires : goal.used_sizes-requires
used_sizes-requires c = omega (arith, few (goal.at.used_sizes-requires c).In_ok-filling_sizes)

pub write_file-requires : goal.write_file-requires
write_file-requires c = let p = (goal.at.write_file-requires c).In_ok-filling_sizes in omega (arith, total p, entries_fit (made p) (is p))

pub returns : goal.returns
returns c =
    let p = (goal.at.returns c).In_ok-filling_sizes in
    filed-by (sizes p) (n p) (m p) (none p) (is p) _ (total p) _ (c.used_sizes.ensures ∙ used-are (sizes p) (n p) (m p) (none p) (is p)) _ _ _ _ c.write_file.ensures
