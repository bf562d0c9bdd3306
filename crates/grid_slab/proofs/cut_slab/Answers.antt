-- What was checked is what is copied, and the runs make the slab.
use Rattle.std.proofs.Common.{◌*◌, refl, sym, ◌∙◌, subst, length}
use Rattle.lists.specs.Buffer.{written}
use Rattle.grid_slab.specs.Runs.{Fit, cut_entry}
use Rattle.grid_slab.proofs.Cutting.{checked-passed, can-cut, runs_fit, runs-slab}
use Rattle.grid_slab.proofs.cut_slab.Goals as goal

pub of-requires : goal.of-requires
of-requires c = can-cut _ _ _ _ _ (checked-passed _ _ _ _ _ _ c.in_ok-check.ensures refl)

pub cut-requires : goal.cut-requires
cut-requires c =
    let a = c.args in
    let fit = runs_fit _ _ _ _ _ (checked-passed _ _ _ _ _ _ c.in_ok-check.ensures refl) in
    subst (Fit (length a.table.now) (length a.slab.now)) (sym c.of.ensures) fit

pub returns : goal.returns
returns c =
    let a = c.args in
    let checked = c.in_ok-check.ensures in
    let runs = c.of.ensures in
    record {
      laid = checked.laid;
      decides = checked.decides;
      number = checked.number;
      entries =
          c.cut.ensures
          ∙ (λ i. written (cut_entry a.table.now (runs i)) ((runs i).turns * (runs i).run) a.slab.now)
          ∙ runs-slab _ _ _ _ _ (checked-passed _ _ _ _ _ _ checked refl);
    }
