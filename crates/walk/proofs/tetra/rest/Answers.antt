-- `walk::tetra::rest`: lane by lane.
use Rattle.std.proofs.Common.{◌≡◌, ℕ, ◌∙◌, ap}
use Rattle.walk.specs.declared.Plan.{Plan}
use Rattle.walk.specs.Steps.{tetra_of, first_three}
use Rattle.walk.proofs.Tetrahedron.{four-left}
use Rattle.walk.proofs.tetra.rest.Goals as goal

pub returns : goal.returns
returns c =
    let same : (o : ℕ) → tetra_of c.first_three-p.result o c.args.t.now ≡ tetra_of (first_three c.args.axes.now) o c.args.t.now
    = λ o. ap (λ (q : Plan). tetra_of q o c.args.t.now) c.first_three-p.ensures in
    four-left _ _ _ (λ h. c.tetra_left.ensures h ∙ same 0) (λ h. c.tetra_left-2.ensures h ∙ same 1) (λ h. c.tetra_left-3.ensures h ∙ same 2) (λ h. c.tetra_left-4.ensures h ∙ same 3)
