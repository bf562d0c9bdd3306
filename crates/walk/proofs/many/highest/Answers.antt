-- `walk::many::highest`: there is room for every corner.
use Rattle.walk.proofs.Answers.{corners-fit, blocks-fit}
use Rattle.walk.proofs.many.highest.Goals as goal

pub tower-requires-clause-j_in_bounds : goal.tower-requires-clause-j_in_bounds
tower-requires-clause-j_in_bounds c = (corners-fit 6 _ c.requires.j_bound.0, blocks-fit 6 _ c.requires.j_bound.0)
