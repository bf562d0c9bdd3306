-- Of no ink the first entry; else the last ink's blend.
use Rattle.std.proofs.Common.{◌<◌, ◌≤◌, length, arith, ◌∙◌}
use Rattle.std.proofs.lemmas.List.{nil_from_length}
use Rattle.lookup.specs.Lookup.{lookup_with}
use Rattle.lookup.proofs.LastInk.{by_line, by_lerp}
use Rattle.lookup.proofs.value.+value.Goals as goal

pub returns-in_default : goal.returns-in_default
unfolding lookup_with
returns-in_default t c = rw (nil_from_length c.args.inks.now (omega arith))

pub returns-then-others-lt2 : goal.returns-then-others-lt2
returns-then-others-lt2 t c =
    let some : 0 < length c.args.inks.now = grind arith in
    c.along.ensures ∙ by_line c.args.inks.now _ some c.args.part.now _ _ c.value-lower.ensures c.value-upper.ensures c.if-others-lt2.true

pub returns : goal.returns
returns t c =
    let many : 4 ≤ length c.args.inks.now = grind arith in
    c.lerp.ensures ∙ by_lerp c.args.inks.now _ (omega arith) c.args.part.now _ _ c.value-lower.ensures c.value-upper.ensures many
