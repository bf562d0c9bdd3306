-- Each test is a part of what the record of an accepted layout is.
use Rattle.std.proofs.Common.{ℕ, ◌<◌, true≢false, List, get_or, sym, ◌∙◌, arith, rules, w8, Fits}
use Rattle.outcome.proofs.Decided.{refuses}
use Rattle.lists.proofs.Lists.{are-bytes}
use Rattle.layout.proofs.Parts.{count-to}
use Rattle.layout.proofs.Facts.{Arrays, facts-of, layout_of, used-at, unused-at, facts-are}
use Rattle.layout.proofs.is_layout.Goals as goal
use Rattle.layout.proofs.is_layout.Goals.{then-not-is_count-via-then-not-is_count, then-not-is_count-via-else-not-is_count+then-not-is_count-2}

pub used-requires : goal.used-requires
used-requires c = (omega (arith, count-to _ (sym c.if-not-is_count.ensures)), count-to _ (sym c.if-not-is_count-2.ensures))

pub returns-then-not-is_count : goal.returns-then-not-is_count
returns-then-not-is_count c =
    refuses (λ is.
    let facts = facts-of _ is in
    elim c.then-not-is_count.branch [
      | then-not-is_count-via-then-not-is_count w ↦ true≢false (sym facts.accepted.n-counts ∙ sym w.if-not-is_count.ensures)
      | then-not-is_count-via-else-not-is_count+then-not-is_count-2 w ↦ true≢false (sym facts.accepted.m-counts ∙ sym w.if-not-is_count-2.ensures)
    ])

pub unused-requires : goal.unused-requires
unused-requires c = omega (arith, count-to _ (sym c.if-not-is_count.ensures))

size_fits : (sizes : List ℕ) → ((i : ℕ) → Fits w8 (get_or sizes i 0)) → (i : ℕ) → get_or sizes i 0 < 256
size_fits sizes narrow i = let fits = narrow i in omega arith

pub returns-then-used : goal.returns-then-used
returns-then-used c =
    let lut = c.args.lut in
    let arrays : Arrays lut = record {
      strides = search rules;
      filling = search rules;
      scale = search rules;
      sizes = search rules;
      bytes = are-bytes lut.grid_sizes (size_fits lut.grid_sizes (λ i. search rules));
    } in
    let tested = c.used.ensures.holds c.if-used.true in
    record {
      holds = λ e. layout_of lut (facts-are lut arrays (sym c.if-not-is_count.ensures) (sym c.if-not-is_count-2.ensures) tested.1 tested.0 (c.unused.ensures.holds e));
      found = λ is. c.unused.ensures.found (unused-at lut (facts-of lut is));
    }

pub returns-else-used : goal.returns-else-used
returns-else-used c =
    rw c.if-used.false
    (refuses (λ is.
    let facts = facts-of _ is in
    true≢false (sym (c.used.ensures.found (used-at _ facts, facts.accepted.within)) ∙ c.if-used.false)))
