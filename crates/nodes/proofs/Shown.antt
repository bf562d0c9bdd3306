-- What the node reader shows, and that the part is empty exactly when the number is not 0. Assumes nothing.
use Rattle.std.proofs.Common.{◌≡◌, ℕ, zero, suc, ◌+◌, ◌-◌, ◌*◌, Bool, List, []}
use Rattle.std.proofs.Common.{length, take, drop, reverse, refl, sym, ap, subst, ◌∙◌, arith}
use Rattle.std.proofs.lemmas.List.{length-take-le, length-drop}
use lib.Ieee.{Float}
use Rattle.outcome.specs.Outcome.{Decides, on_done}
use Rattle.outcome.specs.declared.Refusal.{Refusal}
use Rattle.outcome.specs.Refused.{number_of}
use Rattle.outcome.proofs.Decided.{decided}
use Rattle.outcome.proofs.Numbers.{not_done}
use Rattle.layout.specs.declared.MultidimensionalLut.{MultidimensionalLut}
use Rattle.layout.specs.Layout.{IsLayout, ink_sizes}
use Rattle.layout.specs.Order.{index}
use Rattle.layout.proofs.Laws.{outputs-from}
use Rattle.nodes.specs.Node.{node_refusal, node_entries, NodeRefused, NodePlaced, NodeShown}
use Rattle.nodes.proofs.Refusals.{is-node, node-stands}

module _ (lut : MultidimensionalLut) (table : List Float) (coordinates : List ℕ) where
  nothing : (r : ℕ) → (r ≡ 0 → ⊥) → node_entries r lut table coordinates ≡ []
  unfolding node_entries
  nothing zero some = absurd (some refl)
  nothing (suc r) some = refl

  -- whichever Bool decides
  number-is : (b : Bool) → Decides b (IsLayout lut) → (r : ℕ) → NodeRefused lut table coordinates r
      → node_refusal b lut (length table) coordinates ≡ r
  number-is b decides r refused =
      ap (λ (c : Bool). node_refusal c lut (length table) coordinates) (decided b refused.laid decides refused.decides) ∙ sym refused.number

  -- with the entries of the call's number
  shown-by : (r : ℕ) → NodeRefused lut table coordinates r → (shown : List Float) → shown ≡ node_entries r lut table coordinates
      → NodeShown lut table coordinates shown
  shown-by r refused shown is =
      record {
        laid = refused.laid;
        decides = refused.decides;
        entries = is ∙ ap (λ (k : ℕ). node_entries k lut table coordinates) refused.number;
      }

  pub shown-nothing : (r : ℕ) → NodeRefused lut table coordinates r → (r ≡ 0 → ⊥) → NodeShown lut table coordinates []
  shown-nothing r refused some = shown-by r refused [] (sym (nothing r some))

  -- a refusal shows nothing
  pub none_shown : (e : Refusal) → NodeRefused lut table coordinates (number_of e) → NodeShown lut table coordinates []
  none_shown e refused = shown-nothing (number_of e) refused (not_done e)

  abbrev first : ℕ
  first = index (ink_sizes lut) (reverse coordinates) * lut.output_inks

  module _ (refused : NodeRefused lut table coordinates 0) where
    place-is : (start : ℕ) → NodePlaced lut table coordinates start → start ≡ first
    place-is start placed = placed.offset ∙ ap (λ (k : ℕ). on_done k first 0) (number-is placed.laid placed.decides 0 refused)

    pub shown-node : (start : ℕ) → NodePlaced lut table coordinates start
        → NodeShown lut table coordinates (take (start + lut.output_inks - start) (drop start table))
    unfolding node_entries
    shown-node start placed =
        let many : start + lut.output_inks - start ≡ lut.output_inks = omega arith in
        shown-by 0 refused _ (rw (many, place-is start placed))

    long : length (node_entries 0 lut table coordinates) ≡ lut.output_inks
    unfolding node_entries
    long =
        let stands = node-stands lut table coordinates refused in
        length-take-le lut.output_inks (drop first table) (omega (arith, length-drop first table, stands))

  -- The number and the part of two calls on the same arguments: the part is empty exactly when the number is not 0.
  pub node-empty : (r : ℕ) (refused : NodeRefused lut table coordinates r) (shown : List Float) → NodeShown lut table coordinates shown
      → (length shown ≡ 0 → r ≡ 0 → ⊥) × ((r ≡ 0 → ⊥) → length shown ≡ 0)
  node-empty r refused shown holds =
      let same : shown ≡ node_entries r lut table coordinates =
      holds.entries ∙ ap (λ (k : ℕ). node_entries k lut table coordinates) (number-is holds.laid holds.decides r refused) in (
        (λ none z.
            let done : NodeRefused lut table coordinates 0 = subst (NodeRefused lut table coordinates) z refused in
            let m = outputs-from lut (is-node lut table coordinates done).layout in
            omega (arith, ap length (same ∙ ap (λ (k : ℕ). node_entries k lut table coordinates) z), long done)),
        (λ some. ap length (same ∙ nothing r some)),
      )
