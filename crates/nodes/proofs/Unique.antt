-- Each public function asks nothing of its caller, and its statement leaves one outcome. Of the part that `node` hands back its entries
-- are seen: no statement fixes a pointer. Assumes nothing.
use Prim.Native.Nat.{ℕ, ◌*◌}
use mathlib.Core.Path.{◌≡◌, refl, sym, ap, ◌∙◌}
use mathlib.Core.Bool.{Bool}
use mathlib.Core.List.{List, reverse}
use denote.Ref.{Bor}
use lib.Ieee.{Float}
use lib.ListN.{length}
use Rattle.std.specs.Prelude.{Result, Ok, Err}
use Rattle.outcome.specs.declared.Refusal.{Refusal}
use Rattle.outcome.specs.Refused.{number_in}
use Rattle.outcome.specs.Outcome.{Decides, OneOutcome, OneOutcomeSeen, on_done}
use Rattle.outcome.proofs.Decided.{decided}
use Rattle.outcome.proofs.Numbers.{not_done, same_refusal, same_answer, same_done}
use Rattle.layout.specs.declared.MultidimensionalLut.{MultidimensionalLut}
use Rattle.layout.specs.declared.EntryOffset.{EntryOffset}
use Rattle.layout.specs.Order.{index}
use Rattle.layout.specs.Layout.{IsLayout, ink_sizes}
use Rattle.nodes.specs.Node.{node_refusal, node_entries, NodeRefused, NodePlaced, NodeShown, offset_in, entries_in}
use Rattle.nodes.proofs.check_node.Kinds as check-node-kinds
use Rattle.nodes.proofs.check_node.Reads as check-node-reads
use Rattle.nodes.proofs.node_offset.Kinds as node-offset-kinds
use Rattle.nodes.proofs.node_offset.Reads as node-offset-reads
use Rattle.nodes.proofs.node.Kinds as node-kinds
use Rattle.nodes.proofs.node.Reads as node-reads

module _ (lut : MultidimensionalLut) (table : List Float) (coordinates : List ℕ) where
  one_refusal : (b c : Bool) → Decides b (IsLayout lut) → Decides c (IsLayout lut)
      → node_refusal b lut (length table) coordinates ≡ node_refusal c lut (length table) coordinates
  one_refusal b c p q = ap (λ (laid : Bool). node_refusal laid lut (length table) coordinates) (decided b c p q)

  one_number : (r s : ℕ) → NodeRefused lut table coordinates r → NodeRefused lut table coordinates s → r ≡ s
  one_number r s p q = p.number ∙ one_refusal p.laid q.laid p.decides q.decides ∙ sym q.number

  one_place : (first other : ℕ) → NodePlaced lut table coordinates first → NodePlaced lut table coordinates other → first ≡ other
  one_place first other p q =
      p.offset
      ∙ ap (λ (k : ℕ). on_done k (index (ink_sizes lut) (reverse coordinates) * lut.output_inks) 0)
      (one_refusal p.laid q.laid p.decides q.decides)
      ∙ sym q.offset

  one_part : (shown other : List Float) → NodeShown lut table coordinates shown → NodeShown lut table coordinates other → shown ≡ other
  one_part shown other p q =
      p.entries
      ∙ ap (λ (k : ℕ). node_entries k lut table coordinates) (one_refusal p.laid q.laid p.decides q.decides)
      ∙ sym q.entries

-- of a part its entries are seen
abbrev pub seen_of : Result (Bor (List Float)) Refusal → Result (List Float) Refusal
seen_of (Ok shown) = Ok shown.now
seen_of (Err refusal) = Err refusal

same_offset : (x y : Result EntryOffset Refusal) → number_in x ≡ number_in y → offset_in x ≡ offset_in y → x ≡ y
same_offset x y number offset =
    same_answer x y number (λ a b p q. (λ i. record { 0 = (sym (ap offset_in p) ∙ offset ∙ ap offset_in q) i }))

same_part : (x y : Result (Bor (List Float)) Refusal) → number_in x ≡ number_in y → entries_in x ≡ entries_in y → seen_of x ≡ seen_of y
same_part (Ok a) (Ok b) number entries = ap Ok entries
same_part (Ok a) (Err f) number entries = absurd (not_done f (sym number))
same_part (Err e) (Ok b) number entries = absurd (not_done e number)
same_part (Err e) (Err f) number entries = ap Err (same_refusal e f number)

pub check-node-unique : OneOutcome 2 check-node-kinds.ps check-node-kinds.r check-node-reads.Post
check-node-unique κs a x y ws vs p q = (same_done x y (one_number _ _ _ _ _ p q), refl)

pub node-offset-unique : OneOutcome 2 node-offset-kinds.ps node-offset-kinds.r node-offset-reads.Post
node-offset-unique κs a x y ws vs p q =
    (same_offset x y (one_number _ _ _ _ _ p.0 q.0) (one_place _ _ _ _ _ p.1.0 q.1.0), refl)

pub node-unique : OneOutcomeSeen 2 node-kinds.ps node-kinds.r (λ κs. Result (List Float) Refusal) (λ κs z. seen_of z) node-reads.Post
node-unique κs a x y ws vs p q =
    (same_part x y (one_number _ _ _ _ _ p.0 q.0) (one_part _ _ _ _ _ p.1 q.1), refl)

-- no `requires`
pub check-node-asks-nothing : (κs : _) (a : _) → check-node-reads.Pre κs a
check-node-asks-nothing κs a = tt

pub node-offset-asks-nothing : (κs : _) (a : _) → node-offset-reads.Pre κs a
node-offset-asks-nothing κs a = tt

pub node-asks-nothing : (κs : _) (a : _) → node-reads.Pre κs a
node-asks-nothing κs a = tt
