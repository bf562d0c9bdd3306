-- Demand 3 in a table that was read from a CLUT element, or as plain values: its entries are from 0 to 1, whatever the bytes are. Assumes nothing.
use Prim.Native.Nat.{ℕ}
use mathlib.Core.Path.{◌≡◌}
use mathlib.Core.List.{List}
use lib.Dec.{T}
use lib.Pow.{are_bytes}
use lib.Ieee.{Float}
use Rattle.lists.proofs.Lists.{bytes-at}
use Rattle.layout.specs.declared.MultidimensionalLut.{MultidimensionalLut}
use Rattle.layout.specs.Layout.{Laid}
use Rattle.layout.specs.Layout.{IsLayout, entries}
use Rattle.lookup.specs.Table.{answer_at}
use Rattle.clut.specs.Units.{UnitsRead}
use Rattle.clut.specs.Clut.{ClutRead}
use Rattle.clut.proofs.Shares.{units-shares, read-is-layout, read-shares}
use Rattle.demands.specs.Demand.{Shares, NodesKept, LinesCut}
use Rattle.demands.proofs.Demands.{at-a-node, on-a-line}

module _ (element : List ℕ) (bytes : T (are_bytes element)) (n m : ℕ) (old : List Float) (r : Laid) (now : List Float)
    (read : ClutRead element n m old r now) (done : r.refusal ≡ 0) where
  is-layout : IsLayout r.lut
  is-layout = read-is-layout element bytes n m old r now read done

  pub shares-read : Shares now (entries r.lut)
  shares-read = read-shares element bytes n m old r now read done

  pub nodes-read : NodesKept answer_at r.lut now
  nodes-read = at-a-node r.lut is-layout now shares-read

  pub lines-read : LinesCut answer_at r.lut now
  lines-read = on-a-line r.lut is-layout now shares-read

-- of a layout whose total was read as plain values
module _ (bytes : List ℕ) (are : T (are_bytes bytes)) (precision : ℕ) (lut : MultidimensionalLut) (is : IsLayout lut) (old now : List Float)
    (read : UnitsRead bytes precision (entries lut) old 0 now) where
  shares-of-units : Shares now (entries lut)
  shares-of-units = units-shares bytes (bytes-at bytes are) precision (entries lut) old now read

  pub nodes-of-units : NodesKept answer_at lut now
  nodes-of-units = at-a-node lut is now shares-of-units

  pub lines-of-units : LinesCut answer_at lut now
  lines-of-units = on-a-line lut is now shares-of-units
