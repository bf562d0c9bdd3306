-- Document 01, "The probe program": the bytes that it prints for the bytes that it reads. Definitions only.
use Rattle.std.specs.Prelude.{ℕ, ◌≤◌, ◌≡◌, true, List, ◌++◌, map, Float, length, get_or, take, drop, replicate}
use Rattle.binary32.specs.Numbers.{unit_of}
use Rattle.outcome.specs.Outcome.{or_else}
use Rattle.lists.specs.Lists.{tabulate}
use Rattle.layout.specs.Layout.{Laid}
use Rattle.layout.specs.Layout.{laid_of, IsLayout}
use Rattle.lookup.specs.Table.{answer_at, refusal}
use Rattle.probing.specs.Text.{report}

-- only so many bytes count
abbrev pub limit : ℕ
limit = 16384

-- an ink code or a table byte v becomes v / 255, rounded once
abbrev pub code_of : ℕ → Float
code_of v = unit_of 255 v

-- the report of a lookup with an answer buffer of 15 places, where the layout is accepted
unfoldable pub shown : Laid → List Float → List Float → List ℕ
shown laid codes table =
    report (or_else laid.refusal (refusal true laid.lut (length table) codes 15))
    (tabulate laid.lut.output_inks (answer_at laid.lut table codes))

-- g, n, m (a missing one counts as 0), n ink codes, then table bytes. All sixteen sizes are g.
unfoldable pub probe_output : List ℕ → List ℕ
probe_output input =
    let bytes = take limit input in
    let n = get_or bytes 1 0 in
    let rest = drop 3 bytes in
    shown (laid_of (replicate 16 (get_or bytes 0 0)) n (get_or bytes 2 0)) (map code_of (take n rest)) (map code_of (drop n rest))

-- what is said of the layout that the first bytes ask for: where it is accepted, as many inks as the second byte says, and few
pub record Asked (bytes : List ℕ) (laid : Laid) : Type 0 where
  pub answer : laid ≡ laid_of (replicate 16 (get_or bytes 0 0)) (get_or bytes 1 0) (get_or bytes 2 0)
  pub layout : laid.refusal ≡ 0 → IsLayout laid.lut
  pub inks : laid.refusal ≡ 0 → (laid.lut.input_inks ≡ get_or bytes 1 0) × (laid.lut.input_inks ≤ 15)
  pub outputs : laid.refusal ≡ 0 → laid.lut.output_inks ≤ 15

-- what `probed` owes: r bytes at the start of the buffer, which was `old`, are the output, and nothing past them changed
pub record Probed (input old : List ℕ) (r : ℕ) (now : List ℕ) : Type 0 where
  pub count : r ≡ length (probe_output input)
  pub bytes : now ≡ probe_output input ++ drop r old
  -- which follows, in the form that `&out[..r]` asks for
  pub within : r ≤ length now
  pub first : r ≡ length (take r now)
