-- What the probe prints, from what its parts say: the layout's answer, and the lookup's number and answers.
-- Assumes nothing.
use Rattle.std.proofs.Common.{◌≡◌, refl, sym, ◌∙◌, ap, ℕ, zero, suc, ◌≤◌, ◌<◌, false, Float, arith}
use Rattle.std.proofs.Common.{List, [], ◌∷◌, map, length, get_or, take, drop, replicate, length-take-le}
use Rattle.std.specs.Float.{nan}
use Rattle.std.specs.Float.Ieee.{is_nan}
use lib.Dec.{T, ltb, ltb→lt, lit≤, lit<}
use lib.Pow.{are_bytes}
use lib.Ieee.Fits.{and_l, and_r}
use lib.Seq.{get_or-take, ext_get_or}
use Rattle.outcome.specs.Outcome.{or_else}
use Rattle.outcome.proofs.Refused.{refused-first}
use Rattle.binary32.proofs.Ranges.{share-number, unit-share}
use Rattle.lists.specs.Lists.{tabulate, some}
use Rattle.lists.specs.Buffer.{written, left}
use Rattle.lists.proofs.Lists.{length-tabulate, get_or-tabulate}
use Rattle.lists.proofs.Buffer.{length-written, written_at}
use Rattle.layout.specs.Layout.{Laid}
use Rattle.layout.specs.Layout.{laid_of}
use Rattle.lookup.specs.Table.{answer_at, refusal, Looked}
use Rattle.probing.specs.Text.{report}
use Rattle.probing.specs.Probe.{limit, code_of, Asked, shown, probe_output}

-- no ink code is NaN, so the probe never prints 16
pub codes-numbers : (codes : List ℕ) → T (are_bytes codes) → some is_nan (map code_of codes) ≡ false
unfolding some
codes-numbers [] t = refl
codes-numbers (v ∷ vs) t =
    let byte : v < 256 = ltb→lt v 256 (and_l (ltb v 256) (are_bytes vs) t) in
    rw (share-number (code_of v) (unit-share 255 v (lit< tt) (lit≤ tt) (omega arith)))
    (codes-numbers vs (and_r (ltb v 256) (are_bytes vs) t))

-- a refusal is reported alone
refusal-alone : (k : ℕ) (xs : List Float) → (k ≡ 0 → ⊥) → report k xs ≡ report k []
unfolding report
refusal-alone zero xs h = absurd (h refl)
refusal-alone (suc k) xs h = refl

-- the entries that a call sets, as a list
first-written : (f : ℕ → Float) (m : ℕ) (old : List Float) → m ≤ length old → tabulate m f ≡ take m (written f m old)
first-written f m old room =
    let len : length (take m (written f m old)) ≡ m = length-take-le m (written f m old) (omega (arith, length-written f m old)) in
    ext_get_or nan (tabulate m f) (take m (written f m old)) (length-tabulate m f ∙ sym len) (λ i h.
    let below : i < m = omega (arith, length-tabulate m f) in
    get_or-tabulate m f i nan below ∙ sym (get_or-take m (written f m old) i nan below ∙ written_at f m old i nan below room))

-- what is printed where these bytes are those that count
of_bytes : List ℕ → List ℕ
of_bytes bytes =
    let n = get_or bytes 1 0 in
    let rest = drop 3 bytes in
    shown (laid_of (replicate 16 (get_or bytes 0 0)) n (get_or bytes 2 0)) (map code_of (take n rest)) (map code_of (drop n rest))

module _ (input : List ℕ) {bytes : List ℕ} {laid : Laid} (bytes-are : bytes ≡ take limit input) (asked : Asked bytes laid) where
  output : of_bytes bytes ≡ probe_output input
  unfolding probe_output of_bytes
  output = ap of_bytes bytes-are

  -- the layout refuses
  pub layout-refuses : (laid.refusal ≡ 0 → ⊥) → report laid.refusal [] ≡ probe_output input
  unfolding shown of_bytes
  layout-refuses h =
      let n = get_or bytes 1 0 in
      let codes = map code_of (take n (drop 3 bytes)) in
      let table = map code_of (drop n (drop 3 bytes)) in
      let answers = tabulate laid.lut.output_inks (answer_at laid.lut table codes) in
      sym (refusal-alone laid.refusal answers h)
      ∙ ap (λ (k : ℕ). report k answers) (refused-first laid.refusal _ h refl)
      ∙ ap (λ (l : Laid). shown l codes table) asked.answer
      ∙ output

  module _ (accepted : laid.refusal ≡ 0) {rest codes table : List ℕ} {old now : List Float} {r : ℕ}
      (rest-is : rest ≡ drop 3 bytes) (codes-are : codes ≡ take laid.lut.input_inks rest)
      (table_is : table ≡ drop laid.lut.input_inks rest) (room : length old ≡ 15)
      (looked : Looked laid.lut (map code_of table) (map code_of codes) old r now) where
    answers : ℕ → Float
    answers = answer_at laid.lut (map code_of table) (map code_of codes)

    m : ℕ
    m = laid.lut.output_inks

    reported : report r (tabulate m answers) ≡ probe_output input
    unfolding shown of_bytes answers m
    reported =
        let n = (asked.inks accepted).0 in
        let laid-so = looked.decides.found (asked.layout accepted) in
        let number = looked.number ∙ (λ i. refusal (laid-so i) laid.lut (length (map code_of table)) (map code_of codes) (room i)) in
        (λ i. report (or_else (sym accepted i) (number i)) (tabulate m answers))
        ∙ (λ i. shown laid (map code_of (codes-are i)) (map code_of (table_is i)))
        ∙ (λ i. shown (asked.answer i) (map code_of (take (n i) (rest-is i))) (map code_of (drop (n i) (rest-is i))))
        ∙ output

    pub lookup-refuses : (r ≡ 0 → ⊥) → report r [] ≡ probe_output input
    lookup-refuses h = sym (refusal-alone r _ h) ∙ reported

    pub lookup-answers : r ≡ 0 → report 0 (take laid.lut.output_inks now) ≡ probe_output input
    unfolding answers m
    lookup-answers h =
        let set : now ≡ written answers m old = looked.entries ∙ ap (λ (k : ℕ). left k answers m old) h in
        let first = ap (take m) set ∙ sym (first-written answers m old (omega (arith, asked.outputs accepted))) in
        (λ i. report (sym h i) (first i)) ∙ reported
