use Rattle.std.proofs.Common.{◌≡◌, ℕ, suc, ◌+◌, ◌*◌, ◌<◌, ◌≤◌, min, ◌∷◌, ◌++◌, length, get_or, drop, sym, ap, ◌∙◌, arith, length-drop}
use Rattle.std.specs.Iterator.Adapters.{enumerate_source, enumerate_count}
use Rattle.std.specs.Slice.Iter.{chunks_size, chunks_rest}
use Rattle.lists.specs.Buffer.{written, written_from}
use Rattle.lists.proofs.Lists.{length-tabulate}
use Rattle.lists.proofs.Buffer.{length-written}
use Rattle.flash.specs.File.{word_at, block_byte, file_byte}
use Rattle.flash.proofs.Parts.{part-at, part-rest}
use Rattle.flash.proofs.Files.{file-long, file-first, file-more, file-next, file-whole}
use Rattle.flash.proofs.blocks.put_all.Goals as goal

pub put_block-requires : goal.put_block-requires
put_block-requires c =
    let a = c.args in
    let five : length c.words.result ≡ 5 = ap length c.words.ensures ∙ length-tabulate 5 (λ j. word_at (a.head.now.n ∷ a.head.now.m ∷ a.head.now.sizes) (4 * j)) in
    (omega arith, omega (arith, file-long (length a.bits.now), c.requires.1))

pub loop-k-init : goal.loop-k-init
loop-k-init c =
    let a = c.args in
    let eighteen : length (a.head.now.n ∷ a.head.now.m ∷ a.head.now.sizes) ≡ 18 = ap (λ (k : ℕ). suc (suc k)) (omega arith) in
    let made = c.into_iter-k-iterator.ensures.into_iter_gives in
    let count : enumerate_count c.into_iter-k-iterator.result ≡ 0 = ap enumerate_count made ∙ c.enumerate-k-items.ensures.count in
    let source : enumerate_source c.into_iter-k-iterator.result ≡ c.chunks.result = ap enumerate_source made ∙ c.enumerate-k-items.ensures.source in
    record {
      size = ap chunks_size source ∙ c.chunks.ensures.size;
      rest = ap chunks_rest source ∙ c.chunks.ensures.rest ∙ ap (λ (k : ℕ). drop (126 * k) a.bits.now) (sym count);
      few = omega arith;
      put = file-first _ a.bits.now _ a.file.now _ c.words.ensures eighteen c.put_block.ensures
          ∙ ap (λ (k : ℕ). written (file_byte (a.head.now.n ∷ a.head.now.m ∷ a.head.now.sizes) a.bits.now) (512 * (k + 1)) a.file.now) (sym count);
    }

pub put_block-requires-in-loop-k : goal.put_block-requires-in-loop-k
put_block-requires-in-loop-k c =
    let bits = c.args.bits.now in
    let it = c.loop-k.k-iterator in
    let l = c.loop-k.invariant in
    let s = c.in-Some.ensures.steps in
    let some : 126 * enumerate_count it < length bits = omega (arith, s.0.1.2, ap length l.rest, length-drop (126 * enumerate_count it) bits) in
    (omega (arith, s.0.1.1, l.size), omega (arith, s.1, file-more (length bits) (enumerate_count it) some, c.requires.1, ap length l.put, length-written))

pub loop-k-preserved : goal.loop-k-preserved
loop-k-preserved c =
    let a = c.args in
    let bits = a.bits.now in
    let count = enumerate_count c.loop-k.k-iterator in
    let l = c.loop-k.invariant in
    let s = c.in-Some.ensures.steps in
    let part = c.in-Some.part.now in
    let rest = chunks_rest (enumerate_source c.next.new.self) in
    let cut : drop (126 * count) bits ≡ part ++ rest = sym l.rest ∙ s.0.1.0 in
    let long : length part ≡ min 126 (length (drop (126 * count) bits)) = s.0.1.1 ∙ (λ i. min (l.size i) (length (l.rest i))) in
    let next : 126 * count + 126 ≡ 126 * enumerate_count c.next.new.self = omega (arith, s.2) in
    record {
      size = s.0.0 ∙ l.size;
      rest = part-rest bits part rest (126 * count) 126 cut long ∙ ap (λ (p : ℕ). drop p bits) next;
      few = omega (arith, s.2, s.0.1.2, ap length l.rest, length-drop (126 * count) bits);
      put = file-next _ bits count part a.file.now c.loop-k.file _ (part-at bits part rest (126 * count) 126 cut long) l.put
          (c.put_block-in-loop-k.ensures ∙ (λ i. written_from (512 * (s.1 i + 1)) (block_byte (s.1 i + 1) (λ j. get_or part j 0)) 512 c.loop-k.file))
          ∙ ap (λ (k : ℕ). written (file_byte (a.head.now.n ∷ a.head.now.m ∷ a.head.now.sizes) bits) (512 * (k + 1)) a.file.now) (sym s.2);
    }

pub returns : goal.returns
returns c =
    let a = c.args in
    let bits = a.bits.now in
    let count = enumerate_count c.loop-k.k-iterator in
    let l = c.loop-k.invariant in
    let past : length bits ≤ 126 * count = omega (arith, c.in-None.ensures.steps.0.1.0, ap length l.rest, length-drop (126 * count) bits) in
    l.put ∙ ap (λ (p : ℕ). written (file_byte (a.head.now.n ∷ a.head.now.m ∷ a.head.now.sizes) bits) p a.file.now) (file-whole (length bits) count past l.few)
