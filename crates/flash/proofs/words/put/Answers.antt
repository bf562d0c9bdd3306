-- The part that is copied holds the word's four bytes.
use Rattle.std.proofs.Common.{◌≡◌, ℕ, List, length, get_or, ap, ◌∙◌, arith}
use Rattle.std.specs.Int.{w32, to_be_bytes}
use Rattle.flash.specs.File.{byte_of}
use Rattle.flash.proofs.Fours.{put-byte}
use Rattle.flash.proofs.Parts.{part_written}
use Rattle.flash.proofs.words.put.Goals as goal

pub returns : goal.returns
returns c =
    let a = c.args in
    let bytes : c.copy_from_slice.new.self ≡ to_be_bytes w32 a.w = simp c.to_be_bytes-bytes.ensures at c.copy_from_slice.ensures.after in
    part_written (byte_of a.w) a.at _ 4 a.file.now _ (omega arith) c.requires (ap length bytes) (λ i h. ap (λ (l : List ℕ). get_or l i 0) bytes ∙ put-byte a.w i h)
