-- What is known of the length of a slice of floats. Assumes nothing.
use Prim.Native.Nat.{ℕ, ◌*◌, ◌<◌}

abbrev pub Room : ℕ → Type 0
Room n = n * 4 < 9_223_372_036_854_775_808
