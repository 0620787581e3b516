-- What contracts say of readers and writers.
-- Public: a public contract says no more than this.
use Rattle.std.specs.Prelude.{ℕ, List, Bool, Option}

-- a reader: the bytes that it has left, where they are known, and its mark
pub record Reader : Type 0 where
  pub known : Option (List ℕ)
  pub has_failed : Bool

-- a writer: the bytes that it holds, where they are known, and its mark
pub record Writer : Type 0 where
  pub contents : Option (List ℕ)
  pub has_failed : Bool
