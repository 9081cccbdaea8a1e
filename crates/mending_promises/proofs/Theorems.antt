-- The promises of mending, for every text. Assumes nothing.
use mathlib.Core.List.{List}
use Prim.Native.Nat.{ℕ}
use Rattle.mending_promises.specs.Promises.{Mends}
pub use Rattle.mending_promises.proofs.Listed.{exact, rising}
pub use Rattle.mending_promises.proofs.Lengths.{shorter, few}
pub use Rattle.mending_promises.proofs.Each.{each, alone}
pub use Rattle.mending_promises.proofs.Mended.{clean, same, twice}
pub use Rattle.mending_promises.proofs.Accepted.{blocks_clean, accepted_clean, accepted_same}

-- All of them.
pub mends : (text : List ℕ) → Mends text
mends text =
    record {
      exact = exact text;
      rising = rising text;
      shorter = shorter text;
      few = few text;
      each = each text;
      alone = alone text;
      clean = clean text;
      same = same text;
      twice = twice text;
      accepted_clean = accepted_clean text;
      accepted_same = accepted_same text;
    }
