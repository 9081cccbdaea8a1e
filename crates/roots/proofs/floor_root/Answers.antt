-- `roots::floor_root` meets its contract. Assumes nothing.
use mathlib.Core.Path.{◌≡◌, sym, ap, subst, ◌∙◌}
use Prim.Native.Nat.{ℕ, ◌+◌, ◌*◌, ◌/◌, ◌<◌}
use native.Mathlib.Nat.{div-add-mod'}
use native.Mathlib.Omega.{arith}
use Rattle.integers.specs.Root.{root}
use Rattle.roots.specs.Bits.{Worked, read}
use Rattle.roots.specs.Machine.Word.{word}
use Rattle.roots.specs.declared.Working.{Working}
use Rattle.roots.proofs.Bits.{nothing_read, itself, bits_root}
use Rattle.roots.proofs.floor_root.Goals as goal

-- the upper word has been read, and no more
upper : {high : ℕ} (w : Working) → Worked (0 * word + high) w → read w ≡ high
upper w h = let e = h.number in omega arith

pub with_word-upper-requires : goal.with_word-upper-requires
with_word-upper-requires c = (nothing_read, omega arith, omega arith)

pub with_word-requires : goal.with_word-requires
with_word-requires c = let w = c.with_word-upper.ensures in (itself w, subst (λ (t : ℕ). t < word) (sym (upper _ w)) (omega arith), omega arith)

pub returns : goal.returns
returns c =
    let e : read c.with_word-upper.result ≡ c.args.n / word = upper _ c.with_word-upper.ensures in
    bits_root c.with_word.ensures.bits ∙ ap root (rw e (div-add-mod' c.args.n word))
