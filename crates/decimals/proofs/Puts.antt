-- A part of a buffer with a text copied into it is the buffer where the text was written. Assumes nothing.
use mathlib.Core.Path.{◌≡◌, refl, sym, ◌∙◌}
use mathlib.Core.List.{List, [], ◌++◌, append_assoc}
use Prim.Native.Nat.{ℕ, ◌+◌, ◌≤◌}
use native.Mathlib.Omega.{arith}
use lib.ListN.{length, take}
use lib.Seq.{sets-eq}
use borrow.Rule.Slice.PartMut.{put_mid}
use Rattle.std.proofs.lemmas.Slice.{put_mid-paste}
use Rattle.std.proofs.lemmas.List.Edits.{paste_all}
use Rattle.decimals.specs.Writing.{Put}

-- The copy is the text, of n bytes, and goes to the place after `at + n`.
pub copied_put : (at k n : ℕ) (out copy ys : List ℕ) → n ≡ length ys → k ≡ n → copy ≡ ys → at + n ≤ length out
    → Put out at ys (at + n) (put_mid at k out copy)
copied_put at k n out copy ys n_is k_is copy_is h =
    let room : at + length ys ≤ length out = omega (arith, n_is) in
    let e : k ≡ length ys = k_is ∙ n_is in (
      omega (arith, n_is),
      rw copy_is
          (put_mid-paste at k out ys ys k refl refl e
          ∙ (paste_all out at ys k e ∙ (rw e (sym (append_assoc (take at out) ys _)) ∙ sym (sets-eq ys out at room)))),
    )

-- What a buffer holds that was empty is what was put into it, and this is what is then written.
pub alone : (old new ys : List ℕ) → old ≡ [] → new ≡ old ++ ys → new ≡ ys
alone old new ys e f = rw e at f

pub text_put : (at r : ℕ) (out result xs ys : List ℕ) → xs ≡ ys → Put out at xs r result → Put out at ys r result
text_put at r out result xs ys e p = rw e at p
