-- What each way through `mend` answers and leaves. Assumes nothing.
use mathlib.Core.Path.{◌≡◌, ap, ◌∙◌}
use mathlib.Core.List.{List}
use Prim.Native.Nat.{ℕ, ◌+◌, ◌/◌, ◌≤◌, ◌<◌}
use native.Mathlib.Omega.{arith}
use borrow.Author.Tests.{le-leb, lt-leb}
use lib.ListN.{length, take, drop}
use lib.Seq.{sets, sets-eq, take-append_seam}
use Rattle.units.specs.declared.Refusal.TheVariants.{NoRoom}
use Rattle.series_lines.specs.declared.Outcome.{Outcome}
use Rattle.text.specs.Judge.{judgement}
use Rattle.std.specs.Prelude.{Err, Ok}
use Rattle.mending.specs.Rule.{mended, changes, numbers}
use Rattle.mending.specs.Answer.{text_fits, list_fits, mending, mending_out, mending_list}
use Rattle.mending.specs.Machine.Runs.{Room}
use Rattle.mending.proofs.Runs.{length_numbers}

-- The first so many bytes of a buffer are the text that was written there.
pub written_first : (xs out after : List ℕ) (n : ℕ) → length xs ≤ length out → n ≡ length xs → after ≡ sets out 0 xs → take n after ≡ xs
written_first xs out after n h e w =
    rw (e, w, sets-eq xs out 0 (omega arith)) (take-append_seam xs (drop (0 + length xs) out))

module _ (text out list : List ℕ) (n m : ℕ) (bytes : n ≡ length (mended text)) (count : m ≡ length (changes text)) where
  pub text_over : length out < n → (Err (NoRoom n) ≡ mending text out list) × (out ≡ mending_out text out list) × (list ≡ mending_list text out list)
  unfolding mending mending_out mending_list text_fits
  text_over h =
      let t = lt-leb (length (mended text)) (length out) (omega arith) in (rw (t, bytes), rw t, rw t)

  module _ (fits : n ≤ length out) where
    pub list_over : length list / 2 < m
        → (Err (NoRoom m) ≡ mending text out list) × (out ≡ mending_out text out list) × (list ≡ mending_list text out list)
    unfolding mending mending_out mending_list text_fits list_fits
    list_over h =
        let t = le-leb (length (mended text)) (length out) (omega arith) in
        let u = lt-leb (length (changes text)) (length list / 2) (omega arith) in (rw (t, u, count), rw (t, u), rw (t, u))

    module _ (few : m ≤ length list / 2) where
      pub both_room : Room (mended text) 0 out × Room (numbers (changes text)) 0 list
      both_room = (omega arith, omega (arith, length_numbers (changes text)))

      pub both_fit : (out_after list_after : List ℕ) (o : Outcome) → out_after ≡ sets out 0 (mended text)
          → list_after ≡ sets list 0 (numbers (changes text)) → o ≡ judgement (take n out_after)
          → (Ok (record { length = n; changes = m; verdict = o }) ≡ mending text out list) × (out_after ≡ mending_out text out list)
          × (list_after ≡ mending_list text out list)
      unfolding mending mending_out mending_list text_fits list_fits
      both_fit out_after list_after o a b v =
          let t = le-leb (length (mended text)) (length out) (omega arith) in
          let u = le-leb (length (changes text)) (length list / 2) (omega arith) in
          let w = v ∙ ap judgement (written_first (mended text) out out_after n (omega arith) bytes a) in
          (rw (t, u, w, bytes, count), rw (t, u) a, rw (t, u) b)
