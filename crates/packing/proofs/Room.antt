-- The buffer of `pack` has room for the packed form of any text within the limits: with as many bytes as a packed series may have, such a text
-- is accepted. Assumes nothing.
use mathlib.Core.Path.{◌≡◌, ap, ◌∙◌}
use mathlib.Core.List.{List}
use Prim.Native.Nat.{ℕ, ◌≤◌}
use native.Mathlib.Nat.{le_trans}
use lib.ListN.{length}
use lib.Seq.{sets}
use Rattle.packed.specs.Series.{pack}
use Rattle.packed_promises.specs.Bounds.{packed_limit}
use Rattle.packed_promises.proofs.Theorems.{longest_packed}
use Rattle.series_lines.specs.declared.Outcome.TheVariants.{Accepted}
use Rattle.series_lines.specs.Reader.{last_offset, told}
use Rattle.text.specs.Reader.{whole}
use Rattle.series_lines.specs.Grammar.{Block, blocks_bytes, blocks_of_lines, GoodText, InLimits}
use Rattle.text_promises.proofs.Theorems.{read_text, accepted_text, accepted_elsewhere}
use Rattle.text_promises.proofs.Series.{text_allowed}
use Rattle.published.specs.Reader as published
use Rattle.published_promises.specs.HandCut.{cut_text}
use Rattle.published_promises.proofs.Acceptance.{accepted_counted}
use Rattle.published_promises.proofs.SameAsCut.{accepted_cut, accepted_file}

pub always_room : (ks : List Block) (out : List ℕ) → GoodText ks → InLimits ks → length (blocks_bytes ks) ≤ last_offset → packed_limit ≤ length out
    → (told (whole (blocks_bytes ks) out).reader ≡ Accepted (length (pack (blocks_of_lines ks))))
    × ((whole (blocks_bytes ks) out).out ≡ sets out 0 (pack (blocks_of_lines ks)))
always_room ks out g l c h = read_text ks out g l c (le_trans (longest_packed (blocks_of_lines ks) (text_allowed ks g l)) h)

-- So has it for any published file: one that is accepted with some output is accepted with such a one, and leaves the same packed form.
pub always_room_published : (file buffer out : List ℕ) (n : ℕ) → published.told (published.whole file buffer).reader ≡ Accepted n
    → packed_limit ≤ length out → published.told (published.whole file out).reader ≡ Accepted n
always_room_published file buffer out n e h =
    let a = accepted_cut file buffer n e in
    let r = accepted_text (cut_text a.rs) buffer n a.accepted in
    let few = longest_packed (blocks_of_lines r.ks) (text_allowed r.ks r.good r.limits) in
    let t = accepted_elsewhere (cut_text a.rs) buffer out n a.accepted (rw r.long (le_trans few h)) in
    let p = accepted_file a.ordered (rw a.is at (accepted_counted file buffer n e)) out n t.0 in
    ap (λ (x : List ℕ). published.told (published.whole x out).reader) a.is ∙ p.0
