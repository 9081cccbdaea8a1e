-- Packed series: with bytes after it a series is refused 9 at the first of them, and where bytes are refused so, a series stands before; one
-- that is cut short is refused 8. Assumes nothing.
use mathlib.Core.Path.{◌≡◌, refl, sym, ap, ◌∙◌, subst}
use mathlib.Core.List.{List, [], ◌∷◌, ◌++◌, append-nil}
use Prim.Native.Nat.{ℕ, zero, suc, ◌+◌, ◌<◌}
use native.Mathlib.Omega.{arith}
use lib.ListN.{length, take, drop, length-append, take-append-drop}
use lib.Seq.{take_at, take-append_seam, drop-append_seam}
use Rattle.units.specs.Refusals as refusals
use Rattle.units.specs.declared.Refusal.{Refusal}
use Rattle.units.specs.declared.Refusal.TheVariants.{EndedEarly, ByteAfterEnd}
use Rattle.packed_numbers.specs.Numbers.{AllBytes, Read, got, bad, number, groups_from, next}
use Rattle.units.specs.Units.{block_count}
use Rattle.limits.specs.declared.Term.{Term}
use Rattle.limits.specs.Limits.{no_tally}
use Rattle.limits.proofs.Series.{good_allowed}
use Rattle.packed.specs.declared.Content.{Content}
use Rattle.std.specs.Prelude.{Err, Ok, Result}
use Rattle.packed.specs.Series.{Parsed, accepted, refused, read_block, read_blocks, read_series, ended, parse, checked, pack}
use Rattle.packed_promises.specs.Bounds.{Where, over, total, coarse, early, after, unshortened}
use Rattle.packed_promises.proofs.Appending.{series_append, series_bad}
use Rattle.packed_promises.proofs.Refusing.{Placed, on, off, series_placed}
use Rattle.packed.proofs.Blocks.{blocks_are_good}
use Rattle.packed_promises.proofs.Packing.{blocks_begin}
use Rattle.packed_promises.proofs.Theorems.{to_end, pack_parse}
use Rattle.series_lines.specs.Calls.{joined}
use Rattle.end_to_end.specs.EndToEnd.{PackedSeries, Each, Found, at_end, goes_on}

-- ---- A series, and more bytes.

unlike : {r : Refusal} {c : Content} → ◌≡◌ {A = Result Content Refusal} (Err r) (Ok c) → ⊥
unlike e = let z : ◌≡◌ {A = ℕ} 0 1 = cc in omega arith

-- What `check` accepts is parsed to blocks.
pub record BlocksOf (x : List ℕ) : Type 0 where
  pub blocks : List (List Term)
  pub is : parse x ≡ accepted blocks

pub blocks_of : (x : List ℕ) → PackedSeries x → BlocksOf x
unfolding checked
blocks_of x s = go (parse x) refl s.is
  where
    go : (p : Parsed) → parse x ≡ p → checked p ≡ Ok s.content → BlocksOf x
    go (accepted blocks) p q = record { blocks = blocks; is = p }
    go (refused r) p q = absurd (unlike q)

pub followed : (x y : List ℕ) (b : ℕ) → PackedSeries x → checked (parse (x ++ (b ∷ y))) ≡ Err (ByteAfterEnd (length x))
unfolding parse checked ended
followed x y b s = let p = blocks_of x s in rw (series_append 0 x (b ∷ y) (to_end x p.blocks p.is))

pub not_empty : PackedSeries [] → ⊥
unfolding parse checked ended read_series read_blocks read_block number groups_from next
not_empty s = unlike s.is

pub no_beginning : (x y : List ℕ) → PackedSeries x → PackedSeries (x ++ y) → y ≡ []
no_beginning x [] s t = refl
no_beginning x (b ∷ y) s t = absurd (unlike (sym (followed x y b s) ∙ t.is))

-- ---- The bytes before a 9.

before : (bytes : List ℕ) (blocks : List (List Term)) (at b : ℕ) (rest : List ℕ) → AllBytes bytes → read_series 0 bytes ≡ got blocks at (b ∷ rest)
    → at + length (b ∷ rest) ≡ length bytes → PackedSeries (take at bytes) × (at < length bytes)
unfolding read_series checked
before bytes blocks at b rest all e l =
    let g = blocks_are_good block_count 0 no_tally 0 bytes blocks at (b ∷ rest) e in
    let f = (blocks_begin block_count 0 no_tally 0 bytes blocks at (b ∷ rest) all e).form in
    let n : length (pack blocks) ≡ at = omega (arith, l, ap length f, length-append (pack blocks) (b ∷ rest)) in
    let t : take at bytes ≡ pack blocks = ap (λ (s : List ℕ). take at s) f ∙ take_at (pack blocks) (b ∷ rest) at n in
    let p : parse (take at bytes) ≡ accepted blocks = ap parse t ∙ pack_parse blocks (good_allowed blocks g.many g.good) in
    (record { content = _; is = ap checked p }, omega (arith, l))

pub front : (bytes : List ℕ) (at : ℕ) → AllBytes bytes → checked (parse bytes) ≡ Err (ByteAfterEnd at)
    → PackedSeries (take at bytes) × (at < length bytes)
unfolding parse checked ended
front bytes at all = go (read_series 0 bytes) refl (series_placed bytes)
  where
    go : (r : Read (List (List Term))) → read_series 0 bytes ≡ r → Placed bytes 0 r → checked (ended r) ≡ Err (ByteAfterEnd at)
        → PackedSeries (take at bytes) × (at < length bytes)
    go (got blocks to []) p l q = absurd (unlike (sym q))
    go (got blocks to (b ∷ rest)) p (on l _) q = let e : to ≡ at = cc in before bytes blocks at b rest all (rw e at p) (rw e at l)
    go (bad r) p (off w) q = let e : r ≡ ByteAfterEnd at = cc in absurd (w.not_after (ap refusals.number e))

-- ---- A series that is cut short. What is read of it goes on as in the whole one, so it can only end early.

module _ (x y : List ℕ) (b : ℕ) (s : PackedSeries (x ++ (b ∷ y))) where
  all_read : (blocks : List (List Term)) × (read_series 0 (x ++ (b ∷ y)) ≡ got blocks (length (x ++ (b ∷ y))) [])
  all_read = let p = blocks_of (x ++ (b ∷ y)) s in (p.blocks, to_end (x ++ (b ∷ y)) p.blocks p.is)

  not_got : (blocks : List (List Term)) (at : ℕ) (rest : List ℕ) → read_series 0 x ≡ got blocks at rest → ⊥
  not_got blocks at rest p = omega (arith, ap length (nothing (sym all_read.1 ∙ series_append 0 x (b ∷ y) p)), length-append rest (b ∷ y))
    where
      nothing : {bs : List (List Term)} {n : ℕ} → got bs n [] ≡ got blocks at (rest ++ (b ∷ y)) → [] ≡ rest ++ (b ∷ y)
      nothing q = cc

  not_bad : (r : Refusal) → (refusals.number r ≡ refusals.ended_early → ⊥) → read_series 0 x ≡ bad r → ⊥
  not_bad r h p = unlike_got (sym (series_bad 0 x (b ∷ y) r (λ n q. h (ap refusals.number q)) p) ∙ all_read.1)
    where
      unlike_got : {blocks : List (List Term)} {at : ℕ} {rest : List ℕ} → bad r ≡ got blocks at rest → ⊥
      unlike_got q = let z : ◌≡◌ {A = ℕ} 0 1 = cc in omega arith

  ends_early : {r : Refusal} → Where x r → read_series 0 x ≡ bad r → r ≡ EndedEarly (length x)
  ends_early (early e) p = ap EndedEarly e
  ends_early {r = r} (over l) p = absurd (not_bad r (λ q. omega (arith, q)) p)
  ends_early {r = r} (total l) p = absurd (not_bad r (λ q. omega (arith, q)) p)
  ends_early {r = r} (coarse l) p = absurd (not_bad r (λ q. omega (arith, q)) p)
  ends_early {r = r} (after l) p = absurd (not_bad r (λ q. omega (arith, q)) p)
  ends_early {r = r} (unshortened l) p = absurd (not_bad r (λ q. omega (arith, q)) p)

  pub cut_short : checked (parse x) ≡ Err (EndedEarly (length x))
  unfolding parse checked ended
  cut_short = go (read_series 0 x) refl (series_placed x)
    where
      go : (r : Read (List (List Term))) → read_series 0 x ≡ r → Placed x 0 r → checked (ended r) ≡ Err (EndedEarly (length x))
      go (got blocks at rest) p l = absurd (not_got blocks at rest p)
      go (bad r) p (off w) = ap Err (ends_early w.place p)

-- ---- One after the other.

-- Series stored end to end are found again.
pub finds : (x : List ℕ) (xs : List (List ℕ)) → Each PackedSeries (x ∷ xs) → Found (joined (x ∷ xs)) (x ∷ xs)
unfolding Each joined
finds x [] h = subst (λ (s : List ℕ). Found s (x ∷ [])) (sym (append-nil x)) (at_end h.0.is)
finds x (y ∷ ys) h = go y refl (finds y ys h.1)
  where
    go : (z : List ℕ) → z ≡ y → Found (joined (y ∷ ys)) (y ∷ ys) → Found (joined (x ∷ (y ∷ ys))) (x ∷ (y ∷ ys))
    go [] e f = absurd (not_empty (subst PackedSeries (sym e) h.1.0))
    go (b ∷ z) e f =
        let rest = joined (y ∷ ys) in
        let w : b ∷ (z ++ joined ys) ≡ rest = ap (λ (s : List ℕ). s ++ joined ys) e in
        let c : checked (parse (x ++ rest)) ≡ Err (ByteAfterEnd (length x)) = rw w at (followed x (z ++ joined ys) b h.0) in
        subst (λ (s : List ℕ). Found (x ++ rest) (s ∷ (y ∷ ys))) (take-append_seam x rest)
        (goes_on c (subst (λ (s : List ℕ). Found s (y ∷ ys)) (sym (drop-append_seam x rest)) f))

drop_bytes : (n : ℕ) (s : List ℕ) → AllBytes s → AllBytes (drop n s)
drop_bytes zero s h = h
drop_bytes (suc n) [] h = tt
drop_bytes (suc n) (b ∷ s) h = drop_bytes n s h.1

pub found : (bytes : List ℕ) (xs : List (List ℕ)) → AllBytes bytes → Found bytes xs → Each PackedSeries xs × (joined xs ≡ bytes)
unfolding Each joined
found bytes _ all (at_end {c = c} e) = ((record { content = c; is = e }, tt), append-nil bytes)
found bytes _ all (goes_on {at = at} {xs = xs} e f) =
    let i = found (drop at bytes) xs (drop_bytes at bytes all) f in
    (((front bytes at all e).0, i.0), ap (λ (s : List ℕ). take at bytes ++ s) i.1 ∙ take-append-drop at bytes)
