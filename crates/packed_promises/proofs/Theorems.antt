-- What holds of packed series as a whole, and the figures at its edges. Assumes nothing.
use mathlib.Core.Path.{◌≡◌, refl, ◌∙◌, subst}
use mathlib.Core.List.{List, [], ◌∷◌, ◌++◌, append-nil}
use Prim.Native.Nat.{ℕ, ◌≤◌, ◌<◌}
use native.Mathlib.Omega.{arith}
use lib.ListN.{length, replicate}
use Rattle.units.specs.Refusals as refusals
use Rattle.units.specs.declared.Refusal.{Refusal}
use Rattle.units.specs.declared.Refusal.TheVariants.{OverLimit, EndedEarly, ByteAfterEnd, NotShortest}
use Rattle.packed_numbers.specs.Numbers.{group, Read, got, bad, next, closed, groups_from, number, groups, encode}
use Rattle.packed_numbers.proofs.Shortest.{AllBytes}
use Rattle.units.specs.Units.{block_count}
use Rattle.limits.specs.declared.Term.{Term}
use Rattle.limits.specs.Limits.{no_tally, opened, summed, after_block, count_fits}
use Rattle.packed.specs.Series.{accepted, refused, judged, read_terms, read_block, read_blocks, read_series, ended, parse, pack}
use Rattle.limits.specs.Allowed.{Allowed}
use Rattle.limits.proofs.Series.{good_allowed, allowed_good}
use Rattle.packed_promises.specs.Bounds.{packed_limit, early_limit, Where, over, total, coarse, early, after, unshortened}
use Rattle.packed_promises.proofs.Appending.{series_append, series_bad}
use Rattle.packed_promises.proofs.Refusing.{Placed, on, off, series_placed}
use Rattle.packed_promises.proofs.Longest.{Bounded, within, stopped, By, series_bounded}
use Rattle.packed.proofs.Blocks.{blocks_are_good}
use Rattle.packed_promises.proofs.Packing.{blocks_begin, blocks_packed}

-- An accepted series was read to the end of its bytes.
pub to_end : (x : List ℕ) (blocks : List (List Term)) → parse x ≡ accepted blocks → read_series 0 x ≡ got blocks (length x) []
unfolding parse ended
to_end x blocks e = go (read_series 0 x) refl (series_placed x) e
  where
    go : (r : Read (List (List Term))) → read_series 0 x ≡ r → Placed x 0 r → ended r ≡ accepted blocks → read_series 0 x ≡ got blocks (length x) []
    go (got bs at []) p (on l _) q =
        let w : bs ≡ blocks = cc in
        let n : at ≡ length x = omega (arith, l) in
        rw (w, n) at p
    go (got bs at (b ∷ rest)) p l q = let z : ◌≡◌ {A = ℕ} 0 1 = cc in absurd (omega arith)
    go (bad r) p l q = let z : ◌≡◌ {A = ℕ} 0 1 = cc in absurd (omega arith)

-- The blocks of an accepted series are within the limits.
pub accepted_allowed : (x : List ℕ) (blocks : List (List Term)) → parse x ≡ accepted blocks → Allowed blocks
unfolding read_series
accepted_allowed x blocks e =
    let g = blocks_are_good block_count 0 no_tally 0 x blocks (length x) [] (to_end x blocks e) in
    good_allowed blocks g.many g.good

-- Refused bytes say where: how many they are, or the offset of one of them; and they have no other refusal.
pub refused_where : (bytes : List ℕ) (r : Refusal) → parse bytes ≡ refused r → Where bytes r
unfolding parse ended
refused_where bytes r e = go (read_series 0 bytes) (series_placed bytes) e
  where
    go : (a : Read (List (List Term))) → Placed bytes 0 a → ended a ≡ refused r → Where bytes r
    go (got bs at []) h q = let z : ◌≡◌ {A = ℕ} 0 1 = cc in absurd (omega arith)
    go (got bs at (b ∷ rest)) (on p l) q =
        let w : ByteAfterEnd at ≡ r = cc in
        subst (λ (s : Refusal). Where bytes s) w (after {at = at} (omega arith))
    go (bad s) (off w) q = let p : s ≡ r = cc in rw p at w.place

-- So none is refused for want of room.
pub room_where : {bytes : List ℕ} {r : Refusal} → Where bytes r → refusals.number r ≡ refusals.no_room → ⊥
room_where (over h) e = omega arith
room_where (total h) e = omega arith
room_where (coarse h) e = omega arith
room_where (early h) e = omega arith
room_where (after h) e = omega arith
room_where (unshortened h) e = omega arith

-- An accepted series has at most 188,452 bytes.
pub longest_series : (bytes : List ℕ) (blocks : List (List Term)) → parse bytes ≡ accepted blocks → length bytes ≤ packed_limit
unfolding parse ended
longest_series bytes blocks e = go (read_series 0 bytes) (series_placed bytes) (series_bounded bytes) e
  where
    go : (a : Read (List (List Term))) → Placed bytes 0 a → Bounded (By packed_limit) early_limit a → ended a ≡ accepted blocks → length bytes ≤ packed_limit
    go (got bs at []) (on p l) (within h) q = omega arith
    go (got bs at (b ∷ rest)) p h q = let z : ◌≡◌ {A = ℕ} 0 1 = cc in absurd (omega arith)
    go (bad r) p h q = let z : ◌≡◌ {A = ℕ} 0 1 = cc in absurd (omega arith)

-- Bytes that end early are at most 188,460.
pub longest_early : (bytes : List ℕ) (n : ℕ) → parse bytes ≡ refused (EndedEarly n) → n ≤ early_limit
unfolding parse ended
longest_early bytes n e = go (read_series 0 bytes) (series_bounded bytes) e
  where
    go : (a : Read (List (List Term))) → Bounded (By packed_limit) early_limit a → ended a ≡ refused (EndedEarly n) → n ≤ early_limit
    go (got bs at []) h q = let z : ◌≡◌ {A = ℕ} 0 1 = cc in absurd (omega arith)
    go (got bs at (b ∷ rest)) h q = let z : ◌≡◌ {A = ℕ} 0 1 = cc in absurd (omega arith)
    go (bad r) (stopped h) q = let p : r ≡ EndedEarly n = cc in h n p

early_where : (bytes : List ℕ) (n : ℕ) → Where bytes (EndedEarly n) → n ≡ length bytes
early_where bytes n (early e) = e

-- More bytes than that decide: they are refused, and whatever follows them is refused in the same way.
pub record Decided (x y : List ℕ) : Type 0 where
  pub refusal : Refusal
  pub alone : parse x ≡ refused refusal
  pub with_more : parse (x ++ y) ≡ refused refusal

pub decided : (x y : List ℕ) → early_limit < length x → Decided x y
unfolding parse ended
decided x y l = go (read_series 0 x) refl (series_placed x) (series_bounded x)
  where
    go : (a : Read (List (List Term))) → read_series 0 x ≡ a → Placed x 0 a → Bounded (By packed_limit) early_limit a → Decided x y
    go (got bs at []) e (on p _) (within h) = absurd (omega arith)
    go (got bs at (b ∷ rest)) e p h = record { refusal = ByteAfterEnd at; alone = rw e; with_more = rw (series_append 0 x y e) }
    go (bad r) e (off w) (stopped h) = record { refusal = r; alone = rw e; with_more = rw (series_bad 0 x y r late e) }
      where
        late : (n : ℕ) → r ≡ EndedEarly n → ⊥
        late n q = omega (arith, h n q, early_where x n (subst (λ (s : Refusal). Where x s) q w.place))

-- The packed form of a series within the limits is accepted as that series.
pub pack_parse : (blocks : List (List Term)) → Allowed blocks → parse (pack blocks) ≡ accepted blocks
unfolding parse read_series ended
pack_parse blocks a =
    let c = blocks_packed 0 [] (allowed_good blocks a) in
    let e : read_blocks block_count 0 no_tally 0 (pack blocks) ≡ got blocks c.to [] = rw (append-nil (pack blocks), a.eighteen) at c.is in
    rw e

-- And no packed form of a series within the limits is longer.
pub longest_packed : (blocks : List (List Term)) → Allowed blocks → length (pack blocks) ≤ packed_limit
longest_packed blocks a = longest_series (pack blocks) blocks (pack_parse blocks a)

-- The bytes of an accepted series are the packed form of its blocks: no other bytes are accepted for them.
pub parse_pack : (x : List ℕ) (blocks : List (List Term)) → AllBytes x → parse x ≡ accepted blocks → x ≡ pack blocks
unfolding read_series
parse_pack x blocks b e = (blocks_begin block_count 0 no_tally 0 x blocks (length x) [] b (to_end x blocks e)).form ∙ append-nil (pack blocks)

-- 300 is AC 02.
pub three_hundred : encode 300 ≡ 172 ∷ 2 ∷ []
unfolding encode groups
three_hundred = refl

-- 80 00 is refused 10, at the offset of its last byte.
pub padded : parse (group ∷ 0 ∷ []) ≡ refused (NotShortest 1)
unfolding parse read_series read_blocks read_block number groups_from closed next ended
padded = refl

-- Nine bytes FF are refused 4, whatever follows them.
pub erased : (more : List ℕ) → parse (replicate 9 255 ++ more) ≡ refused (OverLimit 8)
unfolding parse read_series read_blocks read_block number groups_from closed next ended
erased more = refl

-- Eighteen zero bytes are accepted: eighteen empty blocks.
pub zeros : parse (replicate 18 0) ≡ accepted (replicate 18 [])
unfolding parse read_series read_blocks read_block number groups_from closed next ended judged count_fits read_terms after_block summed opened
zeros = refl
