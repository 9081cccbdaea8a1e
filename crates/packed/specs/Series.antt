-- RULES, "Series, as text and packed" and "Refusals and what they leave": from bytes to 18 blocks of terms, or to a refusal. Each number is
-- judged as it comes, and a refusal has the offset of the number's last byte: 10, then 4, then 5 at a or 6 at c.
use Rattle.std.specs.Prelude.{Bool, cond, List, [], ◌∷◌, ◌++◌, ℕ, zero, suc, ◌+◌, ◌-◌, ℤ, length}
use Rattle.units.specs.declared.Refusal.{Refusal}
use Rattle.units.specs.declared.Refusal.TheVariants.{OverLimit, TotalOverLimit, TooCoarse, ByteAfterEnd}
use Rattle.packed_numbers.specs.Numbers.{Read, got, bad, next, number, encode, folded, unfolded}
use Rattle.units.specs.Units.{block_count}
use Rattle.limits.specs.declared.Term.{Term}
use Rattle.std.specs.Prelude.{Err, Ok, Result}
use Rattle.packed.specs.declared.Content.{Content}
use Rattle.limits.specs.declared.Tally.{Tally}
use Rattle.limits.specs.Allowed.{term_count}
use Rattle.limits.specs.Wide.{good_for_wide}
use Rattle.limits.specs.Limits.{no_tally, opened, added, after_block, factor, count_fits, a_fits, b_fits, c_fits, total_fits, coarse_fits}

-- A value that passes a test, or the refusal with the offset of the last byte before at.
unfoldable pub judged : {A : Type 0} → Bool → (ℕ → Refusal) → ℕ → Read A → Read A
judged fits refusal at r = cond fits r (bad (refusal (at - 1)))

-- The numbers of a term, in a block with factor f after the tally s: 4 and 5 at a, 4 at b, 4 and 6 at c.
unfoldable pub read_a : Tally → ℕ → List ℕ → Read ℤ
read_a s at bytes =
    next (number at bytes) (λ v to rest.
    judged (a_fits (unfolded v)) OverLimit to (judged (total_fits s (unfolded v)) TotalOverLimit to (got (unfolded v) to rest)))

unfoldable pub read_b : ℕ → List ℕ → Read ℕ
read_b at bytes = next (number at bytes) (λ v to rest. judged (b_fits v) OverLimit to (got v to rest))

unfoldable pub read_c : ℕ → Tally → ℤ → ℕ → ℕ → List ℕ → Read ℤ
read_c f s a b at bytes =
    next (number at bytes) (λ v to rest.
    judged (c_fits (unfolded v)) OverLimit to (judged (coarse_fits f s a b (unfolded v)) TooCoarse to (got (unfolded v) to rest)))

unfoldable pub read_term : ℕ → Tally → ℕ → List ℕ → Read Term
read_term f s at bytes =
    next (read_a s at bytes) (λ a at bytes.
    next (read_b at bytes) (λ b at bytes.
    next (read_c f s a b at bytes) (λ c at bytes. got (record { a = a; b = b; c = c }) at bytes)))

-- n terms, each judged with those before it.
unfoldable pub read_terms : ℕ → ℕ → Tally → ℕ → List ℕ → Read (List Term)
read_terms zero f s at bytes = got [] at bytes
read_terms (suc n) f s at bytes =
    next (read_term f s at bytes) (λ t at bytes.
    next (read_terms n f (added f s t) at bytes) (λ ts at bytes. got (t ∷ ts) at bytes))

-- Block k: a count, judged with the counts before it, then that many terms.
unfoldable pub read_block : ℕ → Tally → ℕ → List ℕ → Read (List Term)
read_block k s at bytes =
    next (number at bytes) (λ n to rest.
    judged (count_fits s n) OverLimit to (read_terms n (factor k) (opened k n s) to rest))

-- n blocks from block k.
unfoldable pub read_blocks : ℕ → ℕ → Tally → ℕ → List ℕ → Read (List (List Term))
read_blocks zero k s at bytes = got [] at bytes
read_blocks (suc n) k s at bytes =
    next (read_block k s at bytes) (λ ts at bytes.
    next (read_blocks n (k + 1) (after_block k s ts) at bytes) (λ blocks at bytes. got (ts ∷ blocks) at bytes))

unfoldable pub read_series : ℕ → List ℕ → Read (List (List Term))
read_series at bytes = read_blocks block_count 0 no_tally at bytes

-- A packed series is accepted with its blocks, or refused.
pub data Parsed : Type 0 where
  accepted : List (List Term) → Parsed
  refused : Refusal → Parsed

-- 9 at the first byte after block 18.
unfoldable pub ended : Read (List (List Term)) → Parsed
ended (got blocks at []) = accepted blocks
ended (got blocks at (b ∷ rest)) = refused (ByteAfterEnd at)
ended (bad r) = refused r

unfoldable pub parse : List ℕ → Parsed
parse bytes = ended (read_series 0 bytes)

-- What a check of a packed series answers.
unfoldable pub checked : Parsed → Result Content Refusal
checked (accepted blocks) = Ok (record { terms = term_count blocks; wide = good_for_wide blocks })
checked (refused r) = Err r

-- The packed form: the numbers in their order, a and c folded.
unfoldable pub pack_term : Term → List ℕ
pack_term t = encode (folded t.a) ++ encode t.b ++ encode (folded t.c)

unfoldable pub pack_terms : List Term → List ℕ
pack_terms [] = []
pack_terms (t ∷ ts) = pack_term t ++ pack_terms ts

unfoldable pub pack_block : List Term → List ℕ
pack_block ts = encode (length ts) ++ pack_terms ts

unfoldable pub pack : List (List Term) → List ℕ
pack [] = []
pack (ts ∷ blocks) = pack_block ts ++ pack blocks
