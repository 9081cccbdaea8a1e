-- The text of a table's terms and blocks, one after the other. Assumes nothing.
use mathlib.Core.Path.{◌≡◌, refl, sym, ap, ◌∙◌}
use mathlib.Core.List.{List, [], ◌∷◌, ◌++◌, map, append_assoc, append-nil}
use Prim.Native.Nat.{ℕ, zero, suc, ◌+◌, ◌*◌, ◌-◌, ◌≤◌, ◌<◌}
use native.Mathlib.Nat.{zero-add}
use native.Mathlib.Numerals.{add-one}
use native.Mathlib.Omega.{arith}
use lib.ListN.{length, get_or, drop, drop_of_length-le, length-append}
use lib.Seq.{drop-cons}
use Rattle.limits.specs.declared.Term.{Term}
use Rattle.units.specs.Units.{series_limit, block_count}
use Rattle.limits.specs.Allowed.{term_count}
use Rattle.packed.specs.declared.table.Table.{Table}
use Rattle.packed.specs.Machine.Table.{term_at, terms_at, blocks_at, ends, block_ends, table_blocks}
use Rattle.series_lines.specs.Grammar.{feed, term_bytes, lines_bytes, count_bytes, blocks_bytes}
use Rattle.printer.specs.Printer.{plain_count, plain_term, plain_block, plain_text}
use Rattle.printer.specs.Machine.Writing.{whole_text, line_text, lines_text, block_text, line_of, lines_of, block_of, Ordered, whole_most, line_most}
use Rattle.printer.proofs.PieceByPiece.{joined, total, length_joined, Left, left_split}

-- Lines and blocks, the first apart.
pub lines_cons : (t : Term) (ts : List Term) → lines_text (t ∷ ts) ≡ line_text t ++ lines_text ts
unfolding lines_text line_text lines_bytes
lines_cons t ts = sym (append_assoc (term_bytes (plain_term t)) (feed ∷ []) (lines_bytes (map plain_term ts)))

pub lines_none : lines_text [] ≡ []
unfolding lines_text lines_bytes
lines_none = refl

pub text_cons : (ts : List Term) (blocks : List (List Term)) → plain_text (ts ∷ blocks) ≡ block_text ts ++ plain_text blocks
unfolding plain_text block_text lines_text blocks_bytes plain_block
text_cons ts blocks =
    sym (append_assoc (count_bytes (plain_count (length ts))) (feed ∷ lines_bytes (map plain_term ts)) (blocks_bytes (map plain_block blocks)))

pub text_none : plain_text [] ≡ []
unfolding plain_text blocks_bytes
text_none = refl

-- The blocks from block k on, which starts at place from.
abbrev pub blocks_from : Table → ℕ → ℕ → List ℕ
blocks_from rows from k = plain_text (blocks_at rows from (drop k (ends rows)))

module _ (rows : Table) where
  length_terms : (k n : ℕ) → length (terms_at rows k n) ≡ n
  unfolding terms_at
  length_terms k zero = refl
  length_terms k (suc n) = ap suc (length_terms (k + 1) n)

  -- A block's text: count, line feed, lines.
  pub block_pieces : (from end : ℕ) → block_of rows from end ≡ joined (whole_text (end - from) ∷ (feed ∷ []) ∷ lines_of rows from end ∷ [])
  unfolding block_text count_bytes plain_count whole_text joined
  block_pieces from end = rw (length_terms from (end - from), append-nil (lines_of rows from end))

  pub block_length : (from end n m : ℕ) → n ≡ length (whole_text (end - from)) → m ≡ length (lines_of rows from end)
      → n + 1 + m ≡ length (block_of rows from end)
  unfolding total
  block_length from end n m en em =
      let p : List (List ℕ) = whole_text (end - from) ∷ (feed ∷ []) ∷ lines_of rows from end ∷ [] in
      omega (arith, ap length (block_pieces from end) ∙ length_joined p)

  -- The lines from place i on, the first apart.
  lines_more : (i end : ℕ) → i < end → lines_of rows i end ≡ line_of rows i ++ lines_of rows (i + 1) end
  unfolding terms_at
  lines_more i end h =
      let e : end - i ≡ suc (end - (i + 1)) = omega arith in
      rw e (lines_cons (term_at rows i) (terms_at rows (i + 1) (end - (i + 1))))

  pub lines_over : (i end : ℕ) → end ≤ i → lines_of rows i end ≡ []
  unfolding terms_at
  lines_over i end h = let e : end - i ≡ 0 = omega arith in rw e lines_none

  -- The blocks from block k on, the first apart, which ends at e.
  blocks_more : length (ends rows) ≡ block_count → (from k e : ℕ) → k < block_count → e ≡ get_or (ends rows) k 0
      → blocks_from rows from k ≡ block_of rows from e ++ blocks_from rows e (k + 1)
  unfolding blocks_at
  blocks_more z from k e h q =
      let b : k < length (ends rows) = rw z h in
      rw (add-one, drop-cons (ends rows) k 0 b, ← q) (text_cons _ _)

  pub blocks_over : length (ends rows) ≡ block_count → (from k : ℕ) → block_count ≤ k → blocks_from rows from k ≡ []
  unfolding blocks_at
  blocks_over z from k h = let b : length (ends rows) ≤ k = rw z h in rw (drop_of_length-le (ends rows) b) text_none

-- The places where blocks end are in order.
ordered_bound : (p : ℕ) (es : List ℕ) → Ordered p es → p ≤ series_limit
unfolding Ordered
ordered_bound p [] h = h
ordered_bound p (e ∷ es) h = omega (arith, h.0, ordered_bound e es h.1)

pub record Next (rows : Table) (p e k : ℕ) : Type 0 where
  pub after : p ≤ e
  pub within : e ≤ series_limit
  pub rest : Ordered e (drop (k + 1) (ends rows))

pub ordered_next : (rows : Table) → length (ends rows) ≡ block_count → (p k e : ℕ) → k < block_count → e ≡ get_or (ends rows) k 0
    → Ordered p (drop k (ends rows)) → Next rows p e k
unfolding Ordered
ordered_next rows z p k e h q o =
    let es = ends rows in
    let b : k < length es = rw z h in
    let w : (p ≤ get_or es k 0) × Ordered (get_or es k 0) (drop (suc k) es) = rw (drop-cons es k 0 b) at o in
    rw q (record { after = w.0; within = ordered_bound (get_or es k 0) (drop (suc k) es) w.1; rest = rw add-one w.1 })

pub ends_ordered : (p : ℕ) (blocks : List (List Term)) → p + term_count blocks ≤ series_limit → Ordered p (block_ends p blocks)
unfolding Ordered block_ends term_count
ends_ordered p [] h = omega arith
ends_ordered p (ts ∷ blocks) h = (omega arith, ends_ordered (p + length ts) blocks (omega arith))

-- What is left to write, with the next line or the next block apart.
module _ (rows : Table) {text start out : List ℕ} {ps : List (List ℕ)} {at p : ℕ} where
  pub line_left : (i end : ℕ) → Left text at start (lines_of rows i end ∷ ps) p out → i < end
      → Left text at start (line_of rows i ∷ lines_of rows (i + 1) end ∷ ps) p out
  line_left i end l h = left_split l (lines_more rows i end h)

  pub block_left : length (ends rows) ≡ block_count → (from k e : ℕ) → Left text at start (blocks_from rows from k ∷ ps) p out → k < block_count
      → e ≡ get_or (ends rows) k 0
      → Left text at start (block_of rows from e ∷ blocks_from rows e (k + 1) ∷ ps) p out
  block_left z from k e l h q = left_split l (blocks_more rows z from k e h q)

-- The loops. The lines' lengths: n is the length of the lines before place i.
pub record Measured (rows : Table) (from end n i : ℕ) : Type 0 where
  pub low : from ≤ i
  pub high : i ≤ end
  pub count : n + length (lines_of rows i end) ≡ length (lines_of rows from end)
  pub few : n ≤ line_most * (i - from)

-- The blocks' lengths: n is the length of the blocks before block k, which starts at place from.
pub record Totalled (rows : Table) (n from k : ℕ) : Type 0 where
  pub ordered : Ordered from (drop k (ends rows))
  pub high : k ≤ block_count
  pub count : n + length (blocks_from rows from k) ≡ length (plain_text (table_blocks rows))
  pub few : n ≤ line_most * from + (whole_most + 1) * k

module _ (rows : Table) where
  pub measured_none : (from end : ℕ) → from ≤ end → Measured rows from end 0 from
  measured_none from end h = record { low = omega arith; high = h; count = zero-add _; few = omega arith }

  pub measured_more : (from end n i m : ℕ) → Measured rows from end n i → i < end → m ≡ length (line_of rows i) → m ≤ line_most
      → Measured rows from end (n + m) (i + 1)
  measured_more from end n i m l h e b =
      let q = ap length (lines_more rows i end h) ∙ length-append (line_of rows i) (lines_of rows (i + 1) end) in
      record { low = omega (arith, l.low); high = omega arith; count = omega (arith, l.count, q, e); few = omega (arith, l.few, l.low, b) }

  pub measured_last : (from end n i : ℕ) → Measured rows from end n i → end ≤ i → (n ≡ length (lines_of rows from end)) × (n ≤ line_most * (end - from))
  measured_last from end n i l h =
      let q = ap length (lines_over rows i end h) in
      let e : i ≡ end = omega (arith, l.high) in
      (omega (arith, l.count, q), omega (arith, l.few, e))

  pub totalled_none : Ordered 0 (ends rows) → Totalled rows 0 0 0
  unfolding table_blocks
  totalled_none o = record { ordered = o; high = omega arith; count = zero-add _; few = omega arith }

  pub totalled_more : length (ends rows) ≡ block_count → (n from k e m : ℕ) → Totalled rows n from k → k < block_count → e ≡ get_or (ends rows) k 0
      → m ≡ length (block_of rows from e) → m ≤ line_most * (e - from) + (whole_most + 1) → Totalled rows (n + m) e (k + 1)
  totalled_more z n from k e m l h q c b =
      let w = ordered_next rows z from k e h q l.ordered in
      let s = ap length (blocks_more rows z from k e h q) ∙ length-append (block_of rows from e) (blocks_from rows e (k + 1)) in
      record { ordered = w.rest; high = omega arith; count = omega (arith, l.count, s, c); few = omega (arith, l.few, w.after, b) }

  pub totalled_last : length (ends rows) ≡ block_count → (n from k : ℕ) → Totalled rows n from k → block_count ≤ k → n ≡ length (plain_text (table_blocks rows))
  totalled_last z n from k l h = let s = ap length (blocks_over rows z from k h) in omega (arith, l.count, s)
