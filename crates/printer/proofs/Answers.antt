-- What the printer answers, from what `unpack` and the loops over its table give. Assumes nothing.
use mathlib.Core.Path.{◌≡◌, refl, sym, ap, ◌∙◌}
use mathlib.Core.List.{List}
use Prim.Native.Nat.{ℕ, ◌+◌, ◌≤◌, ◌<◌}
use native.Mathlib.Omega.{arith}
use borrow.Author.Tests.{lt-leb, le-leb}
use lib.ListN.{length}
use Rattle.units.specs.declared.Refusal.{Refusal}
use Rattle.units.specs.declared.Refusal.TheVariants.{NoRoom}
use Rattle.limits.specs.declared.Term.{Term}
use Rattle.std.specs.Prelude.{Err, Ok}
use Rattle.units.specs.Units.{series_limit}
use Rattle.packed.specs.Series.{Parsed, accepted, refused, parse, checked}
use Rattle.limits.specs.Allowed.{term_count}
use Rattle.packed.specs.declared.table.Table.{Table}
use Rattle.packed.specs.Machine.Table.{ends, table_blocks, unpacked}
use Rattle.packed_promises.proofs.Theorems.{accepted_allowed}
use Rattle.printer.specs.Printer.{plain_text, text_fits, printed, printed_out}
use Rattle.printer.specs.Machine.Writing.{Wrote, Ordered}
use Rattle.printer.proofs.TableText.{ends_ordered}

-- The text fits, or not.
module _ (blocks : List (List Term)) (out : List ℕ) (n : ℕ) (e : n ≡ length (plain_text blocks)) where
  pub table_over : length out < n → (Err (NoRoom n) ≡ printed (accepted blocks) out) × (out ≡ printed_out (accepted blocks) out)
  unfolding printed printed_out text_fits
  table_over h = let f = lt-leb (length (plain_text blocks)) (length out) (rw e at h) in (rw (f, e), rw f)

  pub table_fits : (to : ℕ) (after : List ℕ) → n ≤ length out → Wrote (plain_text blocks) 0 out to after
      → (Ok n ≡ printed (accepted blocks) out) × (after ≡ printed_out (accepted blocks) out)
  unfolding printed printed_out text_fits
  table_fits to after h w = let f = le-leb (length (plain_text blocks)) (length out) (rw e at h) in (rw (f, e), rw f w.holds)

-- A refused series.
pub print_refused : (s out : List ℕ) (q : Refusal) → checked (parse s) ≡ Err q → (Err q ≡ printed (parse s) out) × (out ≡ printed_out (parse s) out)
unfolding checked printed printed_out
print_refused s out q e = go (parse s) e
  where
    go : (p : Parsed) → checked p ≡ Err q → (Err q ≡ printed p out) × (out ≡ printed_out p out)
    go (accepted blocks) e = let z : ◌≡◌ {A = ℕ} 0 1 = cc in absurd (omega arith)
    go (refused r) e = let p : r ≡ q = cc in (rw p, refl)

-- An accepted series, and its table.
pub record Opened (s : List ℕ) (rows : Table) : Type 0 where
  pub is : parse s ≡ accepted (table_blocks rows)
  pub ordered : Ordered 0 (ends rows)

pub opened : (s : List ℕ) (rows : Table) → ((q : Refusal) → checked (parse s) ≡ Err q → ⊥) → unpacked (parse s) rows → Opened s rows
unfolding checked unpacked
opened s rows n u = go (parse s) refl n u
  where
    go : (p : Parsed) → parse s ≡ p → ((q : Refusal) → checked p ≡ Err q → ⊥) → unpacked p rows → Opened s rows
    go (accepted blocks) f n h =
        record { is = f ∙ ap accepted (sym h.table); ordered = rw h.places (ends_ordered 0 blocks (plus (accepted_allowed s blocks f).few)) }
      where
        plus : term_count blocks ≤ series_limit → 0 + term_count blocks ≤ series_limit
        plus h = omega arith
    go (refused r) f n h = absurd (n r refl)
