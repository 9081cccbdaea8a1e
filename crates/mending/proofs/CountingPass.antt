-- What one byte does to the counts. Assumes nothing.
use mathlib.Core.Path.{◌≡◌, ap, ◌∙◌}
use mathlib.Core.Bool.{Bool, true, false, cond}
use mathlib.Core.List.{List, ◌∷◌, ◌++◌}
use Prim.Native.Nat.{ℕ, ◌+◌, ◌-◌, ◌≤◌, ◌<◌}
use native.Mathlib.Omega.{arith}
use borrow.Author.Tests.{ne_eqb, eq-eqb}
use lib.ListN.{length, get_or, drop, length-append}
use lib.Seq.{slice, slice_empty, length-slice}
use Rattle.series_lines.specs.Grammar.{feed}
use Rattle.mending.specs.declared.counting.Counting.{Counting}
use Rattle.mending.specs.Rule.{tab, blank, stays, dropped, left, mended_from, mended, listed, changes_from, changes}
use Rattle.mending.specs.Machine.Runs.{spared, spared_run, tab_changes, drops}
use Rattle.mending.specs.Machine.Passes.{no_run, Counted, Plain}
use Rattle.mending.proofs.Runs.{bytes_at_feed, changes_at_feed, bytes_at_other, changes_at_other, bytes_at_end, changes_at_end}
use Rattle.mending.proofs.Runs.{pending_more, pending_none, plain_bytes, tabs_more, length_spared_run, length_drops}

no_tabs : (text : List ℕ) (i : ℕ) → 0 ≡ length (tab_changes i (slice i i text))
unfolding tab_changes
no_tabs text i = rw (slice_empty i text)

pub counted_none : (text : List ℕ) → Counted text (no_run false 0 0 0) 0
counted_none text = record {
  run = pending_none text 0 (omega arith);
  tabs_are = no_tabs text 0;
  few_tabs = omega arith;
  few_bytes = omega arith;
  few_changes = omega arith;
  all_bytes = omega arith;
  all_changes = omega arith;
}

one_tab : (i x : ℕ) → x ≡ tab → ◌≡◌ {A = ℕ} (length (listed i (spared x))) 1
unfolding spared listed
one_tab i x e = rw (eq-eqb x tab e)

not_tab : (i x : ℕ) → (x ≡ tab → ⊥) → ◌≡◌ {A = ℕ} (length (listed i (spared x))) 0
unfolding spared listed
not_tab i x f = rw (ne_eqb x tab f)

module _ (text : List ℕ) (c : Counting) (i : ℕ) (k : Counted text c i) (h : i < length text) where
  -- A blank is held back, and counted where it is a tab.
  held : (tabs : ℕ) → blank (get_or text i 0) ≡ true → tabs ≡ c.tabs + length (listed i (spared (get_or text i 0)))
      → length (listed i (spared (get_or text i 0))) ≤ 1
      → Counted text (record { begun = c.begun; from = c.from; tabs = tabs; length = c.length; changes = c.changes }) (i + 1)
  held tabs b e one = record {
    run = pending_more text c.from i k.run h b;
    tabs_are = omega (arith, k.tabs_are, tabs_more text c.from i k.run h);
    few_tabs = omega (arith, k.few_tabs, k.run.onward);
    few_bytes = k.few_bytes;
    few_changes = k.few_changes;
    all_bytes = k.all_bytes;
    all_changes = k.all_changes;
  }

  pub counted_tab : get_or text i 0 ≡ tab
      → Counted text (record { begun = c.begun; from = c.from; tabs = c.tabs + 1; length = c.length; changes = c.changes }) (i + 1)
  unfolding blank
  counted_tab e = let n = one_tab i (get_or text i 0) e in held (c.tabs + 1) (rw (eq-eqb _ tab e)) (omega (arith, n)) (omega (arith, n))

  pub counted_blank : blank (get_or text i 0) ≡ true → (get_or text i 0 ≡ tab → ⊥) → Counted text c (i + 1)
  counted_blank b f = let n = not_tab i (get_or text i 0) f in held c.tabs b (omega (arith, n)) (omega (arith, n))

  pub counted_other : blank (get_or text i 0) ≡ false → (get_or text i 0 ≡ feed → ⊥)
      → Counted text (no_run true (i + 1) (c.length + (i - c.from) + 1) (c.changes + c.tabs)) (i + 1)
  counted_other b f =
      let m = ap length (bytes_at_other text c.from i k.run h f b c.begun) in
      let n = ap length (changes_at_other text c.from i k.run h f b c.begun) in
      let ws = slice c.from i text in
      record {
        run = pending_none text (i + 1) (omega arith);
        tabs_are = no_tabs text (i + 1);
        few_tabs = omega arith;
        few_bytes = omega (arith, k.few_bytes, k.run.onward);
        few_changes = omega (arith, k.few_changes, k.few_tabs, k.run.onward);
        all_bytes =
            omega (
              arith,
              k.all_bytes,
              m,
              length-append (spared_run ws) (get_or text i 0 ∷ mended_from true (drop (i + 1) text)),
              length_spared_run ws,
              length-slice c.from i text k.run.within,
            );
        all_changes =
            omega (arith, k.all_changes, n, length-append (tab_changes c.from ws) (changes_from true (i + 1) (drop (i + 1) text)), k.tabs_are);
      }

  -- A line feed: the run before it goes, and so does the feed of a line where nothing stays.
  feed_bytes : (begun : Bool) → c.begun ≡ begun → get_or text i 0 ≡ feed
      → mended_from c.begun (drop c.from text) ≡ left (cond begun stays dropped) (get_or text i 0) ++ mended_from false (drop (i + 1) text)
  feed_bytes begun s e = rw s (bytes_at_feed text c.from i k.run h begun e)

  feed_changes : (begun : Bool) → c.begun ≡ begun → get_or text i 0 ≡ feed
      → length (changes_from c.begun c.from (drop c.from text))
      ≡ i - c.from + length (listed i (cond begun stays dropped) ++ changes_from false (i + 1) (drop (i + 1) text))
  feed_changes begun s e =
      rw s
      (ap length (changes_at_feed text c.from i k.run h begun e) ∙ length-append (drops c.from (i - c.from)) _
      ∙ rw (length_drops c.from (i - c.from)))

  pub counted_feed : get_or text i 0 ≡ feed → c.begun ≡ true
      → Counted text (no_run false (i + 1) (c.length + 1) (c.changes + (i - c.from))) (i + 1)
  unfolding left listed
  counted_feed e s =
      record {
        run = pending_none text (i + 1) (omega arith);
        tabs_are = no_tabs text (i + 1);
        few_tabs = omega arith;
        few_bytes = omega (arith, k.few_bytes, k.run.onward);
        few_changes = omega (arith, k.few_changes, k.run.onward);
        all_bytes = omega (arith, k.all_bytes, ap length (feed_bytes true s e));
        all_changes = omega (arith, k.all_changes, feed_changes true s e);
      }

  pub counted_blank_line : get_or text i 0 ≡ feed → c.begun ≡ false
      → Counted text (no_run false (i + 1) c.length (c.changes + (i - c.from) + 1)) (i + 1)
  unfolding left listed
  counted_blank_line e s =
      record {
        run = pending_none text (i + 1) (omega arith);
        tabs_are = no_tabs text (i + 1);
        few_tabs = omega arith;
        few_bytes = omega (arith, k.few_bytes, k.run.onward);
        few_changes = omega (arith, k.few_changes, k.run.onward);
        all_bytes = omega (arith, k.all_bytes, ap length (feed_bytes false s e));
        all_changes = omega (arith, k.all_changes, feed_changes false s e);
      }

-- ---- bytes above a space

-- The rest of a word, after its first byte at i.
pub counted_plain : (text : List ℕ) (i start bytes changes next : ℕ) → Counted text (no_run true (i + 1) (bytes + (i - start) + 1) changes) (i + 1)
    → start ≤ i → Plain text (i + 1) next → Counted text (no_run true next (bytes + (next - start)) changes) next
counted_plain text i start bytes changes next k s p =
    record {
      run = pending_none text next p.within;
      tabs_are = no_tabs text next;
      few_tabs = omega arith;
      few_bytes = omega (arith, k.few_bytes, p.onward);
      few_changes = omega (arith, k.few_changes, p.onward);
      all_bytes = omega (arith, k.all_bytes, p.onward, plain_bytes text (i + 1) next p);
      all_changes = omega (arith, k.all_changes, ap length p.changes);
    }

-- At the end of the text.
pub counted_all : (text : List ℕ) (c : Counting) (i : ℕ) → Counted text c i → length text ≤ i
    → (c.length + (i - c.from) ≡ length (mended text)) × (c.changes + c.tabs ≡ length (changes text))
counted_all text c i k h =
    let m = ap length (bytes_at_end text c.from i k.run h c.begun) in
    let n = ap length (changes_at_end text c.from i k.run h c.begun) in (
      omega (arith, k.all_bytes, m, length_spared_run (slice c.from i text), length-slice c.from i text k.run.within),
      omega (arith, k.all_changes, n, k.tabs_are),
    )
