-- What one byte does to both buffers: what is left to write gives what was left before. Assumes nothing.
use mathlib.Core.Path.{◌≡◌, refl, sym, ap, ap₂, subst, ◌∙◌}
use mathlib.Core.Bool.{Bool, true, false, cond}
use mathlib.Core.List.{List, [], ◌∷◌, ◌++◌, append-nil}
use Prim.Native.Nat.{ℕ, suc, ◌+◌, ◌-◌, ◌≤◌, ◌<◌}
use native.Mathlib.Nat.{add-zero}
use native.Mathlib.Numerals.{add-one}
use native.Mathlib.Omega.{arith}
use borrow.Author.Tests.{ne_eqb, eq-eqb}
use lib.ListN.{length, get_or, set, drop, length-append}
use lib.Seq.{sets, length-sets, slice, slice_empty, slice-cons}
use Rattle.buffers.proofs.Sets.{sets_append}
use Rattle.series_lines.specs.Grammar.{feed, space}
use Rattle.mending.specs.declared.writing.Writing.{Writing}
use Rattle.mending.specs.Rule.{tab, blank, stays, dropped, left, mended_from, drop_kind, space_kind, listed, changes_from, numbers}
use Rattle.mending.specs.Machine.Runs.{spared, spared_run, tab_changes, drops, Room, Wrote, run_bytes, run_numbers}
use Rattle.mending.specs.Machine.Passes.{bytes_left, numbers_left, plain_left, Ready, Rest, Copied, Came}
use Rattle.mending.proofs.Runs.{bytes_at_feed, changes_at_feed, bytes_at_other, changes_at_other, bytes_at_end, changes_at_end}
use Rattle.mending.proofs.Runs.{pending_more, pending_none, plain_none, plain_more, bytes_at_plain, numbers_append}

-- ---- numbers that are written piece by piece

pub rest_start : {xs start : List ℕ} {at : ℕ} → Rest xs at start xs at start
rest_start = record { count = refl; written = refl; same = refl }

pub rest_is : {xs start ys zs out : List ℕ} {at p : ℕ} → ys ≡ zs → Rest xs at start ys p out → Rest xs at start zs p out
rest_is {xs} {start} {out = out} {at} {p} e r = subst (λ (l : List ℕ). Rest xs at start l p out) e r

pub rest_more : {xs start ys zs out after : List ℕ} {at p to : ℕ} → Rest xs at start (ys ++ zs) p out → Wrote ys p out to after
    → Rest xs at start zs to after
rest_more {ys = ys} {zs} {out} {p = p} r w =
    record {
      count = omega (arith, r.count, w.end, length-append ys zs);
      written = ap₂ (λ (o : List ℕ) (i : ℕ). sets o i zs) w.holds w.end ∙ (sym (sets_append ys zs out p) ∙ r.written);
      same = ap length w.holds ∙ (length-sets out p ys ∙ r.same);
    }

pub rest_room : (ys zs : List ℕ) {xs start out : List ℕ} {at p : ℕ} → Rest xs at start (ys ++ zs) p out → Room xs at start → Room ys p out
rest_room ys zs r h = omega (arith, r.count, r.same, length-append ys zs)

pub rest_over : {xs start out : List ℕ} {at p : ℕ} → Rest xs at start [] p out → Wrote xs at start p out
rest_over {p = p} r = record { end = sym (add-zero p) ∙ r.count; holds = r.written }

pub rest_then : {xs start ys out zs after : List ℕ} {at p to : ℕ} → Rest xs at start ys p out → Rest ys p out zs to after → Rest xs at start zs to after
rest_then r s = record { count = s.count ∙ r.count; written = s.written ∙ r.written; same = s.same ∙ r.same }

pub wrote_one : (x at : ℕ) (out : List ℕ) → Wrote (x ∷ []) at out (at + 1) (set out at x)
wrote_one x at out = record { end = refl; holds = refl }

pub wrote_none : (at : ℕ) (out : List ℕ) → Wrote [] at out at out
wrote_none at out = record { end = sym (add-zero at); holds = refl }

pub wrote_two : (x y at : ℕ) (out : List ℕ) → Wrote (x ∷ y ∷ []) at out (at + 2) (set (set out at x) (at + 1) y)
wrote_two x y at out = record { end = refl; holds = rw (add-one at) }

-- ---- a blank that stays

module _ (byte offset : ℕ) where
  pub tab_byte : byte ≡ tab → left (spared byte) byte ≡ space ∷ []
  unfolding spared left
  tab_byte e = rw (eq-eqb byte tab e)

  pub tab_numbers : byte ≡ tab → numbers (listed offset (spared byte)) ≡ offset ∷ space_kind ∷ []
  unfolding spared listed numbers
  tab_numbers e = rw (eq-eqb byte tab e)

  pub kept_byte : (byte ≡ tab → ⊥) → left (spared byte) byte ≡ byte ∷ []
  unfolding spared left
  kept_byte f = rw (ne_eqb byte tab f)

  pub kept_numbers : (byte ≡ tab → ⊥) → numbers (listed offset (spared byte)) ≡ []
  unfolding spared listed numbers
  kept_numbers f = rw (ne_eqb byte tab f)

-- ---- a run

module _ (text : List ℕ) (i end : ℕ) (h : i < end) (k : end ≤ length text) where
  pub run_bytes_next : run_bytes text i end ≡ left (spared (get_or text i 0)) (get_or text i 0) ++ run_bytes text (i + 1) end
  unfolding spared_run
  run_bytes_next = rw (add-one i, slice-cons i end text 0 h k)

  pub run_numbers_next : run_numbers text i end ≡ numbers (listed i (spared (get_or text i 0))) ++ run_numbers text (i + 1) end
  unfolding tab_changes
  run_numbers_next =
      ap (λ (ws : List ℕ). numbers (tab_changes i ws)) (slice-cons i end text 0 h k)
      ∙ ap (λ (k : ℕ). numbers (listed i (spared (get_or text i 0)) ++ tab_changes (i + 1) (slice k end text))) (sym (add-one i))
      ∙ numbers_append (listed i (spared (get_or text i 0))) (tab_changes (i + 1) (slice (i + 1) end text))

pub run_bytes_none : (text : List ℕ) (i end : ℕ) → i ≡ end → run_bytes text i end ≡ []
unfolding spared_run
run_bytes_none text i end e = rw (e, slice_empty end text)

pub run_numbers_none : (text : List ℕ) (i end : ℕ) → i ≡ end → run_numbers text i end ≡ []
unfolding tab_changes numbers
run_numbers_none text i end e = rw (e, slice_empty end text)

pub drops_next : (i end : ℕ) → i < end → numbers (drops i (end - i)) ≡ (i ∷ drop_kind ∷ []) ++ numbers (drops (i + 1) (end - (i + 1)))
unfolding drops numbers
drops_next i end h = let e : end - i ≡ suc (end - (i + 1)) = omega arith in rw e

pub drops_none : (i end : ℕ) → end ≤ i → numbers (drops i (end - i)) ≡ []
unfolding drops numbers
drops_none i end h = let e : end - i ≡ 0 = omega arith in rw e

-- ---- bytes above a space

pub copied_none : (text : List ℕ) (i at : ℕ) (out : List ℕ) → i ≤ length text → Copied text i at out i at out
copied_none text i at out h = record { plain = plain_none text i h; bytes = rest_start }

module _ {text : List ℕ} {i at : ℕ} {out : List ℕ} {j p : ℕ} {after : List ℕ} (c : Copied text i at out j p after) where
  module _ (h : j < length text) (g : space < get_or text j 0) where
    next_left : Rest (plain_left text i) at out (get_or text j 0 ∷ plain_left text (j + 1)) p after
    next_left = rest_is (bytes_at_plain text j h g) c.bytes

    pub plain_room : Room (plain_left text i) at out → p < length after
    plain_room r = let m = next_left.count in let s = next_left.same in omega arith

    pub copied_more : Copied text i at out (j + 1) (p + 1) (set after p (get_or text j 0))
    copied_more = record {
      plain = plain_more text i j c.plain h g;
      bytes = rest_more {ys = get_or text j 0 ∷ []} next_left (wrote_one (get_or text j 0) p after);
    }

-- ---- a byte of the text

module _ (text : List ℕ) (w : Writing) (i : ℕ) (out list : List ℕ) (r : Ready text w i out list) (h : i < length text) where
  pub came_blank : blank (get_or text i 0) ≡ true → Came text w out list w (i + 1) out list
  came_blank b = record { run = pending_more text w.from i r.run h b; bytes = rest_start; changes = rest_start }

  module _ (b : blank (get_or text i 0) ≡ false) (f : get_or text i 0 ≡ feed → ⊥) where
    bytes_other : bytes_left text w ≡ run_bytes text w.from i ++ (get_or text i 0 ∷ mended_from true (drop (i + 1) text))
    bytes_other = bytes_at_other text w.from i r.run h f b w.begun

    numbers_other : numbers_left text w ≡ run_numbers text w.from i ++ numbers (changes_from true (i + 1) (drop (i + 1) text))
    numbers_other = ap numbers (changes_at_other text w.from i r.run h f b w.begun) ∙ numbers_append _ _

    pub run_room : Room (run_bytes text w.from i) w.place.at out
    run_room =
        rest_room (run_bytes text w.from i) (get_or text i 0 ∷ plain_left text (i + 1)) (rest_is bytes_other (rest_start {start = out})) r.room

    pub run_list_room : Room (run_numbers text w.from i) w.place.slot list
    run_list_room =
        rest_room (run_numbers text w.from i) (numbers (changes_from true (i + 1) (drop (i + 1) text)))
        (rest_is numbers_other (rest_start {start = list}))
        r.list_room

    module _ (at slot : ℕ) (out_then list_then : List ℕ) (bytes_run : Wrote (run_bytes text w.from i) w.place.at out at out_then)
        (list_run : Wrote (run_numbers text w.from i) w.place.slot list slot list_then) where
      bytes_then : Rest (bytes_left text w) w.place.at out (get_or text i 0 ∷ mended_from true (drop (i + 1) text)) at out_then
      bytes_then = rest_more (rest_is bytes_other rest_start) bytes_run

      pub byte_room : at < length out_then
      byte_room = let m = bytes_then.count in let s = bytes_then.same in omega (arith, r.room)

      pub came_other : Came text w out list (record { begun = true; from = i + 1; place = record { at = at + 1; slot = slot } }) (i + 1)
          (set out_then at (get_or text i 0)) list_then
      came_other = record {
        run = pending_none text (i + 1) (omega arith);
        bytes = rest_more {ys = get_or text i 0 ∷ []} bytes_then (wrote_one (get_or text i 0) at out_then);
        changes = rest_more (rest_is numbers_other rest_start) list_run;
      }

      -- The rest of a word, after its first byte.
      pub word_room : Room (plain_left text (i + 1)) (at + 1) (set out_then at (get_or text i 0))
      word_room = omega (arith, came_other.bytes.count, came_other.bytes.same, r.room)

      pub came_word : (next : ℕ) (after : List ℕ)
          → Copied text (i + 1) (at + 1) (set out_then at (get_or text i 0)) next (at + 1 + (next - (i + 1))) after
          → Came text w out list (record { begun = true; from = next; place = record { at = at + (next - i); slot = slot } }) next after list_then
      came_word next after c =
          let e : at + 1 + (next - (i + 1)) ≡ at + (next - i) = omega (arith, c.plain.onward) in
          record {
            run = pending_none text next c.plain.within;
            bytes = subst (λ (k : ℕ). Rest (bytes_left text w) w.place.at out (plain_left text next) k after) e (rest_then came_other.bytes c.bytes);
            changes = rest_is (ap numbers c.plain.changes) came_other.changes;
          }

  module _ (e : get_or text i 0 ≡ feed) where
    numbers_feed : (begun : Bool) → w.begun ≡ begun → numbers_left text w
        ≡ numbers (drops w.from (i - w.from)) ++ (numbers (listed i (cond begun stays dropped)) ++ numbers (changes_from false (i + 1) (drop (i + 1) text)))
    numbers_feed begun s =
        rw s
        (ap numbers (changes_at_feed text w.from i r.run h begun e) ∙ numbers_append (drops w.from (i - w.from)) _
        ∙ ap (λ (l : List ℕ). numbers (drops w.from (i - w.from)) ++ l) (numbers_append (listed i (cond begun stays dropped)) _))

    bytes_feed : (begun : Bool) → w.begun ≡ begun
        → bytes_left text w ≡ left (cond begun stays dropped) (get_or text i 0) ++ mended_from false (drop (i + 1) text)
    bytes_feed begun s = rw s (bytes_at_feed text w.from i r.run h begun e)

    pub drops_room : Room (numbers (drops w.from (i - w.from))) w.place.slot list
    drops_room =
        rest_room (numbers (drops w.from (i - w.from)))
        (numbers (listed i (cond w.begun stays dropped)) ++ numbers (changes_from false (i + 1) (drop (i + 1) text)))
        (rest_is (numbers_feed w.begun refl) (rest_start {start = list}))
        r.list_room

    pub feed_room : w.begun ≡ true → w.place.at < length out
    unfolding left
    feed_room s = omega (arith, r.room, ap length (bytes_feed true s))

    module _ (slot : ℕ) (list_then : List ℕ) (dropped_run : Wrote (numbers (drops w.from (i - w.from))) w.place.slot list slot list_then) where
      pub came_feed : w.begun ≡ true
          → Came text w out list (record { begun = false; from = i + 1; place = record { at = w.place.at + 1; slot = slot } }) (i + 1)
          (set out w.place.at (get_or text i 0)) list_then
      unfolding left listed numbers
      came_feed s = record {
        run = pending_none text (i + 1) (omega arith);
        bytes = rest_more {ys = get_or text i 0 ∷ []} (rest_is (bytes_feed true s) rest_start) (wrote_one (get_or text i 0) w.place.at out);
        changes = rest_more (rest_is (numbers_feed true s) rest_start) dropped_run;
      }

      list_left : w.begun ≡ false
          → Rest (numbers_left text w) w.place.slot list ((i ∷ drop_kind ∷ []) ++ numbers (changes_from false (i + 1) (drop (i + 1) text))) slot list_then
      unfolding listed numbers
      list_left s = rest_more (rest_is (numbers_feed false s) rest_start) dropped_run

      pub change_room : w.begun ≡ false → Room (i ∷ drop_kind ∷ []) slot list_then
      change_room s = rest_room (i ∷ drop_kind ∷ []) (numbers (changes_from false (i + 1) (drop (i + 1) text))) (list_left s) r.list_room

      pub came_blank_line : w.begun ≡ false → (slot_after : ℕ) (list_after : List ℕ) → Wrote (i ∷ drop_kind ∷ []) slot list_then slot_after list_after
          → Came text w out list (record { begun = false; from = i + 1; place = record { at = w.place.at; slot = slot_after } }) (i + 1) out list_after
      unfolding left
      came_blank_line s slot_after list_after change = record {
        run = pending_none text (i + 1) (omega arith);
        bytes = rest_is (bytes_feed false s) rest_start;
        changes = rest_more (list_left s) change;
      }

-- ---- the whole text

abbrev pub unwritten : Writing
unwritten = record { begun = false; from = 0; place = record { at = 0; slot = 0 } }

pub came_none : (text out list : List ℕ) → Came text unwritten out list unwritten 0 out list
came_none text out list = record { run = pending_none text 0 (omega arith); bytes = rest_start; changes = rest_start }

module _ {text : List ℕ} {w : Writing} {out list : List ℕ} {v : Writing} {i : ℕ} {out_then list_then : List ℕ}
    (c : Came text w out list v i out_then list_then) where
  pub came_ready : Room (bytes_left text w) w.place.at out → Room (numbers_left text w) w.place.slot list → Ready text v i out_then list_then
  came_ready a b = record {
    run = c.run;
    room = omega (arith, c.bytes.count, c.bytes.same);
    list_room = omega (arith, c.changes.count, c.changes.same);
  }

  pub came_further : {u : Writing} {j : ℕ} {out_after list_after : List ℕ} → Came text v out_then list_then u j out_after list_after
      → Came text w out list u j out_after list_after
  came_further d = record { run = d.run; bytes = rest_then c.bytes d.bytes; changes = rest_then c.changes d.changes }

  module _ (h : length text ≤ i) where
    pub end_bytes : bytes_left text v ≡ run_bytes text v.from i
    end_bytes = bytes_at_end text v.from i c.run h v.begun

    pub end_numbers : numbers_left text v ≡ run_numbers text v.from i
    end_numbers = ap numbers (changes_at_end text v.from i c.run h v.begun)

    pub end_room : Room (bytes_left text w) w.place.at out → Room (run_bytes text v.from i) v.place.at out_then
    end_room a = omega (arith, c.bytes.count, c.bytes.same, ap length end_bytes)

    pub end_list_room : Room (numbers_left text w) w.place.slot list → Room (run_numbers text v.from i) v.place.slot list_then
    end_list_room a = omega (arith, c.changes.count, c.changes.same, ap length end_numbers)

    pub end_out : {to : ℕ} {after : List ℕ} → Wrote (run_bytes text v.from i) v.place.at out_then to after → after ≡ sets out w.place.at (bytes_left text w)
    end_out p = (rest_over (rest_more (rest_is (end_bytes ∙ sym (append-nil _)) c.bytes) p)).holds

    pub end_list : {to : ℕ} {after : List ℕ} → Wrote (run_numbers text v.from i) v.place.slot list_then to after
        → after ≡ sets list w.place.slot (numbers_left text w)
    end_list p = (rest_over (rest_more (rest_is (end_numbers ∙ sym (append-nil _)) c.changes) p)).holds
