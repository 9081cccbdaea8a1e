-- What the functions that write a reply leave in the buffer is the reply. Assumes nothing.
use Rattle.std.proofs.Common.{◌≡◌, refl, ◌∙◌, sym, ℕ, ◌≤◌, ◌<◌, ◌*◌, ◌+◌, cond, Bool, true, false, eqb, List, [], ◌∷◌, ◌++◌, length, length-append, arith, lit≤}
use mathlib.Core.List.{append_assoc}
use Rattle.std.proofs.lemmas.List.{append-nil}
use Rattle.std.specs.Prelude.{ℤ, Result, Ok, Err}
use native.Mathlib.Numerals.{add-one}
use lib.ListN.{get_or, drop, drop_of_length-le}
use lib.Seq.{drop-cons}
use Rattle.units.specs.declared.Refusal.{Refusal}
use Rattle.arith.specs.Naturals.{natural_or}
use Rattle.calendar.specs.Calendar.{day_of_date}
use Rattle.calendar.specs.declared.Date.{Date}
use Rattle.decimals.specs.Texts.{text, line_feed}
use Rattle.decimals.specs.Decimals.{most_digits, decimal}
use Rattle.decimals.proofs.Digits.{decimal_length}
use Rattle.date_lines.specs.Lines.{reading}
use Rattle.date_lines.specs.Replies.{refused, day_text, fault_words, fault_text, reply, after, said, line_after, replies, reply_limit}
use Rattle.date_lines.specs.declared.reader.Fault.{Fault}
use Rattle.date_lines.specs.declared.reader.Fault.TheVariants.{Empty, Byte, Space, Large, Few, Many}
use Rattle.date_lines.specs.declared.reader.Line.{Line}

-- ---- no reply has more than 40 bytes
day_length : (a : Result ℤ Refusal) → length (day_text a) ≤ reply_limit
unfolding text day_text refused
day_length (Ok n) = omega (arith, decimal_length most_digits (natural_or n 0), length-append (decimal most_digits (natural_or n 0)) (line_feed ∷ []))
day_length (Err r) = lit≤ tt

pub fault_length : (f : Fault) → length (fault_text f) ≤ reply_limit
unfolding text fault_text fault_words
fault_length Empty = lit≤ tt
fault_length Byte = lit≤ tt
fault_length Space = lit≤ tt
fault_length Large = lit≤ tt
fault_length Few = lit≤ tt
fault_length Many = lit≤ tt

pub reply_length : (w : Result Date Fault) → length (reply w) ≤ reply_limit
unfolding reply
reply_length (Ok d) = day_length (day_of_date d.year d.month d.day)
reply_length (Err f) = fault_length f

said_length : (s : Result Line Fault) (b : ℕ) → length (said s b) ≤ reply_limit
unfolding said
said_length s b = go (eqb b line_feed)
  where
    go : (e : Bool) → length (cond e (reply (reading s)) []) ≤ reply_limit
    go true = reply_length (reading s)
    go false = omega arith

-- ---- a piece: what stands and what is left to say are all
pub record Left (start : Result Line Fault) (first piece out : List ℕ) (line : Result Line Fault) (rest : List ℕ) : Type 0 where
  pub room : length out + reply_limit * length rest ≤ length first + reply_limit * length piece
  pub line_is : line_after line rest ≡ line_after start piece
  pub holds : out ++ replies line rest ≡ first ++ replies start piece

pub left_start : (start : Result Line Fault) (first piece : List ℕ) → Left start first piece first start piece
left_start start first piece = record { room = omega arith; line_is = refl; holds = refl }

module _ (start : Result Line Fault) (first piece out : List ℕ) (line : Result Line Fault) (i : ℕ) (l : Left start first piece out line (drop i piece)) where
  pub left_more : (new : List ℕ) (t : Result Line Fault) → i < length piece → t ≡ after line (get_or piece i 0)
      → new ≡ out ++ said line (get_or piece i 0) → Left start first piece new t (drop (i + 1) piece)
  unfolding line_after replies
  left_more new t h e f =
      let b : ℕ = get_or piece i 0 in
      let rest : List ℕ = drop (i + 1) piece in
      let d : drop i piece ≡ b ∷ rest = rw add-one (drop-cons piece i 0 h) in
      let now : Left start first piece out line (b ∷ rest) = rw d at l in
      rw (e, f)
      (record {
        room = omega (arith, now.room, said_length line b, length-append out (said line b));
        line_is = now.line_is;
        holds = append_assoc out (said line b) (replies (after line b) rest) ∙ now.holds;
      })

  pub left_line : length piece ≤ i → line ≡ line_after start piece
  unfolding line_after
  left_line h = rw (drop_of_length-le piece h) at l.line_is

  pub left_output : length piece ≤ i → out ≡ first ++ replies start piece
  unfolding replies
  left_output h =
      let e : out ++ [] ≡ first ++ replies start piece = rw (drop_of_length-le piece h) at l.holds in
      sym (append-nil out) ∙ e
