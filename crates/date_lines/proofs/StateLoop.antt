-- The loop over a piece of the input, from a state, that writes into a lent slice: what is left of the piece gives what the whole gives. Assumes nothing.
use Rattle.std.proofs.Common.{◌≡◌, refl, sym, ◌∙◌, ℕ, ◌+◌, ◌*◌, ◌≤◌, ◌<◌, List, [], ◌∷◌, length, length-append, arith}
use native.Mathlib.Numerals.{add-one}
use lib.ListN.{get_or, drop, drop_of_length-le, length-drop}
use lib.Seq.{sets, length-sets, drop-cons}
use Rattle.buffers.proofs.Sets.{sets_append}
use Rattle.std.specs.Prelude.{Bool, true, false, cond, eqb, Ok, Err}
use Rattle.decimals.specs.Texts.{line_feed}
use Rattle.date_lines.specs.Lines.{numbers}
use Rattle.date_lines.specs.Replies.{reply_limit}
use Rattle.date_lines.specs.States.{fault_empty, fault_named, state_reading, state_reply, reading_unless_empty}
use Rattle.date_lines.specs.States.{state_after, state_said, state_line_after, state_replies}
use Rattle.date_lines.specs.declared.states.State.{State}
use Rattle.date_lines.specs.declared.states.Reading.{Reading}
use Rattle.date_lines.specs.declared.states.Reading.TheVariants.{Three, Bad}
use Rattle.date_lines.proofs.WrittenReplies.{reply_length}

-- No reply has more than 40 bytes.
reading_length : (w : Reading) → length (state_reply w) ≤ reply_limit
unfolding state_reply
reading_length (Three y m d) = reply_length (Ok (numbers y m d))
reading_length (Bad f) = reply_length (Err (fault_named f))

pub state_said_length : (s : State) (b : ℕ) → length (state_said s b) ≤ reply_limit
unfolding state_said
state_said_length s b = go (eqb b line_feed)
  where
    go : (e : Bool) → length (cond e (state_reply (state_reading s)) []) ≤ reply_limit
    go true = reading_length (state_reading s)
    go false = omega arith

pub said_length : (w : Reading) (xs : List ℕ) → xs ≡ state_reply w → length xs ≤ reply_limit
said_length w xs e = rw e (reading_length w)

pub last_length : (w : Reading) (xs : List ℕ) → xs ≡ reading_unless_empty w → length xs ≤ reply_limit
last_length w xs e = rw e (of w)
  where
    go : (e : Bool) (f : ℕ) → length (cond e [] (state_reply (Bad f))) ≤ reply_limit
    go true f = omega arith
    go false f = reading_length (Bad f)

    of : (w : Reading) → length (reading_unless_empty w) ≤ reply_limit
    of (Three y m d) = reading_length (Three y m d)
    of (Bad f) = go (eqb f fault_empty) f

-- What is written and what is left to write.
pub record Left (start : State) (first piece out : List ℕ) (line : State) (at : ℕ) (rest : List ℕ) : Type 0 where
  pub same : length out ≡ length first
  pub room : at + reply_limit * length rest ≤ length first
  pub line_is : state_line_after line rest ≡ state_line_after start piece
  pub count : at + length (state_replies line rest) ≡ length (state_replies start piece)
  pub holds : sets out at (state_replies line rest) ≡ sets first 0 (state_replies start piece)

pub left_start : (start : State) (first piece : List ℕ) → reply_limit * length piece ≤ length first
    → Left start first piece first start 0 piece
left_start start first piece h = record { same = refl; room = omega arith; line_is = refl; count = omega arith; holds = refl }

module _ (start : State) (first piece out : List ℕ) (line : State) (at i : ℕ)
    (l : Left start first piece out line at (drop i piece)) where
  pub left_room : i < length piece → at + reply_limit ≤ length out
  left_room h = omega (arith, l.room, l.same, length-drop i piece)

  pub left_more : (t : State) (r : ℕ) (new : List ℕ) → i < length piece → t ≡ state_after line (get_or piece i 0)
      → r ≡ at + length (state_said line (get_or piece i 0)) → new ≡ sets out at (state_said line (get_or piece i 0))
      → Left start first piece new t r (drop (i + 1) piece)
  unfolding state_line_after state_replies
  left_more t r new h e f g =
      let b : ℕ = get_or piece i 0 in
      let rest : List ℕ = drop (i + 1) piece in
      let d : drop i piece ≡ b ∷ rest = rw add-one (drop-cons piece i 0 h) in
      let now : Left start first piece out line at (b ∷ rest) = rw d at l in
      rw (e, f, g)
      (record {
        same = length-sets out at (state_said line b) ∙ now.same;
        room = omega (arith, now.room, state_said_length line b);
        line_is = now.line_is;
        count = omega (arith, now.count, length-append (state_said line b) (state_replies (state_after line b) rest));
        holds = sym (sets_append (state_said line b) (state_replies (state_after line b) rest) out at) ∙ now.holds;
      })

  pub left_end : length piece ≤ i
      → (line ≡ state_line_after start piece) × (at ≡ length (state_replies start piece)) × (out ≡ sets first 0 (state_replies start piece))
  unfolding state_line_after state_replies
  left_end h =
      let now : Left start first piece out line at [] = rw (drop_of_length-le piece h) at l in
      (now.line_is, omega (arith, now.count), now.holds)
