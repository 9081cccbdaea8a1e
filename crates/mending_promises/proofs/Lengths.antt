-- A mended text is no longer than the text, and there is at most one change for each of its bytes. Assumes nothing.
use mathlib.Core.Bool.{Bool}
use mathlib.Core.List.{List, [], ◌∷◌}
use Prim.Native.Nat.{ℕ, ◌+◌, ◌≤◌}
use native.Mathlib.Omega.{arith}
use lib.ListN.{length, length-append}
use Rattle.mending.specs.Rule.{Fate, stays, dropped, spaced, fate, begun_after, left, mended_from, mended, listed, changes_from, changes}

one_byte : (f : Fate) (byte : ℕ) → length (left f byte) ≤ 1
unfolding left
one_byte stays byte = omega arith
one_byte dropped byte = omega arith
one_byte spaced byte = omega arith

one_change : (at : ℕ) (f : Fate) → length (listed at f) ≤ 1
unfolding listed
one_change at stays = omega arith
one_change at dropped = omega arith
one_change at spaced = omega arith

from_shorter : (text : List ℕ) (begun : Bool) → length (mended_from begun text) ≤ length text
unfolding mended_from
from_shorter [] begun = omega arith
from_shorter (byte ∷ after) begun =
    let f = fate begun byte after in
    let m = mended_from (begun_after begun byte after) after in
    omega (arith, length-append (left f byte) m, one_byte f byte, from_shorter after (begun_after begun byte after))

from_few : (text : List ℕ) (begun : Bool) (at : ℕ) → length (changes_from begun at text) ≤ length text
unfolding changes_from
from_few [] begun at = omega arith
from_few (byte ∷ after) begun at =
    let f = fate begun byte after in
    let m = changes_from (begun_after begun byte after) (at + 1) after in
    omega (arith, length-append (listed at f) m, one_change at f, from_few after (begun_after begun byte after) (at + 1))

pub shorter : (text : List ℕ) → length (mended text) ≤ length text
shorter text = from_shorter text _

pub few : (text : List ℕ) → length (changes text) ≤ length text
few text = from_few text _ 0
