-- What the functions that write a run leave in the output is its line. Assumes nothing.
use mathlib.Core.Path.{◌≡◌, refl}
use mathlib.Core.List.{List, [], ◌∷◌, ◌++◌, append_assoc}
use Prim.Native.Nat.{ℕ, ◌+◌, ◌/◌, ◌%◌, ◌≤◌}
use native.Mathlib.Omega.{arith}
use lib.ListN.{length, length-append}
use Rattle.decimals.specs.Texts.{text}
use Rattle.decimals.specs.Decimals.{zero_digit, most_digits, decimal}
use Rattle.decimals.proofs.Digits.{decimal_length}
use Rattle.list_lines.specs.Lines.{day, hour, two_digits, clock_text, minutes_text, clocks_text, run_text, run_most}

pub two_put : (n : ℕ) (old mid new : List ℕ) → mid ≡ old ++ (zero_digit + n / 10) ∷ [] → new ≡ mid ++ (zero_digit + n % 10) ∷ []
    → new ≡ old ++ two_digits n
unfolding two_digits
two_put n old mid new p q = rw (q, p) (simp append_assoc)

pub clock_put : (m : ℕ) (old o1 o2 o3 : List ℕ) → o1 ≡ old ++ two_digits (m / hour) → o2 ≡ o1 ++ text ":" → o3 ≡ o2 ++ two_digits (m % hour)
    → o3 ≡ old ++ clock_text m
unfolding clock_text
clock_put m old o1 o2 o3 p q r = rw (r, q, p) (simp append_assoc)

four_put : (t u v w old o1 o2 o3 o4 : List ℕ) → o1 ≡ old ++ t → o2 ≡ o1 ++ u → o3 ≡ o2 ++ v → o4 ≡ o3 ++ w → o4 ≡ old ++ (t ++ (u ++ (v ++ w)))
four_put t u v w old o1 o2 o3 o4 p1 p2 p3 p4 = rw (p4, p3, p2, p1) (simp append_assoc)

pub minutes_put : (first last : ℕ) (old o1 o2 o3 o4 : List ℕ) → o1 ≡ old ++ decimal most_digits first → o2 ≡ o1 ++ text " to "
    → o3 ≡ o2 ++ decimal most_digits last → o4 ≡ o3 ++ text ", " → o4 ≡ old ++ minutes_text first last
unfolding minutes_text
minutes_put first last old o1 o2 o3 o4 p1 p2 p3 p4 =
    four_put (decimal most_digits first) (text " to ") (decimal most_digits last) (text ", ") old o1 o2 o3 o4 p1 p2 p3 p4

pub clocks_put : (start first last m n : ℕ) (old o1 o2 o3 o4 : List ℕ) → m ≡ (start + first) % day → n ≡ (start + last) % day
    → o1 ≡ old ++ clock_text m → o2 ≡ o1 ++ text " to " → o3 ≡ o2 ++ clock_text n → o4 ≡ o3 ++ text "\n" → o4 ≡ old ++ clocks_text start first last
unfolding clocks_text
clocks_put start first last m n old o1 o2 o3 o4 e f p1 p2 p3 p4 =
    four_put (clock_text ((start + first) % day)) (text " to ") (clock_text ((start + last) % day)) (text "\n") old o1 o2 o3 o4 (rw e at p1) p2
    (rw f at p3) p4

pub same_minute : (start j : ℕ) → (start % 1440 + j % 1440) % 1440 ≡ (start + j) % day
same_minute start j = omega arith

pub run_put : (start first last : ℕ) (old mid new : List ℕ) → mid ≡ old ++ minutes_text first last → new ≡ mid ++ clocks_text start first last
    → new ≡ old ++ run_text start first last
unfolding run_text
run_put start first last old mid new p q = rw (q, p) (simp append_assoc)

-- ---- lengths
pub clock_length : (m : ℕ) → length (clock_text m) ≡ 5
unfolding clock_text two_digits text
clock_length m = refl

pub two_length : (n : ℕ) → length (two_digits n) ≡ 2
unfolding two_digits
two_length n = refl

pub minutes_length : (first last : ℕ) → length (minutes_text first last) ≤ 46
unfolding minutes_text text
minutes_length first last =
    let d = decimal_length most_digits first in
    let e = decimal_length most_digits last in
    simp length-append (omega arith)

clocks_length : (start first last : ℕ) → length (clocks_text start first last) ≤ 15
unfolding clocks_text text
clocks_length start first last =
    let d = clock_length ((start + first) % day) in
    let e = clock_length ((start + last) % day) in
    simp length-append (omega arith)

pub run_length : (start first last : ℕ) → length (run_text start first last) ≤ run_most
unfolding run_text
run_length start first last =
    let d = minutes_length first last in
    let e = clocks_length start first last in
    simp length-append (omega arith)
