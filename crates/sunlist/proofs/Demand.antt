-- Demand 3: whatever two byte strings, window and keep-out the list is answered for, and whatever the output held before, the numbers written are
-- what the demand asks. Assumes nothing.
use mathlib.Core.Path.{◌≡◌, sym, ap, ◌∙◌, subst}
use mathlib.Core.Bool.{Bool, true}
use mathlib.Core.List.{List}
use Prim.Native.Nat.{ℕ, suc, ◌+◌, ◌*◌, ◌≤◌, ◌<◌}
use native.Mathlib.Omega.{arith}
use lib.IntN.{ℤ, nat_abs}
use lib.ListN.{length, get_or, drop, get_or-append}
use lib.Seq.{sets, sets-eq, length-sets}
use Rattle.units.specs.Units.{t_limit}
use Rattle.units.specs.declared.Instant.{Instant}
use Rattle.units.specs.declared.Coordinates.{Coordinates}
use Rattle.limits.specs.Wide.{reaches}
use Rattle.limits.proofs.Reach.{each_asked}
use Rattle.series.specs.Sums.{coordinates}
use Rattle.separation.specs.Listed.{listed}
use Rattle.separation.specs.Machine.Near.{NearCoordinates}
use Rattle.separation.proofs.Core.{within_is_listed, listed_is_within}
use Rattle.runs.specs.Runs.{run_numbers}
use Rattle.runs.proofs.Runs.{FlagsOf, runs_are}
use Rattle.runs.proofs.Maximal.{RunsOf, runs_of}
use Rattle.std.specs.Prelude.{Ok}
use Rattle.sunlist.specs.SunList.{minute, good, flag_of, decision_at, window_flags, sun_list, sun_list_out}
use Rattle.sunlist.specs.Demand.{exact_coordinates, first_minute, last_minute, InRun, Demand3}
use Rattle.sunlist.proofs.Failing.{all_pass}
use Rattle.sunlist.proofs.Limits.{Fits, fits_is, minute_in}
use Rattle.sunlist.proofs.Answered.{list_of, Answered, answered_is}
use Rattle.sunlist.proofs.Minutes.{good_usable, good_flag, flags_are}
use Rattle.sunlist.proofs.Near.{near}

-- A number that was written is read back.
written_at : (xs out : List ℕ) (i : ℕ) → length xs ≤ length out → i < length xs → get_or (sets out 0 xs) i 0 ≡ get_or xs i 0
written_at xs out i h l = ap (λ (s : List ℕ). get_or s i 0) (sets-eq xs out 0 (omega arith)) ∙ get_or-append xs (drop (0 + length xs) out) 0 i l

zero_plus : (j : ℕ) → 0 + j ≡ j
zero_plus j = omega arith

module _ (planet_bytes earth_bytes : List ℕ) (t0 : Instant) (minutes keep_out : ℤ) (out : List ℕ) (count : ℕ)
    (a : Answered planet_bytes earth_bytes t0 minutes keep_out out count) where
  abbrev n : ℕ
  n = nat_abs minutes

  abbrev k : ℕ
  k = nat_abs keep_out

  abbrev planet_at : ℕ → Coordinates
  planet_at j = coordinates (minute t0 j).ms a.planet

  abbrev earth_at : ℕ → Coordinates
  earth_at j = coordinates (minute t0 j).ms a.earth

  abbrev listed_at : ℕ → Bool
  listed_at j = listed k (planet_at j) (earth_at j)

  good_at : (j : ℕ) → j < n → good (decision_at a.planet a.earth t0 k j) ≡ true
  good_at j l = all_pass _ n a.usable j l

  abbrev xs : List ℕ
  xs = list_of a.planet a.earth t0 n k

  list : (r : ℕ) × RunsOf listed_at n r xs
  unfolding decision_at run_numbers
  list = runs_of listed_at n (runs_are listed_at n (window_flags (decision_at a.planet a.earth t0 k) 0 n)
      (subst (λ (e : ℕ). FlagsOf listed_at e 0 (window_flags (decision_at a.planet a.earth t0 k) 0 n)) (zero_plus n)
      (flags_are (decision_at a.planet a.earth t0 k) listed_at 0 n
      (λ j l. subst (λ (i : ℕ). flag_of (decision_at a.planet a.earth t0 k i) ≡ listed_at i) (sym (zero_plus j))
      (good_flag k (planet_at j) (earth_at j) (good_at j l))))))

  -- The numbers written are those of the list.
  run_read : (i : ℕ) → i < list.0 → (first_minute (sets out 0 xs) i ≡ first_minute xs i) × (last_minute (sets out 0 xs) i ≡ last_minute xs i)
  run_read i l = let c = list.1.count in
      (written_at xs out (2 * i) a.fits (omega arith), written_at xs out (2 * i + 1) a.fits (omega arith))

  read : (i j : ℕ) → i < list.0 → InRun (sets out 0 xs) i j → InRun xs i j
  read i j l h = let r = run_read i l in (subst (λ (m : ℕ). m ≤ j) r.0 h.0, subst (λ (m : ℕ). j ≤ m) r.1 h.1)

  put : (i j : ℕ) → i < list.0 → InRun xs i j → InRun (sets out 0 xs) i j
  put i j l h = let r = run_read i l in (subst (λ (m : ℕ). m ≤ j) (sym r.0) h.0, subst (λ (m : ℕ). j ≤ m) (sym r.1) h.1)

  found : (j : ℕ) → j < n → listed_at j ≡ true → (i : ℕ) × (i < list.0) × InRun (sets out 0 xs) i j
  found j l e = let w = list.1.every j l e in (w.0, w.1, put w.0 j w.1 w.2)

  held : (j i : ℕ) → i < list.0 → InRun (sets out 0 xs) i j → listed_at j ≡ true
  held j i l h = list.1.only i j l (read i j l h)

  below : (j i : ℕ) → i < list.0 → InRun (sets out 0 xs) i j → j < n
  below j i l h = let g = (read i j l h).1 in let w = (list.1.inside i l).1 in omega arith

  fits : Fits minutes keep_out
  fits = fits_is minutes keep_out a.window

  -- Every minute is within the limit of time and within reach of both series.
  in_time : (j : ℕ) → j < n → nat_abs (minute t0 j).ms ≤ t_limit
  in_time j l = minute_in t_limit t0 n j a.first a.last l

  in_reach : (j : ℕ) → j < n → (reaches a.planet (minute t0 j).ms ≡ true) × (reaches a.earth (minute t0 j).ms ≡ true)
  in_reach j l = each_asked a.planet a.earth (minute t0 j).ms (all_pass _ n a.asked j l)

  planet_near : (j : ℕ) → j < n → NearCoordinates (planet_at j) (exact_coordinates (minute t0 j) a.planet)
  planet_near j l = near planet_bytes a.planet (minute t0 j) a.planet_series (in_time j l) (in_reach j l).0

  earth_near : (j : ℕ) → j < n → NearCoordinates (earth_at j) (exact_coordinates (minute t0 j) a.earth)
  earth_near j l = near earth_bytes a.earth (minute t0 j) a.earth_series (in_time j l) (in_reach j l).1

  demand : Demand3 planet_bytes earth_bytes t0 minutes keep_out count (sets out 0 xs)
  unfolding decision_at
  demand = record {
    planet = a.planet;
    earth = a.earth;
    planet_series = a.planet_series;
    earth_series = a.earth_series;
    n = n;
    k = k;
    window = fits.minutes_in.whole;
    angle = fits.keep_out_in.whole;
    runs = list.0;
    count_is = a.count_is ∙ list.1.count;
    room = rw (length-sets out 0 xs) (let f = a.fits in let c = a.count_is in omega arith);
    none_missing = λ j l w. found j l (within_is_listed (planet_at j) (earth_at j) _ _ (planet_near j l) (earth_near j l)
        (good_usable k (planet_at j) (earth_at j) (good_at j l)) k fits.keep_out_in.least fits.keep_out_in.most w);
    once = λ j i m l q h g. list.1.once i m j l q (read i j l h) (read m j q g);
    not_farther = λ j i l h. listed_is_within (planet_at j) (earth_at j) _ _ (planet_near j (below j i l h)) (earth_near j (below j i l h))
        (good_usable k (planet_at j) (earth_at j) (good_at j (below j i l h))) k fits.keep_out_in.least fits.keep_out_in.most (held j i l h);
    only_listed = held;
    all_listed = found;
    in_window = λ i l. let r = run_read i l in let w = list.1.inside i l in (rw (r.0, r.1) w.0, rw r.1 w.1);
    rising = λ i l. let w = list.1.rising i l in let r = run_read i (omega arith) in let s = run_read (suc i) l in rw (r.1, s.0) w;
  }

-- The theorem.
pub demand_3 : (planet earth : List ℕ) (t0 : Instant) (minutes keep_out : ℤ) (out : List ℕ) (count : ℕ)
    → sun_list planet earth t0 minutes keep_out (length out) ≡ Ok count
    → Demand3 planet earth t0 minutes keep_out count (sun_list_out planet earth t0 minutes keep_out out)
demand_3 planet earth t0 minutes keep_out out count e =
    let a = answered_is planet earth t0 minutes keep_out out count e in
    subst (λ (s : List ℕ). Demand3 planet earth t0 minutes keep_out count s) (sym a.holds) (demand planet earth t0 minutes keep_out out count a)
