-- The numbers of `runs` are maximal runs: in a run every minute is listed, outside none is. Assumes nothing.
use mathlib.Core.Path.{◌≡◌, refl, sym, subst}
use mathlib.Core.Bool.{Bool, true, false}
use mathlib.Core.List.{List, [], ◌∷◌, ◌++◌}
use Prim.Native.Nat.{ℕ, suc, ◌≤◌, ◌<◌}
use native.Mathlib.Omega.{arith}
use native.Mathlib.Decide.{ℕ_discrete}
use Rattle.runs.specs.Runs.{first_listed, run_ends, runs}

-- The numbers are runs of the minutes from `from` up to `end`: before a run no minute is listed, in it every minute is, and after it none is until the next.
pub data RunList (listed : ℕ → Bool) (end : ℕ) : ℕ → List ℕ → Type 0 where
  no_more : {from : ℕ} → ((j : ℕ) → from ≤ j → j < end → listed j ≡ false) → RunList listed end from []
  run : {from : ℕ} (first last : ℕ) {rest : List ℕ} → from ≤ first → first ≤ last → last < end
      → ((j : ℕ) → from ≤ j → j < first → listed j ≡ false)
      → ((j : ℕ) → first ≤ j → j ≤ last → listed j ≡ true)
      → (suc last < end → listed (suc last) ≡ false)
      → RunList listed end (suc last) rest → RunList listed end from (first ∷ last ∷ rest)

-- fs are the flags of the minutes from j up to end
unfoldable pub FlagsOf : (ℕ → Bool) → ℕ → ℕ → List Bool → Type 0
FlagsOf listed end j [] = j ≡ end
FlagsOf listed end j (f ∷ fs) = (listed j ≡ f) × FlagsOf listed end (suc j) fs

flags_end : (listed : ℕ → Bool) (end j : ℕ) (fs : List Bool) → FlagsOf listed end j fs → j ≤ end
unfolding FlagsOf
flags_end listed end j [] h = omega arith
flags_end listed end j (f ∷ fs) h = let k = flags_end listed end (suc j) fs h.1 in omega arith

-- a minute that begins a run gives one number more
begins : (j : ℕ) (after : Bool) → run_ends j false true after ≡ j ∷ run_ends j true true after
unfolding run_ends
begins j true = refl
begins j false = refl

module _ (listed : ℕ → Bool) (end : ℕ) where
  -- one minute more that is not listed, in front
  unlisted : (from : ℕ) → listed from ≡ false → (j : ℕ) → from ≤ j → ((suc from ≤ j) → listed j ≡ false) → listed j ≡ false
  unlisted from e j h k = go (ℕ_discrete from j)
    where
      go : Dec (from ≡ j) → listed j ≡ false
      go (yes p) = subst (λ (i : ℕ). listed i ≡ false) p e
      go (no f) = k (omega arith)

  widen : {from : ℕ} {xs : List ℕ} → listed from ≡ false → RunList listed end (suc from) xs → RunList listed end from xs
  widen {from} e (no_more h) = no_more (λ j a b. unlisted from e j a (λ c. h j c b))
  widen {from} e (run first last a b c out inside after rest) =
      let d : from ≤ first = omega arith in run first last d b c (λ j u v. unlisted from e j u (λ w. out j w v)) inside after rest

  -- a run that is open: s to p are listed, and the flags are those of the minutes after p
  record Open (from s p : ℕ) : Type 0 where
    start : from ≤ s
    some : s ≤ p
    out : (j : ℕ) → from ≤ j → j < s → listed j ≡ false
    inside : (j : ℕ) → s ≤ j → j ≤ p → listed j ≡ true

  -- it begins with one minute, and grows by the next
  opened : (p : ℕ) → listed p ≡ true → Open p p p
  opened p e =
      record {
        start = omega arith;
        some = omega arith;
        out = λ (j : ℕ) (a : p ≤ j) (b : j < p). absurd (omega arith);
        inside = λ j a b. subst (λ (i : ℕ). listed i ≡ true) (same j a b) e;
      }
    where
      same : (j : ℕ) → p ≤ j → j ≤ p → p ≡ j
      same j a b = omega arith

  longer : {from s p : ℕ} → Open from s p → listed (suc p) ≡ true → Open from s (suc p)
  longer {from} {s} {p} o e =
      record { start = o.start; some = let h = o.some in omega arith; out = o.out; inside = λ j a b. last j a b (ℕ_discrete j (suc p)) }
    where
      last : (j : ℕ) → s ≤ j → j ≤ suc p → Dec (j ≡ suc p) → listed j ≡ true
      last j a b (yes q) = subst (λ (i : ℕ). listed i ≡ true) (sym q) e
      last j a b (no f) = o.inside j a (omega arith)

  -- it is closed where the next minute is not listed
  shut : {from s p : ℕ} {xs : List ℕ} → Open from s p → p < end → (suc p < end → listed (suc p) ≡ false) → RunList listed end (suc p) xs
      → RunList listed end from (s ∷ p ∷ xs)
  shut {from} {s} {p} o l h r = run s p o.start o.some l o.out o.inside h r

  -- the runs after minute p, where p is not in one, and where a run is open there
  record Both (p : ℕ) (fs : List Bool) : Type 0 where
    apart : RunList listed end (suc p) (runs (suc p) false fs)
    joined : {from s : ℕ} → Open from s p → RunList listed end from (s ∷ run_ends p true true (first_listed fs) ++ runs (suc p) true fs)

  both : (p : ℕ) (fs : List Bool) → p < end → FlagsOf listed end (suc p) fs → Both p fs
  unfolding runs first_listed run_ends FlagsOf
  both p [] l h = record {
    apart = no_more (λ (j : ℕ) (a : suc p ≤ j) (b : j < end). absurd (omega arith));
    joined = λ o. shut o l (λ (b : suc p < end). absurd (omega arith)) (no_more (λ (j : ℕ) (a : suc p ≤ j) (b : j < end). absurd (omega arith)));
  }
  both p (false ∷ fs) l h =
      let k = flags_end listed end (suc (suc p)) fs h.1 in
      let r = widen h.0 (both (suc p) fs (omega arith) h.1).apart in
      record { apart = r; joined = λ o. shut o l (λ b. h.0) r }
  both p (true ∷ fs) l h =
      let k = flags_end listed end (suc (suc p)) fs h.1 in
      let b = both (suc p) fs (omega arith) h.1 in
      record {
        apart =
            subst (λ xs. RunList listed end (suc p) (xs ++ runs (suc (suc p)) true fs)) (sym (begins (suc p) (first_listed fs)))
            (b.joined (opened (suc p) h.0));
        joined = λ o. b.joined (longer o h.0);
      }

  -- the numbers of a window, from minute 0
  pub runs_are : (fs : List Bool) → FlagsOf listed end 0 fs → RunList listed end 0 (runs 0 false fs)
  unfolding runs first_listed run_ends FlagsOf
  runs_are [] h = no_more (λ (j : ℕ) (a : 0 ≤ j) (b : j < end). absurd (omega arith))
  runs_are (false ∷ fs) h = let k = flags_end listed end 1 fs h.1 in widen h.0 (both 0 fs (omega arith) h.1).apart
  runs_are (true ∷ fs) h =
      let k = flags_end listed end 1 fs h.1 in
      subst (λ xs. RunList listed end 0 (xs ++ runs 1 true fs)) (sym (begins 0 (first_listed fs)))
      ((both 0 fs (omega arith) h.1).joined (opened 0 h.0))
