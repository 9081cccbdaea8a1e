-- Packed numbers (RULES, "Series, as text and packed" and "Refusals and what they leave"): how one is read, written, folded and unfolded.
use Rattle.std.specs.Prelude.{cond, List, [], ◌∷◌, ℕ, zero, suc, ◌+◌, ◌*◌, ◌/◌, ◌%◌, ◌-◌, ◌^◌, ◌<◌, leb, ltb, eqb, ℤ, pos, negsuc}
use Rattle.units.specs.declared.Refusal.{Refusal}
use Rattle.units.specs.declared.Refusal.TheVariants.{OverLimit, EndedEarly, NotShortest}

-- A group of seven bits has so many values. A byte is a group, and so much more where another group follows.
abbrev pub group : ℕ
group = 128

-- A number has at most so many groups.
abbrev pub group_limit : ℕ
group_limit = 9

-- Each is a byte.
abbrev pub AllBytes : List ℕ → Type 0
AllBytes [] = Unit {0}
AllBytes (b ∷ s) = (b < 256) × AllBytes s

-- What a reader answers: what it has read, the offset past it and the bytes from there; or a refusal.
pub data Read (A : Type 0) : Type 0 where
  got : A → ℕ → List ℕ → Read A
  bad : Refusal → Read A

-- Reads on, unless there was a refusal.
unfoldable pub next : {A B : Type 0} → Read A → (A → ℕ → List ℕ → Read B) → Read B
next (got x at s) f = f x at s
next (bad r) f = bad r

-- The last group b, at offset at, after k groups of value acc. A last group of 0 after another is not the shortest form.
unfoldable pub closed : ℕ → ℕ → ℕ → ℕ → List ℕ → Read ℕ
closed k acc at b s = cond (eqb b 0) (cond (eqb k 0) (got 0 (at + 1) s) (bad (NotShortest at))) (got (acc + b * group ^ k) (at + 1) s)

-- The number whose next byte, at offset at, is the list's first, after k groups of value acc. The refusals carry the
-- offset of the number's last byte, and where the input has ended its length, which at then is.
unfoldable pub groups_from : ℕ → ℕ → ℕ → List ℕ → Read ℕ
groups_from k acc at [] = bad (EndedEarly at)
groups_from k acc at (b ∷ s) =
    cond (ltb b group) (closed k acc at b s)
    (cond (leb (group_limit - 1) k) (bad (OverLimit at)) (groups_from (k + 1) (acc + (b - group) * group ^ k) (at + 1) s))

-- The number at offset at, which begins with the list's first byte.
unfoldable pub number : ℕ → List ℕ → Read ℕ
number at s = groups_from 0 0 at s

-- The shortest form of a number, in at most n groups; nine hold every number below 2^63, ten every number of 64 bits.
unfoldable pub groups : ℕ → ℕ → List ℕ
groups zero v = []
groups (suc n) v = cond (ltb v group) (v ∷ []) ((v % group + group) ∷ groups n (v / group))

-- The packed form of a number.
unfoldable pub encode : ℕ → List ℕ
encode v = groups 10 v

-- Whole numbers as naturals, by turns at and above zero and below it: 0, -1, 1, -2, 2 are 0, 1, 2, 3, 4.
unfoldable pub folded : ℤ → ℕ
folded (pos n) = 2 * n
folded (negsuc n) = 2 * n + 1

-- The whole number that was folded to v.
unfoldable pub unfolded : ℕ → ℤ
unfolded v = cond (eqb (v % 2) 0) (pos (v / 2)) (negsuc (v / 2))
