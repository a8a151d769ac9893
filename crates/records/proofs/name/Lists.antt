-- Lists of names: what is among them, and lists in which no name stands twice.
use Prim.Native.Nat.{ℕ, zero, suc, ◌<◌}
use mathlib.Core.Path.{◌≡◌}
use mathlib.Core.List.{List, [], ◌∷◌, ◌++◌}
use mathlib.Core.Bool.{true, false}
use native.Mathlib.Omega.{arith}
use lib.ListN.{length, get_or}
use Rattle.records.specs.Bytes.{same_bytes}
use Rattle.records.specs.Name.{mem_name}
use Rattle.records.proofs.Logic.{clash, by, true≠false, or_cases, or_left, or_right, neither_left, neither_right}
use Rattle.records.proofs.bytes.Laws.{same-eq, same_refl}

-- a name that is among these and one that is not differ
pub not_same : (l : List (List ℕ)) (m n : List ℕ) → mem_name m l ≡ false → mem_name n l ≡ true → same_bytes m n ≡ false
not_same l m n e h =
    by (same_bytes m n) (λ q. let w : mem_name m l ≡ true = rw (same-eq m n q) h in true≠false w e) (λ q. q)

pub mem-left : (n : List ℕ) (a b : List (List ℕ)) → mem_name n a ≡ true → mem_name n (a ++ b) ≡ true
unfolding mem_name
mem-left n [] b e = clash (cc)
mem-left n (m ∷ a) b e =
    or_cases (same_bytes m n) (mem_name n a) e (or_left (same_bytes m n) (mem_name n (a ++ b))) (λ h. or_right (same_bytes m n) (mem_name n (a ++ b)) (mem-left n a b h))

pub mem-last : (n : List ℕ) (a : List (List ℕ)) → mem_name n (a ++ (n ∷ [])) ≡ true
unfolding mem_name
mem-last n [] = rw (same_refl n)
mem-last n (m ∷ a) = or_right (same_bytes m n) (mem_name n (a ++ (n ∷ []))) (mem-last n a)

pub mem-not-last : (n : List ℕ) (a : List (List ℕ)) (m : List ℕ) → mem_name n a ≡ false → same_bytes m n ≡ false → mem_name n (a ++ (m ∷ [])) ≡ false
unfolding mem_name
mem-not-last n [] m e h = rw h
mem-not-last n (x ∷ a) m e h = rw (neither_left (same_bytes x n) (mem_name n a) e) (mem-not-last n a m (neither_right (same_bytes x n) (mem_name n a) e) h)

same-turned : (m n : List ℕ) → same_bytes n m ≡ false → same_bytes m n ≡ false
same-turned m n e = by (same_bytes m n) (λ q. let w : same_bytes n m ≡ true = rw (same-eq m n q) (same_refl n) in true≠false w e) (λ q. q)

-- one of these names differs from a name that is not among them
pub differs : (m : List ℕ) (l : List (List ℕ)) (k : ℕ) (d : List ℕ) → mem_name m l ≡ false → k < length l → same_bytes m (get_or l k d) ≡ false
unfolding mem_name
differs m [] k d e h = absurd (omega arith)
differs m (x ∷ l) zero d e h = same-turned m x (neither_left (same_bytes x m) (mem_name m l) e)
differs m (x ∷ l) (suc k) d e h = differs m l k d (neither_right (same_bytes x m) (mem_name m l) e) (omega (arith, h))
