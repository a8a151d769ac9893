-- What the check of a set and a request shows of the set.
use Prim.Native.Nat.{ℕ, ◌≤◌}
use mathlib.Core.Path.{◌≡◌, refl, sym, ap, ◌∙◌}
use mathlib.Core.Bool.{Bool, true, false, ◌||◌}
use mathlib.Core.List.{List}
use lib.Dec.{ltb}
use lib.ListN.{length}
use borrow.Author.Tests.{le-ltb}
use Rattle.records.specs.Request.{check_records, check_inputs, then_request}
use Rattle.records.specs.Set.{check_set, pick_checked}
use Rattle.records.specs.declared.error.Input.TheVariants as Input
use Rattle.records.specs.declared.error.ModuleError.{ModuleError}
use Rattle.records.specs.declared.error.ModuleError.TheVariants.{TooLarge}
use Rattle.records.specs.Request.{RecordsAnswer}
use Rattle.records.specs.Set.{SetAnswer, count_of, starts_in}
use Rattle.records.proofs.Logic.{clash}
use Rattle.records.specs.declared.set.Checked.{Checked}
use Rattle.std.specs.Prelude.{Ok, Err}

-- an answer with this count, and a refusal
pub answer-taken : (r : SetAnswer) (n : ℕ) → count_of r ≡ Ok n → r ≡ Ok (record { count = n; starts = starts_in r })
answer-taken (Ok c) n e = let q : c.count ≡ n = cc in ap {B = SetAnswer} (λ (m : ℕ). Ok (record { count = m; starts = c.starts })) q
answer-taken (Err x) n e = clash (cc)

pub answer-refused : (r : SetAnswer) (e : ModuleError) → count_of r ≡ Err e → r ≡ Err e
answer-refused (Ok c) e h = clash (cc)
answer-refused (Err x) e h = cc

-- both are taken: the set is, with the same table
pub inputs-taken : (s q : List ℕ) (n : ℕ) (r : SetAnswer) → r ≡ check_inputs s q → count_of r ≡ Ok n → check_set s ≡ Ok (record { count = n; starts = starts_in r })
unfolding check_inputs then_request
inputs-taken s q n r e a = long (ltb 65535 (length s) || ltb 65535 (length q)) e ∙ answer-taken r n a
  where
    no : {X : Type 0} (x : ModuleError) → r ≡ Err x → X
    no x k = let z : Err x ≡ Ok n = sym (ap count_of k) ∙ a in clash (cc)

    told : (x : SetAnswer) (y : RecordsAnswer) → r ≡ then_request x y → x ≡ r
    told (Err x) y k = sym k
    told (Ok x) (Ok u) k = sym k
    told (Ok x) (Err y) k = no y k

    long : (b : Bool) → r ≡ pick_checked b (Err (TooLarge 0)) (then_request (check_set s) (check_records Input.Request q)) → check_set s ≡ r
    long true k = no (TooLarge 0) k
    long false k = told (check_set s) (check_records Input.Request q) k

pub inputs-ok : (s q : List ℕ) (c : Checked) → Ok c ≡ check_inputs s q → check_set s ≡ Ok c
inputs-ok s q c e = inputs-taken s q c.count (Ok c) e refl

-- so the request is good, with any set that is taken
request-good : (s q : List ℕ) (n : ℕ) → count_of (check_inputs s q) ≡ Ok n → (ltb 65535 (length q) ≡ false) × (check_records Input.Request q ≡ Ok tt)
unfolding check_inputs then_request
request-good s q n h = long (ltb 65535 (length s)) (ltb 65535 (length q)) refl h
  where
    no : {X : Type 0} (x : ModuleError) → Err x ≡ Ok n → X
    no x k = clash (cc)

    told : (x : SetAnswer) (y : RecordsAnswer) → count_of (then_request x y) ≡ Ok n → y ≡ Ok tt
    told (Err x) y k = no x k
    told (Ok x) (Ok u) k = refl
    told (Ok x) (Err y) k = no y k

    long : (a b : Bool) → ltb 65535 (length q) ≡ b → count_of (pick_checked (a || b) (Err (TooLarge 0)) (then_request (check_set s) (check_records Input.Request q))) ≡ Ok n
        → (ltb 65535 (length q) ≡ false) × (check_records Input.Request q ≡ Ok tt)
    long true b e k = no (TooLarge 0) k
    long false true e k = no (TooLarge 0) k
    long false false e k = (e, told (check_set s) (check_records Input.Request q) k)

pub inputs-over : (s q : List ℕ) (n : ℕ) → count_of (check_inputs s q) ≡ Ok n → (v : List ℕ) (m : ℕ) (t : List ℕ) → length v ≤ 65535
    → check_set v ≡ Ok (record { count = m; starts = t }) → count_of (check_inputs v q) ≡ Ok m
unfolding check_inputs then_request
inputs-over s q n h v m t l e = let r = request-good s q n h in rw (le-ltb 65535 (length v) l, r.0, e, r.1)
