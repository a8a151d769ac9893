-- What the check of a set shows of a set that passes: its table, and that no module has the name ALL-UNNAMED.
use Prim.Native.Nat.{ℕ, ◌+◌, ◌≤◌}
use mathlib.Core.Path.{◌≡◌, refl, sym, ◌∙◌, ap}
use mathlib.Core.List.{List, [], ◌∷◌, ◌++◌, append-nil, append_assoc, flatten}
use mathlib.Core.Bool.{Bool, true, false, cond, ◌&&◌, not}
use native.Mathlib.Omega.{arith}
use lib.ListN.{length, length-append}
use Rattle.records.specs.Bytes.{same_bytes}
use Rattle.records.specs.Name.{all_unnamed}
use Rattle.records.specs.Record.{records, is_of}
use Rattle.records.specs.Set.{Passed, name_at, table_of, accepted, check_set, module_limit}
use Rattle.records.specs.declared.record.Kind.TheVariants.{Module}
use Rattle.records.specs.Set.{count_of, starts_in}
use Rattle.records.proofs.set.Steps.{Begins, begins, belongs, mains, enters, Here, name_of, Walk, end, on, Takes, takes, module_is, inner-no_module, main-no_module, place-no_module}
use Rattle.std.specs.Prelude.{Ok}

-- ---- a set that passes

-- a name that is not ALL-UNNAMED
unfoldable pub is_named : List ℕ → ℕ → Bool
is_named s at = not (same_bytes (name_at s at) all_unnamed)

-- the offsets of the MO among records that stand from `at` on
unfoldable pub starts_from : ℕ → List (List ℕ) → List ℕ
starts_from at [] = []
starts_from at (r ∷ rs) = cond (is_of Module r) (at ∷ starts_from (at + length r) rs) (starts_from (at + length r) rs)

-- none of these starts has the name ALL-UNNAMED
unfoldable pub are_named : List ℕ → List ℕ → Bool
are_named s [] = true
are_named s (a ∷ l) = is_named s a && are_named s l

record GoodFrom (s starts : List ℕ) (at : ℕ) (rs : List (List ℕ)) (last : List ℕ) : Type 0 where
  all : last ≡ starts ++ starts_from at rs
  few : length last ≤ module_limit
  used : at + length (flatten rs) ≡ length s
  named : are_named s (starts_from at rs) ≡ true

-- what one record adds, where it starts a module and where it does not
module _ (s starts : List ℕ) (at : ℕ) (r : List ℕ) (rs : List (List ℕ)) (last : List ℕ) where
  adds_none : is_of Module r ≡ false → GoodFrom s starts (at + length r) rs last → GoodFrom s starts at (r ∷ rs) last
  unfolding starts_from flatten are_named
  adds_none e g = record {
    all = rw e g.all;
    few = g.few;
    used = rw length-append (omega (arith, g.used));
    named = rw e g.named;
  }

  adds_one : is_of Module r ≡ true → is_named s at ≡ true → GoodFrom s (starts ++ (at ∷ [])) (at + length r) rs last → GoodFrom s starts at (r ∷ rs) last
  unfolding starts_from flatten are_named
  adds_one e w g = record {
    all = rw e (g.all ∙ append_assoc starts (at ∷ []) (starts_from (at + length r) rs));
    few = g.few;
    used = rw length-append (omega (arith, g.used));
    named = rw (e, w) g.named;
  }

is-named : {s : List ℕ} {at : ℕ} {r : List ℕ} {p : Passed} → Here s at r → Begins s p r → is_named s at ≡ true
unfolding is_named
is-named h b = rw (name_of h, b.named)

good-from : {s : List ℕ} {p q : Passed} {at : ℕ} {rs : List (List ℕ)} → Walk s p at rs q → length p.starts ≤ module_limit → GoodFrom s p.starts at rs q.starts
unfolding starts_from flatten are_named
good-from (end {p = p} {at = at} e) l = record { all = sym (append-nil p.starts); few = l; used = omega (arith, e); named = refl }
good-from (on {p = p} {at = at} {r = r} {q = q} {rs = rs} h (begins b) w) l =
    adds_one _ p.starts at r rs q.starts (module_is r b.kind) (is-named h b) (good-from w (rw length-append (omega (arith, b.few))))
good-from (on {p = p} {at = at} {r = r} {q = q} {rs = rs} h (belongs b) w) l = adds_none _ p.starts at r rs q.starts (inner-no_module r b.kind) (good-from w l)
good-from (on {p = p} {at = at} {r = r} {q = q} {rs = rs} h (mains b) w) l = adds_none _ p.starts at r rs q.starts (main-no_module r b.kind) (good-from w l)
good-from (on {p = p} {at = at} {r = r} {q = q} {rs = rs} h (enters b) w) l = adds_none _ p.starts at r rs q.starts (place-no_module r b.kind) (good-from w l)

-- the offsets of the modules of a set
unfoldable pub starts_of : List ℕ → List ℕ
starts_of s = starts_from 0 (records s)

-- what the check shows of a set that it takes
pub record Taken (s : List ℕ) (n : ℕ) (t : List ℕ) : Type 0 where
  pub short : length s ≤ 65535
  pub count : n ≡ length (starts_of s)
  pub few : n ≤ module_limit
  pub table : t ≡ table_of (starts_of s) (length s)
  pub used : length (flatten (records s)) ≡ length s
  pub named : are_named s (starts_of s) ≡ true

pub taken : (s : List ℕ) (n : ℕ) (t : List ℕ) → check_set s ≡ Ok (record { count = n; starts = t }) → Taken s n t
unfolding accepted starts_of
taken s n t e =
    let k : Takes s n t = takes s n t e in
    let g : GoodFrom s [] 0 (records s) k.last.starts = good-from k.walk (omega arith) in
    let a : Ok (length k.last.starts) ≡ Ok n = ap count_of k.is in
    let m : n ≡ length k.last.starts = cc in
    record {
      short = k.short;
      count = m ∙ ap length g.all;
      few = omega (arith, g.few);
      table = sym (ap starts_in k.is) ∙ ap (λ (l : List ℕ). table_of l (length s)) g.all;
      used = omega (arith, g.used);
      named = g.named;
    }
