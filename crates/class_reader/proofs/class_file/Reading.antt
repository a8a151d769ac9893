-- What each return of the functions that read a class file shows.
use Prim.Native.Nat.{ℕ, ◌+◌, ◌≤◌, ◌<◌}
use mathlib.Core.Path.{◌≡◌, refl, sym, ◌∙◌}
use mathlib.Core.List.{List, []}
use mathlib.Core.Bool.{Bool, true, false, ◌&&◌, ◌||◌, or-true}
use native.Mathlib.Omega.{arith}
use lib.ListN.{length, take}
use lib.Seq.{length-take-le}
use lib.Dec.{ltb, leb, eqb}
use borrow.Author.Tests.{lt-ltb, le-ltb, le-leb, leb-true, ltb-true}
use Rattle.std.proofs.Common.{Result, Ok, Err}
use Rattle.records.specs.Bytes.{u16_at}
use Rattle.records.specs.Jar.{output_after}
use Rattle.records.specs.declared.error.ModuleError.TheVariants.{TooLarge, DescriptorParseError}
use Rattle.records.specs.Jar.{Written}
use Rattle.records.proofs.Logic.{and_left, and_right}
use Rattle.class_reader.specs.Pool.{pool_count, pool_end, pool_of}
use Rattle.class_reader.specs.Attribute.{nothing_seen, descriptor_items}
use Rattle.class_reader.specs.ClassFile.{head_good, is_module_info, fields_good, faults_behind, seen_behind, faults_from, lowest, items_from, items_of, then_faults, class_answer, ClassRead}
use Rattle.class_reader.specs.Reader.{ItemsRead, BehindRead, PoolRead}
use Rattle.class_reader.specs.Table.{Filled}
use Rattle.class_reader.specs.Walk.{module_size, walk_from, Readable}
use Rattle.class_reader.specs.declared.attribute.Walked.{Walked}
use Rattle.class_reader.specs.declared.pool.Fault.{Fault}
use Rattle.class_reader.proofs.attribute.Faults.{found-measured, found_readable}
use Rattle.class_reader.proofs.class_file.Lowest as Lowest

-- ---- behind the pool

module _ (f t : List ℕ) (at : ℕ) (b : Bool) (eb : b ≡ fields_good f t at) where
  pub behind-fields : (o : List ℕ) → b ≡ false → BehindRead f t at o o (Err (DescriptorParseError at))
  unfolding then_faults faults_behind lowest output_after
  behind-fields o e = record { answer = sym (rw (← eb, e)); output = refl }

  module _ (e : b ≡ true) where
    good : fields_good f t at ≡ true
    good = sym eb ∙ e

    pub behind-place : at + 14 ≤ length f
    unfolding fields_good
    behind-place =
        leb-true (at + 14) (length f)
        (and_left (leb (at + 14) (length f))
        (eqb (u16_at f at) 0x8000
        && (is_module_info f t (u16_at f (at + 2))
        && ((eqb (u16_at f (at + 4)) 0 && eqb (u16_at f (at + 6)) 0) && (eqb (u16_at f (at + 8)) 0 && eqb (u16_at f (at + 10)) 0))))
        good)

    module _ (n : ℕ) (en : n ≡ u16_at f (at + 12)) where
      pub behind-fault : (o : List ℕ) (x : Fault) (r : Written) → Err x ≡ walk_from f t n nothing_seen (at + 14) → r ≡ Err (DescriptorParseError x.at) → BehindRead f t at o o r
      unfolding output_after
      behind-fault o x r h er = rw er (record { answer = sym (Lowest.behind-fault f t at x.at _ good (sym (h ∙ rw en))); output = refl })

      module _ (w : Walked) (h : Ok w ≡ walk_from f t n nothing_seen (at + 14)) where
        walked : walk_from f t (u16_at f (at + 12)) nothing_seen (at + 14) ≡ Ok w
        walked = sym (h ∙ rw en)

        pub behind-found : Readable f t w.seen
        behind-found = found_readable f t (u16_at f (at + 12)) (at + 14) w walked

        pub behind-measured : w.size ≡ module_size f t w.seen
        behind-measured = found-measured f t (u16_at f (at + 12)) nothing_seen (at + 14) w walked

        pub behind-read : (o o₁ : List ℕ) (r : Written) → ItemsRead (descriptor_items f t w.seen) o o₁ r → BehindRead f t at o o₁ r
        unfolding then_faults
        behind-read o o₁ r i =
            let a : faults_behind f t at ≡ [] = Lowest.behind-found f t at w good walked in
            let c : seen_behind f t at ≡ w.seen = Lowest.behind-seen f t at w walked in
            record { answer = i.answer ∙ sym (rw (a, c)); output = i.output ∙ sym (rw c) }

pub ruleset behind-laws = (behind-fields, behind-place, behind-fault, behind-found, behind-measured, behind-read)

-- ---- the pool

module _ (f : List ℕ) (h : head_good f ≡ true) where
  pub head-long : 10 ≤ length f
  unfolding head_good
  head-long =
      leb-true 10 (length f)
      (and_left (leb 10 (length f)) ((eqb (u16_at f 0) 0xCAFE && eqb (u16_at f 2) 0xBABE) && (leb 53 (u16_at f 6) && ltb 0 (pool_count f))) h)

  pub head-some : (n : ℕ) → n ≡ u16_at f 8 → 1 ≤ n
  unfolding head_good pool_count
  head-some n e =
      let l : 0 < u16_at f 8 =
      ltb-true 0 (u16_at f 8)
      (and_right (leb 53 (u16_at f 6)) (ltb 0 (u16_at f 8))
      (and_right (eqb (u16_at f 0) 0xCAFE && eqb (u16_at f 2) 0xBABE) (leb 53 (u16_at f 6) && ltb 0 (u16_at f 8))
      (and_right (leb 10 (length f)) ((eqb (u16_at f 0) 0xCAFE && eqb (u16_at f 2) 0xBABE) && (leb 53 (u16_at f 6) && ltb 0 (u16_at f 8))) h))) in
      omega arith

module _ (f : List ℕ) (n : ℕ) (en : n ≡ u16_at f 8) where
  pub pool-room : (t : List ℕ) → leb (pool_count f) (length t) || leb 21846 (length t) ≡ true → leb n (length t) || leb 21846 (length t) ≡ true
  unfolding pool_count
  pool-room t e = rw en e

  module _ (t₀ t₁ : List ℕ) (p : Result ℕ Fault) (k : Filled f n t₀ t₁ p) where
    pool-is : p ≡ pool_end f
    unfolding pool_end pool_count
    pool-is = k.answer ∙ rw en

    pub pool-fault : (o : List ℕ) (x : Fault) (r : Written) → p ≡ Err x → r ≡ Err (DescriptorParseError x.at) → PoolRead f (pool_of f) (pool_end f) o o r
    unfolding then_faults faults_from lowest output_after
    pool-fault o x r e er = rw er (record { answer = sym (rw (← pool-is, e)); output = refl })

    module _ (at : ℕ) (e : p ≡ Ok at) where
      pub pool-within : n ≤ length t₁
      pool-within = k.within at e

      pub pool-part : n ≡ length (take n t₁)
      pool-part = sym (length-take-le n t₁ pool-within)

      pub pool-low : at ≤ length f
      pool-low = k.low at e

      pub pool-read : (o o₁ : List ℕ) (r : Written) → BehindRead f (take n t₁) at o o₁ r → PoolRead f (pool_of f) (pool_end f) o o₁ r
      unfolding faults_from items_from pool_of pool_count
      pool-read o o₁ r i =
          let q : take n t₁ ≡ pool_of f = k.offsets at e ∙ rw en in
          let j : BehindRead f (pool_of f) at o o₁ r = rw q at i in
          record { answer = j.answer ∙ rw (← pool-is, e); output = j.output ∙ rw (← pool-is, e) }

pub ruleset pool-laws = (head-long, head-some, pool-room, pool-fault, pool-within, pool-part, pool-low, pool-read)

-- a table has room: for the few constants that there are, or for as many as a file can have
pub table-few : (f t : List ℕ) (n : ℕ) → n ≡ u16_at f 8 → n ≤ 2048 → 2048 ≤ length t → leb (pool_count f) (length t) || leb 21846 (length t) ≡ true
unfolding pool_count
table-few f t n e l k = rw (le-leb (u16_at f 8) (length t) (omega (arith, e)))

pub table-many : (f t : List ℕ) → 21846 ≤ length t → leb (pool_count f) (length t) || leb 21846 (length t) ≡ true
table-many f t k = rw (le-leb 21846 (length t) k) (or-true (leb (pool_count f) (length t)))

-- ---- the whole

pub class-good : (f : List ℕ) (b : Bool) → b ≡ head_good f → b ≡ true → head_good f ≡ true
class-good f b eb e = sym eb ∙ e

module _ (f o : List ℕ) where
  pub class-long : 65535 < length f → ClassRead f o o (Err (TooLarge 0))
  unfolding class_answer output_after
  class-long l = record { answer = sym (rw (lt-ltb 65535 (length f) l)); output = refl }

  module _ (l : length f ≤ 65535) (b : Bool) (eb : b ≡ head_good f) where
    pub class-head : b ≡ false → ClassRead f o o (Err (DescriptorParseError 0))
    unfolding class_answer output_after
    class-head e = record { answer = sym (rw (le-ltb 65535 (length f) l) (Lowest.head-bad f _ (sym eb ∙ e))); output = refl }

    pub class-read : b ≡ true → (o₁ : List ℕ) (r : Written) → PoolRead f (pool_of f) (pool_end f) o o₁ r → ClassRead f o o₁ r
    unfolding class_answer items_of
    class-read e o₁ r p = record { answer = p.answer ∙ sym (rw (le-ltb 65535 (length f) l, Lowest.head_passed f (class-good f b eb e))); output = p.output }

pub ruleset class-laws = (class-long, class-head, class-good, class-read)
