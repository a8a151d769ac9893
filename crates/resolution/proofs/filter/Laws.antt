-- The filter of names: what its bits tell, and what each turn of the marking shows.
use mathlib.Core.Path.{◌≡◌, refl, sym, ap, ◌∙◌, subst}
use mathlib.Core.Bool.{Bool, true, false, ◌||◌}
use mathlib.Core.List.{List, [], ◌∷◌, map}
use mathlib.Core.Logic.{◌⊎◌, inl, inr, ⊎_elim}
use Prim.Native.Nat.{ℕ, ◌-◌, ◌/◌, ◌%◌, ◌≤◌, ◌<◌}
use native.Mathlib.Omega.{arith}
use lib.Dec.{eqb}
use lib.ListN.{length, get_or, take, drop, set}
use borrow.Author.Tests.{eq-eqb}
use Rattle.records.specs.Bytes.{same_bytes}
use Rattle.records.specs.Name.{mem_name, name_of}
use Rattle.records.specs.Record.{bodies, next_of}
use Rattle.records.specs.Record.{Next}
use Rattle.records.specs.declared.record.Kind.{Kind}
use Rattle.records.proofs.record.Bodies.{bodies-next, bodies-end, next-room, next-less}
use Rattle.records.proofs.Logic.{by, and_left, and_right, and_both, or_left, or_right, or_cases, true≠false, neither_left, neither_right}
use Rattle.resolution.specs.Lists.{Name, any}
use Rattle.resolution.specs.Row.{bit, holds}
use Rattle.resolution.specs.Hash.{hash_of}
use Rattle.resolution.specs.Filter.{has_bits, is_marked, BitSet, BitsSet, MarkedAll}
use Rattle.resolution.proofs.Lists.{same→}
use Rattle.resolution.proofs.row.Laws.{holds-added}
use Rattle.std.specs.Prelude.{Some, None}
use Rattle.records.specs.declared.record.Span.{Span}

-- ---- the bits of a number

-- a bit is set, where a word v that has it more is stored in the place of its word
pub set-bit-is : (g : List ℕ) (a v : ℕ) → length g ≡ 1024 → a < 65536 → ((b : ℕ) → bit v b ≡ bit (get_or g (a / 64) 0) b || eqb b (a % 64)) → BitSet g a (set g (a / 64) v)
set-bit-is g a v n l h = record { each = holds-added g a v (omega arith) h }

module _ (words : List ℕ) (h : ℕ) (r : Bool) (er : r ≡ holds words (h % 65536)) where
  pub bits-not : r ≡ false → r ≡ has_bits words h
  unfolding has_bits
  bits-not f = f ∙ rw (← er, f)

  pub bits_are : (q : Bool) → r ≡ true → q ≡ holds words (h / 65536 % 65536) → q ≡ has_bits words h
  unfolding has_bits
  bits_are q t eq = rw (← er, t, ← eq)

pub ruleset bits-laws = (bits-not, bits_are)

module _ (g : List ℕ) (h : ℕ) (g₁ : List ℕ) (e : BitSet g h g₁) where
  bit_kept : (x : ℕ) → holds g x ≡ true → holds g₁ x ≡ true
  bit_kept x t = e.each x ∙ or_left (holds g x) (eqb x h) t

  bit-new : holds g₁ h ≡ true
  bit-new = e.each h ∙ or_right (holds g h) (eqb h h) (eq-eqb h h refl)

pub set-bits-is : (g : List ℕ) (h : ℕ) (g₁ g₂ : List ℕ) → BitSet g (h % 65536) g₁ → BitSet g₁ (h / 65536 % 65536) g₂ → BitsSet g h g₂
unfolding has_bits
set-bits-is g h g₁ g₂ p q = record {
  kept = λ x t. and_both (on (x % 65536) (and_left (holds g (x % 65536)) (holds g (x / 65536 % 65536)) t))
      (on (x / 65536 % 65536) (and_right (holds g (x % 65536)) (holds g (x / 65536 % 65536)) t));
  new = and_both (bit_kept g₁ (h / 65536 % 65536) g₂ q (h % 65536) (bit-new g (h % 65536) g₁ p)) (bit-new g₁ (h / 65536 % 65536) g₂ q);
}
  where
    on : (x : ℕ) → holds g x ≡ true → holds g₂ x ≡ true
    on x t = bit_kept g₁ (h / 65536 % 65536) g₂ q x (bit_kept g (h % 65536) g₁ p x t)

-- ---- a name is marked

module _ (words : List ℕ) (n : Name) (h : ℕ) (eh : h ≡ hash_of n) where
  pub marked-is : (r : Bool) → r ≡ has_bits words h → r ≡ is_marked words n
  unfolding is_marked
  marked-is r er = er ∙ ap (has_bits words) eh

  pub mark_is : (words₁ : List ℕ) → BitsSet words h words₁ → MarkedAll words (n ∷ []) words₁
  unfolding is_marked mem_name
  mark_is words₁ b = record {
    kept = λ x t. b.kept (hash_of x) t;
    new = λ x t. or_cases (same_bytes n x) false t (λ s. subst (λ (y : Name). is_marked words₁ y ≡ true) (sym (same→ x n s)) here) (λ f. true≠false f refl);
  }
    where
      here : is_marked words₁ n ≡ true
      here = subst (λ (x : ℕ). has_bits words₁ x ≡ true) eh b.new

pub ruleset mark-laws = (marked-is, mark_is)

-- ---- the names of a block are marked

-- those of the records before `at` are, and none of them was where none is met
pub record MarkAt (k : Kind) (block before words : List ℕ) (at : ℕ) (met : Bool) : Type 0 where
  pub within : at ≤ length block
  pub long : length words ≡ length before
  pub wide : length before ≡ 1024
  pub kept : (n : Name) → is_marked before n ≡ true → is_marked words n ≡ true
  pub left : (n : Name) → mem_name n (map name_of (bodies k block)) ≡ true
      → (is_marked words n ≡ true) ⊎ (mem_name n (map name_of (bodies k (drop at block))) ≡ true)
  pub unmet : met ≡ false → any (is_marked before) (map name_of (bodies k block)) ≡ any (is_marked before) (map name_of (bodies k (drop at block)))

pub names-start : (k : Kind) (block words : List ℕ) → length words ≡ 1024 → MarkAt k block words words 0 false
names-start k block words e = record { within = omega arith; long = refl; wide = e; kept = λ n t. t; left = λ n t. inr t; unmet = λ f. refl }

module _ (k : Kind) (block before words : List ℕ) (at : ℕ) (met : Bool) (h : MarkAt k block before words at met) where
  pub names-long : length words ≡ 1024
  names-long = h.long ∙ h.wide

  pub names_same : length words ≡ length before
  names_same = h.long

  module _ (r : Next) (er : r ≡ next_of k block at) where
    module _ (span : Span) (e : r ≡ Some span) where
      pub names-less : length block - span.next.at < length block - at
      names-less = next-less k block at r er span.start span.len span.next e h.within

      pub names_more : (b n words₁ : List ℕ) (was more : Bool) → b ≡ take span.len (drop span.start block) → n ≡ name_of b → length words₁ ≡ length words → was ≡ is_marked words n
          → MarkedAll words (n ∷ []) words₁ → more ≡ (met || was) → MarkAt k block before words₁ span.next.at more
      unfolding mem_name any
      names_more b n words₁ was more eb en el ew m em = record {
        within = next-room k block at r er span.start span.len span.next e h.within;
        long = el ∙ h.long;
        wide = h.wide;
        kept = λ x t. m.kept x (h.kept x t);
        left = λ x t. ⊎_elim (λ s. inl (m.kept x s)) (λ s. turned x s) (h.left x t);
        unmet = λ f. passed (sym em ∙ f);
      }
        where
          name-is : n ≡ name_of (take span.len (drop span.start block))
          name-is = en ∙ ap name_of eb

          new : was ≡ false → is_marked before (name_of (take span.len (drop span.start block))) ≡ false
          new f =
              by (is_marked before (name_of (take span.len (drop span.start block))))
              (λ t. true≠false (ap (is_marked words) name-is ∙ h.kept (name_of (take span.len (drop span.start block))) t) (sym ew ∙ f))
              (λ t. t)

          passed : (met || was) ≡ false
              → any (is_marked before) (map name_of (bodies k block)) ≡ any (is_marked before) (map name_of (bodies k (drop span.next.at block)))
          passed f =
              h.unmet (neither_left met was f) ∙ rw (bodies-next k block at r er span.start span.len span.next e h.within, new (neither_right met was f))

          turned : (x : Name) → mem_name x (map name_of (bodies k (drop at block))) ≡ true
              → (is_marked words₁ x ≡ true) ⊎ (mem_name x (map name_of (bodies k (drop span.next.at block))) ≡ true)
          turned x s =
              let p : (same_bytes (name_of (take span.len (drop span.start block))) x || mem_name x (map name_of (bodies k (drop span.next.at block)))) ≡ true =
              rw (bodies-next k block at r er span.start span.len span.next e h.within) at s in
              or_cases (same_bytes (name_of (take span.len (drop span.start block))) x) (mem_name x (map name_of (bodies k (drop span.next.at block)))) p
              (λ q. inl (m.new x (or_left (same_bytes n x) false (ap (λ (y : Name). same_bytes y x) name-is ∙ q)))) (λ q. inr q)

    pub names-done : r ≡ None → MarkedAll before (map name_of (bodies k block)) words
    unfolding mem_name
    names-done e = record {
      kept = h.kept;
      new = λ n t. ⊎_elim (λ s. s) (λ s. none n s) (h.left n t);
    }
      where
        none : (n : Name) → mem_name n (map name_of (bodies k (drop at block))) ≡ true → is_marked words n ≡ true
        none n s = let p : false ≡ true = rw (bodies-end k block at r er e) at s in true≠false p refl

    pub names_unmet : r ≡ None → met ≡ false → any (is_marked before) (map name_of (bodies k block)) ≡ false
    unfolding any
    names_unmet e f = h.unmet f ∙ rw (bodies-end k block at r er e)

pub ruleset names-laws = (names-start, names-long, names_same, names-less, names_more, names-done, names_unmet)
